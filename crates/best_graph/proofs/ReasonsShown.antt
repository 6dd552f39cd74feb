-- What a search without bits shows of the graphs of a problem.
use Rattle.std.proofs.Common.{◌≡◌, subst, ℕ, ◌<◌, ◌-◌, ◌^◌, Bool, true, List, [], Contains, length, arith}
use Rattle.clause_store.specs.Clauses.{Clauses, clauses_of, Meets}
use Rattle.clause_solver.specs.Models.{values_in}
use Rattle.proof_log.specs.declared.line.Line.{Line}
use Rattle.proof_log.specs.Known.{AllClauses}
use Rattle.proof_log.specs.Certificates.{IsRefutation, IsSpentLog}
use Rattle.explain_failure.specs.Uses.{stands, AreReasons, IsRefuted}
use Rattle.optimum_search.specs.Finding.{IsFound, IsBest, MeetsAll}
use Rattle.optimum_search.specs.declared.found.Found.TheVariants.{Optimal, Refuted, Spent}
use Rattle.graph_core.specs.Graphs.{Content}
use Rattle.graph_decoding.specs.Decoding.{decode}
use Rattle.problem.specs.Nodes.{IsWellFormed}
use Rattle.problem.specs.Problems.{Problem}
use Rattle.problem.specs.declared.demand.Demand.{Demand}
use Rattle.graph_rules.specs.Valid.{valid_for}
use Rattle.graph_levels.specs.Stages.{Decodes}
use Rattle.graph_encoding.specs.Encodings.{asked_demands, IsValid}
use Rattle.problem_encoding.specs.declared.encoded.Rules.{Rules}
use Rattle.problem_encoding.specs.Encodings.{AreRules, RulesDecode}
use Rattle.problem_encoding.specs.Built.{rule_clauses, table_of}
use Rattle.best_graph.proofs.Least.{all, valid-is, nothing}
use Rattle.best_graph.specs.Explanations.{HasGraph, IsUnmet}
use Rattle.problem.specs.Demands.{demands_at}
use Rattle.best_graph.specs.Grounds.{IsSpent}
use Rattle.best_graph.specs.Grounds as grounds
use Rattle.best_graph.proofs.Asked.{asked_at}

-- no assignment meets the clauses of the structure and of the reasons
abbrev pub NoModel : Type 0
NoModel = (s : Clauses) (lines : List Line) (ds : List ℕ) (v : ℕ → Bool) → AllClauses (clauses_of s.entries) → IsRefuted s lines
    → AreReasons s.entries lines ds → Meets (stands ds) v s.entries → ⊥

-- a graph that is valid for some demands has an assignment that meets what is asked for among them
abbrev pub HasModels : Type 0
HasModels = (problem : Problem) (list : Clauses) (decode : (ℕ → Bool) → Content) (some : List Demand) (asked : ℕ → Bool) (g : Content)
    → Decodes list decode (IsValid problem) → IsWellFormed g → valid_for some problem g ≡ true
    → ((d : Demand) → Contains (asked_demands problem asked) d → Contains some d)
    → (v : ℕ → Bool) × (decode v ≡ g) × Meets asked v list.entries

module _ (problem : Problem) (rules : Rules) (ruled : AreRules problem rules) (decodes : RulesDecode problem) (budget : ℕ) where
  -- a model decodes to a valid graph
  pub satisfiable : (model : List Bool) (log : List Line) → IsFound rules.clauses [] budget (Optimal model log) → HasGraph problem
  satisfiable model log found =
      let graph = decode (values_in model) (table_of problem) in
      let meets = subst (λ (s : Clauses). MeetsAll (values_in model) s) ruled.clauses found.1 in
      let right = decodes.sound all (values_in model) meets in
      record { graph = graph; well_formed = right.0; is_valid = valid-is problem graph right }

  -- a graph that is valid for the reasons would have a model
  pub unmet : NoModel → HasModels → (log : List Line) (numbers : List ℕ) → AllClauses (clauses_of rules.clauses.entries)
      → IsFound rules.clauses [] budget (Refuted log) → IsBest rules.clauses [] budget (Refuted log)
      → AreReasons rules.clauses.entries log numbers
      → IsUnmet problem numbers
  unmet no_model has_models log numbers ordered found best reasons =
      let own = rule_clauses problem in
      let refuted : IsRefutation own.vars (clauses_of own.entries) [] log =
      subst (λ (s : Clauses). IsRefutation s.vars (clauses_of s.entries) [] log) ruled.clauses found.0 in
      let rests = subst (λ (s : Clauses). AreReasons s.entries log numbers) ruled.clauses reasons in
      let rising = subst (λ (s : Clauses). AllClauses (clauses_of s.entries)) ruled.clauses ordered in
      record {
        alone = λ graph well ok.
            let w = has_models problem own (λ v. decode v (table_of problem)) (demands_at problem numbers) (stands numbers) graph
            decodes well ok
            (asked_at problem numbers) in
            no_model own log numbers w.0 rising ([], refuted) rests w.2;
        none = nothing problem own (λ v. decode v (table_of problem)) decodes
            (subst (λ (s : Clauses). IsBest s [] budget (Refuted log)) ruled.clauses best);
      }

  -- it is a refutation of the problem's own rules
  pub refuted : (log : List Line) (numbers : List ℕ) → IsFound rules.clauses [] budget (Refuted log)
      → AreReasons rules.clauses.entries log numbers
      → grounds.IsRefuted problem numbers log
  refuted log numbers found reasons = record {
    refutation = subst (λ (s : Clauses). IsRefutation s.vars (clauses_of s.entries) [] log) ruled.clauses found.0;
    reasons = subst (λ (s : Clauses). AreReasons s.entries log numbers) ruled.clauses reasons;
  }

  -- a spent budget
  pub spent : (log : List Line) → IsFound rules.clauses [] budget (Spent log) → IsBest rules.clauses [] budget (Spent log)
      → IsSpent problem budget log
  spent log found best = record {
    spent = subst (λ (s : Clauses). IsSpentLog s.vars (clauses_of s.entries) [] budget log) ruled.clauses found;
    small = subst (λ (s : Clauses). budget < 3 ^ s.vars) ruled.clauses best.0;
  }

  -- more lines were written than the budget counts, and a list in memory has fewer than 2^64
  pub finite : (log : List Line) → length log < 2 ^ 64 → IsBest rules.clauses [] budget (Spent log) → budget < 2 ^ 64 - 1
  finite log short best = omega (arith, short, best.1)
