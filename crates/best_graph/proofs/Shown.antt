-- What certificates and refutations show.
use Rattle.std.proofs.Common.{◌≡◌, sym, ap, subst, ◌∙◌, ℕ, Bool, true, List, [], Some}
use Rattle.clause_store.specs.Clauses.{clauses_of}
use Rattle.clause_store.proofs.Entries.{Meets-all}
use Rattle.criteria_totals.specs.Spellings.{bits_for}
use Rattle.criteria_totals.specs.Totals.{values_at}
use Rattle.proof_log.specs.declared.line.Line.{Line}
use Rattle.proof_log.specs.Known.{AllClauses}
use Rattle.proof_log.specs.Certificates.{bits_at, IsBelow}
use Rattle.proof_log.proofs.Optimal.{certificate_least, refutation_none}
use Rattle.clause_solver.specs.Models.{values_in}
use Rattle.optimum_search.specs.Finding.{MeetsAll}
use Rattle.graph_core.specs.Graphs.{Content}
use Rattle.problem.specs.Problems.{Problem}
use Rattle.problem.specs.Nodes.{IsWellFormed}
use Rattle.graph_rules.specs.Valid.{valid}
use Rattle.graph_rules.specs.Costs.{vector}
use Rattle.graph_rules.specs.Optimal.{IsOptimal, HasNoGraph}
use Rattle.graph_decoding.specs.Decoding.{decode}
use Rattle.problem_encoding.specs.declared.encoded.Encoded.{Encoded}
use Rattle.problem_encoding.specs.Encodings.{IsEncoded, RulesDecode}
use Rattle.problem_encoding.specs.Built.{encoding_of, rule_clauses, table_of}
use Rattle.best_graph.specs.declared.answer.Answer.TheVariants.{Best, Nothing}
use Rattle.best_graph.specs.Answers.{IsAnswer}
use Rattle.best_graph.proofs.Least.{all, is-valid, optimal, nothing}
use Rattle.best_graph.specs.Verdicts.{SpellsCost, Certifies, Refutes}

some-same : (x y : List Bool) → Some x ≡ Some y → x ≡ y
some-same x y e = cc

module _ (problem : Problem) (e : Encoded) (encoded : IsEncoded problem e) where
  -- a model of the graph has the values of its costs
  pub values-are : (graph : Content) (values : List Bool) (v : ℕ → Bool) → MeetsAll v e.clauses → decode v e.table ≡ graph
      → SpellsCost problem e graph values → bits_at v e.bits.lits ≡ values
  values-are graph values v meets same spelled =
      some-same (bits_at v e.bits.lits) values
      (sym (encoded.spells v meets) ∙ ap (λ g. bits_for e.bits.tops (vector problem g)) same ∙ spelled)

  -- a graph below whose values no model is, is optimal
  pub least-optimal : (graph : Content) (values : List Bool) → IsWellFormed graph → valid problem graph ≡ true
      → SpellsCost problem e graph values
      → ((v : ℕ → Bool) → MeetsAll v e.clauses → IsBelow (bits_at v e.bits.lits) values → ⊥) → IsOptimal problem graph
  least-optimal graph values formed ok spelled least =
      let w = encoded.encodes.decodes.complete all graph (is-valid problem graph formed ok) in
      let same = values-are graph values w.0 w.2 w.1 spelled in
      let best = optimal problem e.clauses e.bits.lits (λ v. decode v e.table) encoded.encodes w.0 w.2
      (λ u meets below. least u meets (subst (IsBelow (bits_at u e.bits.lits)) same below)) in
      subst (IsOptimal problem) w.1 best.1

  module _ (ordered : AllClauses (clauses_of e.clauses.entries)) (log : List Line) where
    -- so is one that is certified
    pub certified : (graph : Content) (values : List Bool) → IsWellFormed graph → valid problem graph ≡ true
        → SpellsCost problem e graph values
        → Certifies e values log → IsOptimal problem graph
    certified graph values formed ok spelled certificate =
        least-optimal graph values formed ok spelled (λ v meets below.
        certificate_least e.clauses.vars (clauses_of e.clauses.entries) e.bits.lits values log v ordered certificate
        ((Meets-all v e.clauses.entries).0 meets) below)

module _ (problem : Problem) (decodes : RulesDecode problem) where
  -- no model of the rules: no graph
  pub no-graph : ((v : ℕ → Bool) → MeetsAll v (rule_clauses problem) → ⊥) → HasNoGraph problem
  no-graph none = nothing problem (rule_clauses problem) (λ v. decode v (table_of problem)) decodes none

  -- a refutation of the rules: no graph
  pub refuted : AllClauses (clauses_of (rule_clauses problem).entries) → (log : List Line) → Refutes problem log → HasNoGraph problem
  refuted ordered log refutation =
      let rules = rule_clauses problem in
      no-graph (λ v meets.
      refutation_none rules.vars (clauses_of rules.entries) [] log v ordered refutation ((Meets-all v rules.entries).0 meets))

-- the log of an answer that has a graph
pub best-certified : (problem : Problem) (budget : ℕ) (graph : Content) (log : List Line) → IsAnswer problem budget (Best graph log)
    → (values : List Bool) × SpellsCost problem (encoding_of problem) graph values × Certifies (encoding_of problem) values log
best-certified problem budget graph log answer =
    let e = encoding_of problem in
    let (encoded, (model, found, same)) = answer.shows in
    let v : ℕ → Bool = values_in model in
    let spelled : SpellsCost problem e graph (values_at v e.bits.lits) =
    ap (λ g. bits_for e.bits.tops (vector problem g)) (sym same) ∙ encoded.spells v found.1 in
    (bits_at v e.bits.lits, spelled, found.2)

-- the log of an answer that has none
pub nothing-refuted : (problem : Problem) (budget : ℕ) (log : List Line) → IsAnswer problem budget (Nothing log) → Refutes problem log
nothing-refuted problem budget log answer = answer.shows.1.0
