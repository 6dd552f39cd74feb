-- What was found, as an answer.
use Rattle.std.proofs.Common.{◌≡◌, sym, subst, ℕ, ◌<◌, ◌^◌, Bool, true, List, [], length, inl, inr, arith}
use Rattle.clause_store.specs.Clauses.{Clauses}
use Rattle.proof_log.specs.declared.line.Line.{Line}
use Rattle.proof_log.specs.Lines.{AllLines}
use Rattle.proof_log.specs.Texts.{IsLine, may_write}
use Rattle.clause_solver.specs.Models.{values_in}
use Rattle.optimum_search.specs.Finding.{IsFound, IsBest}
use Rattle.optimum_search.specs.declared.found.Found.TheVariants.{Optimal, Refuted, Spent}
use Rattle.graph_core.specs.Graphs.{Content}
use Rattle.problem.specs.Nodes.{IsWellFormed}
use Rattle.problem.specs.Problems.{Problem}
use Rattle.graph_rules.specs.Optimal.{IsOptimal}
use Rattle.graph_decoding.specs.Decoding.{decode}
use Rattle.problem_encoding.specs.Encodings.{AreRules, IsEncoded, RulesDecode}
use Rattle.problem_encoding.specs.Built.{encoding_of, rule_clauses, table_of}
use Rattle.problem_encoding.specs.declared.encoded.Encoded.{Encoded}
use Rattle.problem_encoding.specs.declared.encoded.Rules.{Rules}
use Rattle.best_graph.specs.declared.answer.Answer.TheVariants.{Best, Nothing, Undecided}
use Rattle.best_graph.specs.Answers.{CertifiedOver, HasModel, IsAnswer, SpentOver}
use Rattle.best_graph.proofs.Least.{all, optimal, nothing}

-- the rules alone: that no graph is valid, or that the budget was spent
module _ (problem : Problem) (rules : Rules) (ruled : AreRules problem rules) (budget : ℕ) (log : List Line)
    (lines : AllLines IsLine log) (writable : AllLines (λ line. may_write line ≡ true) log) where
  -- a refutation of the rules: no graph
  pub nothing-answer : RulesDecode problem → IsFound rules.clauses [] budget (Refuted log) → IsBest rules.clauses [] budget (Refuted log)
      → IsAnswer problem budget (Nothing log)
  nothing-answer decodes found best = record {
    means = nothing problem (rule_clauses problem) (λ v. decode v (table_of problem)) decodes
        (subst (λ (s : Clauses). IsBest s [] budget (Refuted log)) ruled.clauses best);
    lines = lines;
    writable = writable;
    shows = (decodes, subst (λ (s : Clauses). IsFound s [] budget (Refuted log)) ruled.clauses found);
  }

  -- a spent budget over the rules
  pub stopped-answer : length log < 2 ^ 64 → RulesDecode problem → IsFound rules.clauses [] budget (Spent log)
      → IsBest rules.clauses [] budget (Spent log)
      → IsAnswer problem budget (Undecided log)
  stopped-answer finite decodes found best = record {
    means = (best.1, omega (arith, finite, best.1));
    lines = lines;
    writable = writable;
    shows = inl (decodes, subst (λ (s : Clauses). SpentOver s [] budget log) ruled.clauses (found, best.0));
  }

-- the encoding: a best graph, or that the budget was spent
module _ (problem : Problem) (e : Encoded) (encoded : IsEncoded problem e) (built : e ≡ encoding_of problem) (budget : ℕ)
    (log : List Line) where
  module _ (lines : AllLines IsLine log) (writable : AllLines (λ line. may_write line ≡ true) log) where
    -- the least bits: the best graph
    pub best-answer : (model : List Bool) (graph : Content) → IsFound e.clauses e.bits.lits budget (Optimal model log)
        → IsBest e.clauses e.bits.lits budget (Optimal model log) → graph ≡ decode (values_in model) e.table
        → IsAnswer problem budget (Best graph log)
    best-answer model graph found best same =
        let m = optimal problem e.clauses e.bits.lits (λ v. decode v e.table) encoded.encodes (values_in model) found.1 best in record {
          means = subst (λ g. IsWellFormed g × IsOptimal problem g) (sym same) m;
          lines = lines;
          writable = writable;
          shows = (
            subst (IsEncoded problem) built encoded,
            subst (λ (x : Encoded). CertifiedOver x budget graph log) built (model, found, sym same),
          );
        }

    -- a spent budget over all clauses
    pub spent-answer : length log < 2 ^ 64 → IsFound e.clauses e.bits.lits budget (Spent log)
        → IsBest e.clauses e.bits.lits budget (Spent log) → IsAnswer problem budget (Undecided log)
    spent-answer finite found best = record {
      means = (best.1, omega (arith, finite, best.1));
      lines = lines;
      writable = writable;
      shows = inr (
        subst (IsEncoded problem) built encoded,
        subst (λ (x : Encoded). SpentOver x.clauses x.bits.lits budget log) built (found, best.0),
      );
    }

  -- where the rules have a model, nothing refutes the encoding
  pub unrefuted : RulesDecode problem → HasModel (rule_clauses problem) → IsBest e.clauses e.bits.lits budget (Refuted log) → ⊥
  unrefuted decodes (v, meets) best =
      let w = encoded.encodes.decodes.complete all (decode v (table_of problem)) (decodes.sound all v meets) in
      best w.0 w.2
