use Rattle.std.proofs.Common.{◌≡◌, ℕ, ◌+◌, subst, refl, arith}
use Rattle.std.specs.Cmp.Lexicographic.{nat_list_cmp_total}
use Rattle.variant_values.specs.Texts.{byte_cmp}
use Rattle.keyed_lists.proofs.RiseLaws.{rises_decides}
use Rattle.table_plan.specs.Plans.{plan_of}
use Rattle.literal_table.specs.Ranges.{IsTableBelow}
use Rattle.graph_decoding.specs.Structure.{structure}
use Rattle.graph_decoding.specs.Decoding.{decode}
use Rattle.valid_models.specs.Tables.{table_for, size_for}
use Rattle.valid_models.specs.Targets.{conditions_of, targets_of}
use Rattle.valid_models.specs.Joined.{holds_at}
use Rattle.valid_models.specs.Closures.{closure_formulas, ClosureIsRight}
use Rattle.valid_models.proofs.BuiltNames.{has-built-variants}
use Rattle.valid_models.proofs.closure_theorems.closure_laws.Goals as goal

zero-more : (k : ℕ) → 0 + k ≡ k
zero-more k = omega arith

pub returns : goal.returns
returns c =
    let both : ClosureIsRight = λ problem names place closure has placed.
    let plan = plan_of problem names in
    let t = table_for problem names in
    let n = size_for problem names in
    let f = closure_formulas problem names place in
    let right = c.plan_laws.ensures.plan problem names ((rises_decides byte_cmp nat_list_cmp_total names).0 closure.rising) in
    let table = c.spelling_laws.ensures.table 0 plan right in
    let below = subst (λ k. IsTableBelow k t) (zero-more n) (c.spelling_laws.ensures.below 0 plan) in (
      c.right_tables.ensures problem names f closure has refl,
      c.right_rules.ensures problem t n (structure t) place table below (has-built-variants problem names) placed,
    ) in
    record {
      right = both;
      decodes = λ problem names place closure has placed.
          let t = table_for problem names in
          let b = both problem names place closure has placed in
          c.encoding_laws.ensures problem t (size_for problem names) (closure_formulas problem names place) (λ v. decode v t)
          (targets_of problem t)
          (holds_at problem (conditions_of problem t)) b.0 b.1;
      structured = λ problem names place closure has placed.
          let t = table_for problem names in
          let b = both problem names place closure has placed in
          c.model_laws.ensures.structured problem t (size_for problem names) (closure_formulas problem names place) (λ v. decode v t)
          (targets_of problem t)
          (holds_at problem (conditions_of problem t)) b.0 b.1;
      table = λ problem names closure.
          let plan = plan_of problem names in
          let right = c.plan_laws.ensures.plan problem names ((rises_decides byte_cmp nat_list_cmp_total names).0 closure.rising) in (
            c.spelling_laws.ensures.table 0 plan right,
            subst (λ k. IsTableBelow k (table_for problem names)) (zero-more (size_for problem names))
                (c.spelling_laws.ensures.below 0 plan),
          );
      range = λ problem names place closure has placed.
          let t = table_for problem names in
          let b = both problem names place closure has placed in
          c.model_laws.ensures.range problem t (size_for problem names) (closure_formulas problem names place) (λ v. decode v t)
          (targets_of problem t)
          (holds_at problem (conditions_of problem t)) b.0 b.1;
      ranks = λ problem names place new bits sums numbers closure has placed orders says.
          let t = table_for problem names in
          let b = both problem names place closure has placed in
          c.ranking_laws.ensures problem t (size_for problem names) (closure_formulas problem names place) (λ v. decode v t)
          (targets_of problem t)
          (holds_at problem (conditions_of problem t)) new bits sums numbers b.0 b.1 orders says;
    }
