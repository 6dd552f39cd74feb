use Rattle.std.proofs.Common.{◌≡◌, ℕ, ◌+◌, subst, false, arith}
use Rattle.std.specs.Cmp.Lexicographic.{nat_list_cmp_total}
use Rattle.variant_values.specs.Texts.{byte_cmp}
use Rattle.keyed_lists.proofs.RiseLaws.{rises_decides}
use Rattle.table_plan.specs.Plans.{plan_of}
use Rattle.literal_table.specs.Ranges.{IsTableBelow}
use Rattle.table_plan.specs.Spellings.{spelling}
use Rattle.valid_models.specs.Tables.{table_for, size_for}
use Rattle.valid_models.proofs.RightTable.{right-table}
use Rattle.valid_models.proofs.table_theorems.right_tables.Goals as goal

pub returns : goal.returns
returns c = λ problem names f closure has same.
    let plan = plan_of problem names in
    let t = table_for problem names in
    let n = size_for problem names in
    let right = c.plan_laws.ensures.plan problem names ((rises_decides byte_cmp nat_list_cmp_total names).0 closure.rising) in
    let table = c.spelling_laws.ensures.table 0 plan right in
    let below = subst (λ k. IsTableBelow k t) (zero-more n) (c.spelling_laws.ensures.below 0 plan) in
    right-table problem t n f table below same
    (c.structure_laws.ensures.in_range n t below)
    (λ v s. c.structure_laws.ensures.spells v t table s)
    (λ v g is s. c.structure_laws.ensures.spelled v t g table is s)
    (λ v s. c.decoding_laws.ensures.graph v t table s)
    (λ v. c.decoding_laws.ensures.values v t table)
    (λ v. c.decoding_laws.ensures.virtuals v t table)
    (λ v g is s. c.decoding_laws.ensures.same v t g table is s)
    (λ v w g a s. c.local_laws.ensures.spells n v w t g below a s)
    (λ asked g w ok. (
      spelling 0 plan g (λ k. false),
      c.spelling_laws.ensures.spelled 0 plan g right
          (c.plan_laws.ensures.offers problem names asked g closure has w ok) (λ k. false),
    ))
  where
    zero-more : (k : ℕ) → 0 + k ≡ k
    zero-more k = omega arith
