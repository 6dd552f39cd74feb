use Rattle.std.proofs.Common.{◌≡◌, ◌∷◌, sym, subst, List, ℕ, Some, drop, length, arith}
use Rattle.reason_minimum.specs.Least.{IsSpentFor}
use Rattle.reason_minimum.proofs.Rounds.{half-less, one-spent}
use Rattle.reason_minimum.proofs.round.spent.Goals as goal

pub returns-then-count-gt1 : goal.returns-then-count-gt1
returns-then-count-gt1 c = (
  c.requires.reduces,
  half-less (length c.args.reduction.now.candidates.items) c.args.reduction.now.several c.args.count c.if-count-gt1.true
      (c.requires.several c.if-count-gt1.true),
)

pub returns : goal.returns
returns c =
    let first = subst (λ (xs : List ℕ). xs ≡ c.first_of.result ∷ drop 1 xs) c.as_slice.ensures.value c.first_of.ensures in
    subst (λ (ds : List ℕ). IsSpentFor c.args._clauses.now c.args._budget ds (Some c.first_of.result) c.args.log) (sym c.from_vec.ensures)
    (one-spent c.args._clauses.now c.args.reduction.now c.args._budget c.args.count c.first_of.result c.args.rest.items c.args.log
    c.requires.reduces first (omega (arith, c.requires.count, c.if-count-gt1.false)) c.requires.rising c.requires.members c.requires.spent
    c.requires.below_all c.requires.below_lines)
