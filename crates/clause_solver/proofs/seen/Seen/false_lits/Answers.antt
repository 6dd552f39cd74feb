use Rattle.std.proofs.Common.{◌∙◌, ◌+◌, get_or, sym, ap, subst, arith}
use Rattle.std.proofs.lemmas.Option.{slice_get-get_or}
use Rattle.clause_watch.proofs.Places.{consistent-from}
use Rattle.clause_solver.specs.Seen.{seen_at, IsFalseLit}
use Rattle.clause_solver.proofs.Listing.{AreFalsified, falsified-start, falsified-passed, falsified-more, falsified-all}
use Rattle.clause_solver.proofs.seen.Seen.false_lits.Goals as goal
use Rattle.clause_solver.proofs.seen.Seen.false_lits.Goals.{in-Some+in_ok-push, in_default}

pub loop-var-init : goal.loop-var-init
loop-var-init c =
    let xs = c.listed-var-items.result.now in
    subst (AreFalsified (seen_at c.args.self.now) c.args.watch.now.placed xs 0) (sym c.new-lits.ensures.items)
    (falsified-start c.args.self.now c.args.watch.now.placed xs)

pub false_lit-requires-clause-below : goal.false_lit-requires-clause-below
false_lit-requires-clause-below c = c.listed-var-items.ensures.below c.loop-var.var-index _
    (slice_get-get_or c.listed-var-items.result.now c.loop-var.var-index _ (omega arith))

pub loop-var-preserved : goal.loop-var-preserved
loop-var-preserved c =
    let m = c.args.self.now in
    let ps = c.args.watch.now.placed in
    let xs = c.listed-var-items.result.now in
    let i = c.loop-var.var-index in
    let ls = c.loop-var.lits.items in
    elim c.match-false_lit.branch [
      | in-Some+in_ok-push w ↦ falsified-more m ps xs i 0 ls (omega arith) c.loop-var.invariant w.in-Some.lit _ w.in-Some.ensures
          (ap (λ v. v.items) w.lits-is ∙ w.in_ok-push.ensures.items)
      | in_default w ↦
          subst (AreFalsified (seen_at m) ps xs (i + 1)) (sym (ap (λ v. v.items) w.lits-is))
          (falsified-passed m ps xs i 0 ls (omega arith) c.loop-var.invariant
          (subst (IsFalseLit (seen_at m) ps (get_or xs i 0)) w.in_default.is c.false_lit.ensures))
    ]

pub returns : goal.returns
returns c = falsified-all c.args.self.now c.args.watch.now.placed c.listed-var-items.result.now c.loop-var.var-index c.loop-var.lits.items
    (consistent-from c.args.watch.now.placed c.requires.right.orderly.apart) c.listed-var-items.ensures (omega arith) c.loop-var.invariant
