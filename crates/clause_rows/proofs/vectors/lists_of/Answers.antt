use Rattle.std.proofs.Common.{ℕ, ◌<◌, ◌^◌, List, Option, subst}
use Rattle.std.specs.Prelude.{IfSome}
use Rattle.clause_store.specs.declared.Lit.{Lit}
use Rattle.clause_circuits.specs.Trees.{total, TermsBelow}
use Rattle.clause_rows.proofs.RangeLaws.{lists-more, small-more}
use Rattle.clause_rows.proofs.vectors.lists_of.Goals as goal

pub loop-word-preserved : goal.loop-word-preserved
loop-word-preserved c =
    let InRange : Option (List (ℕ × Lit)) → Type 0 = λ list. IfSome list (λ ts. TermsBelow c.args.vars ts) in
    let Small : Option (List (ℕ × Lit)) → Type 0 = λ list. IfSome list (λ ts. total ts < 2 ^ 63) in
    let b = subst InRange c.in-Some.is c.in_ok-list.ensures.in_range in
    let h = subst Small c.in-Some.is c.in_ok-list.ensures.small in
    rw c.in_ok-push-in-Some.ensures.items (
      lists-more c.args.vars c.loop-word.lists.items c.in-Some.list c.loop-word.invariant.0 b,
      small-more c.loop-word.lists.items
          c.in-Some.list c.loop-word.invariant.1 h,
    )
