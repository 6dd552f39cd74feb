-- Merged lists spell the sums of a tree in unary.
use Rattle.std.proofs.Common.{ℕ, ◌+◌, length, refl, ◌∙◌, arith}
use Rattle.std.proofs.lemmas.List.{length-replicate}
use Rattle.clause_store.specs.declared.Lit.{Lit}
use Rattle.clause_store.proofs.Range.{AllBelow-le}
use Rattle.clause_circuits.specs.Gates.{Planned, next}
use Rattle.clause_circuits.specs.Trees.{Tree, none, leaf, node, tree_sum, weight_of, TreeBelow}
use Rattle.clause_circuits.proofs.StepLaws.{Step-refl, Step-trans}
use Rattle.clause_circuits.proofs.TreeLaws.{TreeBelow-more}
use Rattle.criteria_totals.specs.Merges.{merge_from}
use Rattle.criteria_totals.specs.Unary.{unary_on, CountsTo}
use Rattle.criteria_totals.proofs.MergeLaws.{merge_from-is, replicate-below, replicate-is}

-- the literals of a tree spell the sum of the weights of true literals
pub unary_on-is : (p : Planned) (t : Tree (ℕ × Lit)) → TreeBelow (next p) t → CountsTo p (unary_on p t) t
unary_on-is p none b = record { step = Step-refl p; below = tt; long = refl; spells = λ v f. (refl, omega arith) }
unary_on-is p (leaf t) b = record {
  step = Step-refl p;
  below = replicate-below (next p) t.0 t.1 b;
  long =
      length-replicate t.0 t.1;
  spells = λ v f. replicate-is v t.0 t.1;
}
unary_on-is p (node l r) b =
    let left = unary_on p l in
    let x = unary_on-is p l b.0 in
    let right = unary_on left.plan r in
    let y = unary_on-is left.plan r (TreeBelow-more (next p) (next left.plan) r x.step.more b.1) in
    let more = length left.answer + length right.answer in
    let out = merge_from 1 more right.plan left.answer right.answer in
    let z = merge_from-is 1 more right.plan left.answer right.answer (λ v. tree_sum (weight_of v) l) (λ v. tree_sum (weight_of v) r)
    (omega arith) (AllBelow-le (next left.plan) (next right.plan) left.answer y.step.more x.below) y.below
    (λ v f. (x.spells v (y.step.follows v f), y.spells v f)) in record {
      step = Step-trans p left.plan out.plan x.step (Step-trans left.plan right.plan out.plan y.step z.step);
      below = z.below;
      long = z.long ∙ rw (x.long, y.long) refl;
      spells = λ v f. let g = z.step.follows v f in
          (z.spells v f ∙ rw z.long refl, omega (arith, z.long, (x.spells v (y.step.follows v g)).1, (y.spells v g).1));
    }
