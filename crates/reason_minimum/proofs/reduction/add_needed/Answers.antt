use Rattle.std.proofs.Common.{◌≤◌, sym, ap, subst, List, Bool, ℕ, length, insert, arith}
use Rattle.reason_minimum.specs.Reductions.{AreModels}
use Rattle.reason_minimum.proofs.Reducing.{models-insert}
use Rattle.reason_minimum.proofs.reduction.add_needed.Goals as goal

pub returns-in_ok-insert-in-Some-2-clause-models : goal.returns-in_ok-insert-in-Some-2-clause-models
returns-in_ok-insert-in-Some-2-clause-models c = λ s asked are is.
    let ds = c.args.needed.now.items in
    let ms = c.args.models.now.items in
    let at = c.in-Some.at in
    let within : at ≤ length ds = omega (arith, c.in-Some.ensures.within, ap length c.as_slice.ensures.value) in
    let put = models-insert s asked ds ms at c.args.demand c.args.model within are is in
    subst (λ (xs : List ℕ). AreModels s asked xs c.insert-in-Some.new.self.items) (sym c.in_ok-insert-in-Some.ensures.items)
    (subst (λ (ks : List (List Bool)). AreModels s asked (insert ds at c.args.demand) ks) (sym c.in_ok-insert-in-Some-2.ensures.items) put)
