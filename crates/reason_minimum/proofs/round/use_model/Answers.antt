use Rattle.std.proofs.Common.{◌≡◌, ◌<◌, sym, subst, List, Bool, Option, ℕ, length, arith}
use Rattle.std.specs.Prelude.{IfSome, IfNone}
use Rattle.reason_minimum.proofs.Rounds.{settled-less, half-less}
use Rattle.reason_minimum.proofs.Reducing.{models-count}
use Rattle.reason_minimum.specs.Reductions.{in_either, in_rest, IsModelFor, IsNeeded}
use Rattle.reason_minimum.proofs.round.use_model.Goals as goal

pub needed_one-requires-clause-model : goal.needed_one-requires-clause-model
needed_one-requires-clause-model c =
    subst (λ (m : List Bool). IsModelFor c.args.clauses.now (in_rest c.args.reduction.now c.args.count) m) (sym c.as_slice.ensures)
    c.requires.model

pub settle-requires : goal.settle-requires
settle-requires c = models-count c.args.clauses.now
    (in_either c.args.reduction.now.needed.items c.args.reduction.now.candidates.items) c.args.reduction.now.needed.items
    c.args.reduction.now.models.items c.requires.reduces.each_needed

pub returns-in_ok-settle-in-Some-clause-reduces : goal.returns-in_ok-settle-in-Some-clause-reduces
returns-in_ok-settle-in-Some-clause-reduces c =
    let s = c.args.clauses.now in
    let old = c.args.reduction.now in
    let told = subst (λ (o : Option ℕ). IfSome o (IsNeeded s old c.as_slice.result.now)) c.in-Some.is c.in_ok-demand.ensures.some in
    let own = subst (λ (m : List Bool). IsNeeded s old m c.in-Some.demand) c.as_slice.ensures told in
    c.in_ok-settle-in-Some.ensures.reduces s c.requires.reduces own

pub returns-in_ok-settle-in-Some-clause-less : goal.returns-in_ok-settle-in-Some-clause-less
returns-in_ok-settle-in-Some-clause-less c =
    let s = c.args.clauses.now in
    let old = c.args.reduction.now in
    let told = subst (λ (o : Option ℕ). IfSome o (IsNeeded s old c.as_slice.result.now)) c.in-Some.is c.in_ok-demand.ensures.some in
    settled-less old c.settle.new.self c.in-Some.demand told.0 c.in_ok-settle-in-Some.ensures.candidates
    c.in_ok-settle-in-Some.ensures.several

pub returns-in-None-clause-less : goal.returns-in-None-clause-less
returns-in-None-clause-less c =
    let several = subst (λ (o : Option ℕ). IfNone o (c.args.count ≡ 1 → ⊥)) c.in-None.is c.in_ok-demand.ensures.none in
    let more : 1 < c.args.count = omega (arith, several, c.requires.count) in
    half-less (length c.args.reduction.now.candidates.items) c.args.reduction.now.several c.args.count more (c.requires.several more)
