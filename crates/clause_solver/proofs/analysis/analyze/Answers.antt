use Rattle.std.proofs.Common.{◌∷◌, ◌++◌, [], Some, sym, ap, ◌∙◌, subst, refl, arith}
use Rattle.std.proofs.lemmas.Option.{same_Some}
use Rattle.clause_store.specs.Lits.{AllBelow, SameLits}
use Rattle.clause_solver.specs.Seen.{seen_at, AreSeen, IsLastSeen, NoneSeen, falsified}
use Rattle.clause_solver.specs.Learning.{ReachesUip, LeadsToUip, IsBackjumpLevel}
use Rattle.clause_solver.proofs.StepsDone.{known-below}
use Rattle.clause_solver.proofs.LearntLaws.{seen-are, start-some, start-top, lits-below, clause-some, learnt, length-lits}
use Rattle.clause_solver.proofs.analysis.analyze.Goals as goal

pub see_all-requires : goal.see_all-requires
see_all-requires c =
    subst (λ n. AllBelow n c.clause.result.now) (sym c.requires.in_range)
    (known-below c.args.watch.now.vars c.args.conflict c.args.watch.now.clauses c.clause.result.now c.requires.right.in_order
    c.requires.right.in_range c.clause.ensures)

pub last_seen-requires-clause-end : goal.last_seen-requires-clause-end
last_seen-requires-clause-end c = omega (arith, length-lits c.args.watch.now.placed c.trail.result.now c.trail.ensures)

pub unreachable-requires : goal.unreachable-requires
unreachable-requires c =
    let w = c.args.watch.now in
    let f = c.requires.conflict in
    let is_seen = subst (AreSeen c.args.seen.now c.see_all.new.self) (same_Some c.clause.result.now f.0 (sym c.clause.ensures ∙ f.1))
    c.in_ok-see_all.ensures.is_seen in
    start-some w c.requires.right c.requires.above c.args.conflict f.0 f.1 f.2 c.args.seen.now c.see_all.new.self
    c.requires.unseen is_seen
    (subst (NoneSeen (seen_at c.see_all.new.self) w.placed 0) (length-lits w.placed c.trail.result.now c.trail.ensures)
    c.in_default.ensures)

pub resolve_to_first_uip-requires-clause-top : goal.resolve_to_first_uip-requires-clause-top
resolve_to_first_uip-requires-clause-top c =
    let w = c.args.watch.now in
    let f = c.requires.conflict in
    let is_seen = subst (AreSeen c.args.seen.now c.see_all.new.self) (same_Some c.clause.result.now f.0 (sym c.clause.ensures ∙ f.1))
    c.in_ok-see_all.ensures.is_seen in
    start-top w c.requires.right c.requires.above c.args.conflict f.0 f.1 f.2 c.args.seen.now c.see_all.new.self c.requires.unseen
    is_seen c.in-Some.start
    (subst (λ n. IsLastSeen (seen_at c.see_all.new.self) w.placed n (Some c.in-Some.start))
    (length-lits w.placed c.trail.result.now c.trail.ensures) c.in-Some.ensures)

pub minimize-requires-clause-lits : goal.minimize-requires-clause-lits
minimize-requires-clause-lits c =
    let w = c.args.watch.now in
    let g = subst (λ xs. ReachesUip w c.see_all.new.self c.resolve_to_first_uip.new.seen xs c.resolve_to_first_uip.new.chain
    c.in_ok-resolve_to_first_uip.ensures.0)
    (c.in_ok-push.ensures.ok ∙ ap (λ xs. xs ++ c.args.conflict ∷ []) c.new-chain.ensures) c.in_ok-resolve_to_first_uip.ensures.1 in
    lits-below w c.requires.right c.requires.above c.see_all.new.self c.resolve_to_first_uip.new.seen c.args.conflict
    c.resolve_to_first_uip.new.chain
    c.in_ok-resolve_to_first_uip.ensures.0 g c.as_slice.result.now
    (subst (λ ls. SameLits ls (falsified (seen_at c.resolve_to_first_uip.new.seen) w.placed)) (sym c.as_slice.ensures.value)
    c.in_ok-found.ensures)

pub backjump_level-backjump-requires-clause-in_range : goal.backjump_level-backjump-requires-clause-in_range
backjump_level-backjump-requires-clause-in_range c =
    let w = c.args.watch.now in
    let b = subst (λ xs. LeadsToUip w c.see_all.new.self c.resolve_to_first_uip.new.seen xs c.resolve_to_first_uip.new.chain)
    (c.in_ok-push.ensures.ok
    ∙ ap (λ xs. xs ++ c.args.conflict ∷ []) c.new-chain.ensures) c.in_ok-resolve_to_first_uip.ensures in
    let d = c.in_ok-minimize.ensures.uip c.see_all.new.self (c.args.conflict ∷ []) b in
    lits-below w c.requires.right c.requires.above c.see_all.new.self c.minimize.new.seen c.args.conflict c.minimize.new.chain d.0 d.1
    c.as_slice-2.result.now
    (subst (λ ls. SameLits ls (falsified (seen_at c.minimize.new.seen) w.placed)) (sym c.as_slice-2.ensures.value) c.in_ok-lits.ensures)

pub unreachable-requires-in_default-2 : goal.unreachable-requires-in_default-2
unreachable-requires-in_default-2 c =
    let w = c.args.watch.now in
    let b = subst (λ xs. LeadsToUip w c.see_all.new.self c.resolve_to_first_uip.new.seen xs c.resolve_to_first_uip.new.chain)
    (c.in_ok-push.ensures.ok
    ∙ ap (λ xs. xs ++ c.args.conflict ∷ []) c.new-chain.ensures) c.in_ok-resolve_to_first_uip.ensures in
    let d = c.in_ok-minimize.ensures.uip c.see_all.new.self (c.args.conflict ∷ []) b in
    clause-some w c.requires.right c.requires.above c.see_all.new.self c.minimize.new.seen c.args.conflict c.minimize.new.chain d.0 d.1
    c.as_slice-3.result.now
    (subst (λ ls. SameLits ls (falsified (seen_at c.minimize.new.seen) w.placed)) (sym c.as_slice-3.ensures.value) c.in_ok-lits.ensures)
    (sym c.in_ok-clause.ensures ∙ c.in_default-2.is)

pub returns-clause-learnt : goal.returns-clause-learnt
returns-clause-learnt c =
    let w = c.args.watch.now in
    let f = c.requires.conflict in
    let is_seen = subst (AreSeen c.args.seen.now c.see_all.new.self) (same_Some c.clause.result.now f.0 (sym c.clause.ensures ∙ f.1))
    c.in_ok-see_all.ensures.is_seen in
    let b = subst (λ xs. LeadsToUip w c.see_all.new.self c.resolve_to_first_uip.new.seen xs c.resolve_to_first_uip.new.chain)
    (c.in_ok-push.ensures.ok
    ∙ ap (λ xs. xs ++ c.args.conflict ∷ []) c.new-chain.ensures) c.in_ok-resolve_to_first_uip.ensures in
    let d = c.in_ok-minimize.ensures.uip c.see_all.new.self (c.args.conflict ∷ []) b in
    let l = learnt w c.requires.right c.requires.above c.see_all.new.self c.minimize.new.seen c.args.conflict c.minimize.new.chain d.0 d.1
    c.as_slice-3.result.now c.in-Some-2.clause
    (subst (λ ls. SameLits ls (falsified (seen_at c.minimize.new.seen) w.placed)) (sym c.as_slice-3.ensures.value) c.in_ok-lits.ensures)
    (sym c.in_ok-clause.ensures ∙ c.in-Some-2.is) f.0 f.1 f.2
    (seen-are w c.requires.right c.requires.above c.args.conflict f.0 f.1 f.2 c.args.seen.now c.see_all.new.self c.requires.unseen
    is_seen) c.backjump_level-backjump.result (subst (λ ls. IsBackjumpLevel w.placed ls c.backjump_level-backjump.result)
    (c.as_slice-2.ensures.value
    ∙ sym c.as_slice-3.ensures.value) c.backjump_level-backjump.ensures) c.minimize.new.chain refl in
    record { in_order = c.lits.ensures.in_order; in_range = l.0; derived = l.1; useful = l.2; below = l.3; addable = l.4 }
