use Prim.Native.Nat.{suc}
use Rattle.std.proofs.Common.{◌≡◌, ◌-◌, ◌≤◌, ◌∙◌, true, false, length, get_or, sym, refl, arith}
use Rattle.log_checker.specs.Links.{bucket_of}
use Rattle.log_checker.proofs.Seeking.{seeks-first, seeks-before, seeks-next, seeks-found, seeks-none}
use Rattle.log_checker.proofs.index.find_rival.Goals as goal

pub loop-next-init : goal.loop-next-init
loop-next-init c =
    seeks-first (bucket_of c.args.factor (length c.args.heads.now)) c.args.heads.now c.args.links.now c.args.known.now c.args.lits.now
    c.bucket_of.result (get_or c.args.heads.now c.bucket_of.result 0) c.requires.linked c.bucket_of.ensures.value
    c.bucket_of.ensures.within refl

pub returns-then-are_same : goal.returns-then-are_same
returns-then-are_same c =
    let next : c.loop-next.next ≡ suc (c.loop-next.next - 1) = omega (arith, c.loop-next-test.true) in
    sym (seeks-found (bucket_of c.args.factor (length c.args.heads.now)) c.args.known.now c.args.lits.now c.loop-next.next
    (c.loop-next.next - 1)
    _ c.loop-next.invariant next c.get-other.ensures.value (sym c.are_same.ensures ∙ c.if-are_same.true))

pub loop-next-smaller : goal.loop-next-smaller
loop-next-smaller c =
    let next : c.loop-next.next ≡ suc (c.loop-next.next - 1) = omega (arith, c.loop-next-test.true) in
    let before : get_or c.args.links.now (c.loop-next.next - 1) 0 ≤ c.loop-next.next - 1 =
    seeks-before (bucket_of c.args.factor (length c.args.heads.now)) c.args.heads.now c.args.links.now c.args.known.now c.args.lits.now
    c.loop-next.next (c.loop-next.next - 1) c.requires.linked c.loop-next.invariant next in
    omega (arith, before, next)

pub loop-next-preserved : goal.loop-next-preserved
loop-next-preserved c =
    let next : c.loop-next.next ≡ suc (c.loop-next.next - 1) = omega (arith, c.loop-next-test.true) in
    seeks-next (bucket_of c.args.factor (length c.args.heads.now)) c.args.heads.now c.args.links.now c.args.known.now c.args.lits.now
    c.loop-next.next (c.loop-next.next - 1) (get_or c.args.links.now (c.loop-next.next - 1) 0) _
    c.requires.linked c.loop-next.invariant next c.get-other.ensures.value (sym c.are_same.ensures ∙ c.if-are_same.false) refl

pub returns : goal.returns
returns c = sym (seeks-none (bucket_of c.args.factor (length c.args.heads.now)) c.args.known.now c.args.lits.now c.loop-next.next
    c.loop-next.invariant c.loop-next-test.false)
