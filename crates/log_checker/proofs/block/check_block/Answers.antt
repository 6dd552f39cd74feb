use Rattle.std.proofs.Common.{◌≡◌, ◌+◌, ◌∙◌, sym, ap, arith, take}
use Rattle.log_checker.specs.Blocks.{verdict, one_more, progress_of, first_bad}
use Rattle.log_checker.proofs.Blocks.{checked, take-count}
use Rattle.log_checker.proofs.block.check_block.Goals as goal

pub count_checked-count-requires-clause-rising : goal.count_checked-count-requires-clause-rising
count_checked-count-requires-clause-rising g c =
    let t = checked c.args.position.now c.take_in.new.position c.in_ok-plain.plain c.args.lines.now c.in_ok-plain.ensures.ok in
    omega (arith, t.lines, c.lines-before.ensures.value, c.lines.ensures.value)

pub slice_bounds-first_bad_of_halves-end : goal.slice_bounds-first_bad_of_halves-end
slice_bounds-first_bad_of_halves-end g c =
    let t = checked c.args.position.now c.take_in.new.position c.in_ok-plain.plain c.args.lines.now c.in_ok-plain.ensures.ok in
    sym (take-count c.args.lines.now c.count_checked-count.result
    (omega (arith, t.lines, t.within, c.lines-before.ensures.value, c.lines.ensures.value, c.count_checked-count.ensures)))

pub returns-clause-ok : goal.returns-clause-ok
returns-clause-ok g c =
    let s = c.args.position.now in
    let p = c.take_in.new.position in
    let t = checked s p c.in_ok-plain.plain c.args.lines.now c.in_ok-plain.ensures.ok in
    let count : c.count_checked-count.result ≡ t.count + one_more c.in_ok-plain.plain = c.count_checked-count.ensures
    ∙ ap (λ n. n + one_more c.in_ok-plain.plain) (omega (arith, t.lines, c.lines-before.ensures.value, c.lines.ensures.value)) in
    let bad : c.in_ok-bad.bad ≡ first_bad p.bits p.known (s.lines + 1) (take (t.count + one_more c.in_ok-plain.plain) c.args.lines.now) =
    c.in_ok-bad.ensures ∙ ap (λ bs. first_bad bs c.known-2.result.now (c.lines-before.result + 1)
    (take c.count_checked-count.result c.args.lines.now)) c.bits.ensures
    ∙ ap (λ ks. first_bad p.bits ks (c.lines-before.result + 1) (take c.count_checked-count.result c.args.lines.now)) c.known-2.ensures
    ∙ ap (λ n. first_bad p.bits p.known (n + 1) (take c.count_checked-count.result c.args.lines.now)) c.lines-before.ensures.value
    ∙ ap (λ n. first_bad p.bits p.known (s.lines + 1) (take n c.args.lines.now)) count in
    ap (progress_of p) (c.verdict.ensures ∙ ap (λ n. verdict n c.in_ok-plain.plain c.in_ok-bad.bad) c.lines-2.ensures.value
    ∙ ap (verdict p.lines c.in_ok-plain.plain) bad) ∙ sym t.same
