use Rattle.std.proofs.Common.{◌≡◌, ◌∙◌, ap, arith, length, ◌+◌, ◌-◌, ◌/◌}
use Rattle.log_checker.specs.Blocks.{first_bad}
use Rattle.log_checker.proofs.Blocks.{halves, ok-is}
use Rattle.log_checker.proofs.block.first_bad_of_halves.Goals as goal

pub returns : goal.returns
returns g c =
    let bits = c.args.ground.bits.now in
    let known = c.args.ground.known.now in
    let n = c.args.number in
    let lines = c.args.lines.now in
    let k = length lines - length lines / 2 in
    let front = c.split_at.result.0.now in
    let back = c.split_at.result.1.now in
    c.either.ensures ∙ halves bits known n k lines front back c.in_ok-one.one c.in_ok-other.other c.split_at.ensures.front
    c.split_at.ensures.back (omega arith)
    (ok-is c.first_bad_of_parts-one.result.0 c.in_ok-one.one
    (λ bad. bad ≡ first_bad bits known n front) c.in_ok-one.was c.first_bad_of_parts-one.ensures.front)
    (ok-is c.first_bad_of_parts-one.result.1 c.in_ok-other.other
    (λ bad. bad ≡ first_bad bits known (n + length front) back) c.in_ok-other.was c.first_bad_of_parts-one.ensures.back
    ∙ ap (λ m. first_bad bits known (n + m) back) c.split_at.ensures.front_len)
