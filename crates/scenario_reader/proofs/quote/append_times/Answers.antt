use Rattle.std.proofs.Common.{ℕ, List, ◌++◌, ◌∙◌, sym, ap, append_assoc}
use Rattle.std.specs.List.{repeat}
use Rattle.scenario_reader.proofs.Steps.{repeat_more}
use Rattle.scenario_reader.proofs.quote.append_times.Goals as goal

pub loop-done-preserved : goal.loop-done-preserved
loop-done-preserved c =
    let before = c.args.bytes.now.items in
    let more = c.args.more.now in
    let n = c.loop-done._done in
    c.in_ok-extend_from_slice.ensures.items ∙ ap (λ (b : List ℕ). b ++ more) c.loop-done.invariant
    ∙ append_assoc before (repeat n more) more ∙ sym (ap (λ (b : List ℕ). before ++ b) (repeat_more n more))
