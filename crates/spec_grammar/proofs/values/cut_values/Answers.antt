use Rattle.std.proofs.Common.{length, sym, ap, ◌∙◌, arith}
use Rattle.std.proofs.lemmas.List.{nil_from_length, length-drop}
use Rattle.spec_grammar.specs.Signs.{is_value_byte}
use Rattle.spec_grammar.proofs.RunLaws.{run_front, value_utf8}
use Rattle.spec_grammar.proofs.CutLaws.{so_far_all, so_far_more}
use Rattle.spec_grammar.proofs.values.cut_values.Goals as goal

pub word-requires : goal.word-requires
word-requires c = rw (c.split_at.ensures.front, c.value_bytes.ensures.value) (value_utf8 _ (run_front is_value_byte c.loop-values.rest.now))

pub returns-in_default : goal.returns-in_default
returns-in_default c =
    let none = nil_from_length _ c.in_default.ensures.cases in
    rw (c.in_ok-push.ensures.ok, c.in_ok-word.ensures, c.split_at.ensures.front)
    (so_far_all c.args.text.now c.loop-values.values c.loop-values.rest.now c.value_bytes.result c.loop-values.invariant
    c.value_bytes.ensures.value (sym c.split_at.ensures.back ∙ none))

pub loop-values-smaller : goal.loop-values-smaller
loop-values-smaller c =
    omega (arith, c.in-Some.ensures.cases.1, length-drop c.value_bytes.result c.loop-values.rest.now, ap length c.split_at.ensures.back)

pub loop-values-preserved : goal.loop-values-preserved
loop-values-preserved c =
    rw (c.in_ok-push.ensures.ok, c.in_ok-word.ensures, c.split_at.ensures.front)
    (so_far_more c.args.text.now c.loop-values.values c.loop-values.rest.now c.value_bytes.result c.in-Some.field-0-0.now c.in-Some.next.now
    c.loop-values.invariant c.value_bytes.ensures.value (sym c.split_at.ensures.back ∙ c.in-Some.ensures.cases.0))
