use Rattle.std.proofs.Common.{◌≡◌, rules, true, Some, sym, ◌∙◌}
use Rattle.std.specs.Str.{bytes_eq}
use Rattle.std.proofs.lemmas.Bool.{not-false}
use Rattle.std.proofs.lemmas.Slice.Eq.{bytes_eq-Decides}
use Rattle.proof_log.specs.Texts.{draft_of, may_write, line_text}
use Rattle.proof_log.proofs.TextLaws.{line-said}
use Rattle.proof_log.proofs.text.read_line.Goals as goal

pub returns : goal.returns
returns c =
    let drafted : draft_of c.args.text.now ≡ Some c.in-Some.line = search rules in
    let writable : may_write c.in-Some.line ≡ true = search rules in
    let written : c.as_slice.result.now ≡ line_text c.in-Some.line = c.as_slice.ensures.value ∙ c.in_ok-written.ensures.ok in
    let equal = not-false (bytes_eq c.as_slice.result.now c.args.text.now) (sym c.ne.ensures ∙ c.if-ne.false) in
    line-said c.args.text.now c.in-Some.line drafted writable (sym written
    ∙ (bytes_eq-Decides c.as_slice.result.now c.args.text.now).0 equal)
