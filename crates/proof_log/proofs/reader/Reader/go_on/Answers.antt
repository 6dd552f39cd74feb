use Rattle.std.proofs.Common.{◌++◌, ◌∙◌, sym, ap}
use Rattle.std.proofs.lemmas.List.{append-nil}
use Rattle.proof_log.proofs.ReaderLaws.{inside, inside-lines}
use Rattle.proof_log.proofs.reader.Reader.go_on.Goals as goal

pub returns-then-ends_no_line-clause-place : goal.returns-then-ends_no_line-clause-place
returns-then-ends_no_line-clause-place c =
    inside c.args.self.now c.go_on_inside.new.self c.args.piece.now (sym (ap (λ p. p.failed) c.self.view_is) ∙ c.if-not-self.true)
    (sym c.ends_no_line.ensures ∙ c.if-ends_no_line.true)
    c.in_ok-go_on_inside.ensures.ok

pub returns-then-ends_no_line-clause-lines : goal.returns-then-ends_no_line-clause-lines
returns-then-ends_no_line-clause-lines c =
    sym (ap (λ ls. c.args.lines.now.items ++ ls)
    (inside-lines c.args.self.now c.args.piece.now (sym (ap (λ p. p.failed) c.self.view_is) ∙ c.if-not-self.true)
    (sym c.ends_no_line.ensures ∙ c.if-ends_no_line.true)) ∙ append-nil c.args.lines.now.items)
