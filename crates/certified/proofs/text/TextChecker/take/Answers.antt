use Rattle.std.proofs.Common.{◌∙◌, sym}
use Rattle.certified.proofs.Stages.{after-settled}
use Rattle.certified.proofs.text.TextChecker.take.Goals as goal

pub returns-then-is_settled-clause-fed : goal.returns-then-is_settled-clause-fed
returns-then-is_settled-clause-fed g c = λ s text a.
    after-settled s text c.args.piece.now c.args.self.now (sym c.is_settled.ensures ∙ c.if-is_settled.true) a
