use Rattle.std.proofs.Common.{ap, refl, ◌∙◌, []}
use Rattle.run_words.specs.Words.{Command}
use Rattle.run_input.specs.Inputs.{OverSpecs, StockAt}
use Rattle.run_input.proofs.Staged.{put_over}
use Rattle.run_input.proofs.input.read_input.Goals as goal

pub returns-in-Ok-clause-read : goal.returns-in-Ok-clause-read
returns-in-Ok-clause-read g c =
    put_over _ _ (λ path files. StockAt files c.args.command.now) OverSpecs _ [] [] _ _ c.in-Ok.stock c.read_asked.result refl
    (c.as_str.ensures.value ∙ ap (λ (k : Command). k.spec) c.command.view_is) c.in-Ok.ensures.read c.read_asked.ensures.read
