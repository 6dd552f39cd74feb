use Rattle.std.proofs.Common.{ap, refl, ℕ, List, [], Ok}
use Rattle.run_answers.specs.Stages.{Is}
use Rattle.run_words.specs.Words.{Command}
use Rattle.run_input.specs.Installed.{DatabaseAt}
use Rattle.run_input.specs.Inputs.{stock_of}
use Rattle.run_input.proofs.Staged.{put_over}
use Rattle.run_input.proofs.stock.read_behind.Goals as goal

pub returns-in-Ok-clause-read : goal.returns-in-Ok-clause-read
returns-in-Ok-clause-read g c =
    put_over _ _ (λ path files. DatabaseAt files path)
    (λ (text : List ℕ) records. Is (Ok (stock_of c.args.settings c.args.recipes records))) _ _ _
    [] [] c.in-Ok.records (Ok (stock_of c.args.settings c.args.recipes c.in-Ok.records))
    (ap (λ (k : Command). k.database) c.command.view_is) refl
    c.in-Ok.ensures.read refl
