use Rattle.std.proofs.Common.{ap}
use Rattle.run_answers.proofs.ReadOnly.{only_more}
use Rattle.run_words.specs.Words.{Command}
use Rattle.run_input.specs.Inputs.{Behind, InRepository}
use Rattle.run_input.proofs.Failing.{behind_recipes}
use Rattle.run_input.proofs.Staged.{staged}
use Rattle.run_input.proofs.stock.read_over.Goals as goal

pub returns-in-Ok-clause-read : goal.returns-in-Ok-clause-read
returns-in-Ok-clause-read g c =
    staged _ _ (λ path files. InRepository files path) (λ files. Behind files c.args.command.now c.args.settings) _ _ _ _
    c.in-Ok.recipes c.read_behind.result (ap (λ (k : Command). k.repo) c.command.view_is)
    c.read_behind.ensures.only_reads.same c.in-Ok.ensures.read c.read_behind.ensures.read

pub returns-in-Ok-clause-path : goal.returns-in-Ok-clause-path
returns-in-Ok-clause-path g c =
    behind_recipes _ _ c.args.command.now _ c.in-Ok.recipes c.read_behind.result (ap (λ (k : Command). k.repo) c.command.view_is)
    c.read_behind.ensures.only_reads.same c.in-Ok.ensures.read c.read_behind.ensures.path

pub returns-in-Ok-clause-only_reads : goal.returns-in-Ok-clause-only_reads
returns-in-Ok-clause-only_reads g c = only_more c.in-Ok.ensures.only_reads c.read_behind.ensures.only_reads
