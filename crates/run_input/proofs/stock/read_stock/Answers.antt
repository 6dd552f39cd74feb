use Rattle.std.proofs.Common.{ap}
use Rattle.run_answers.proofs.ReadOnly.{only_more}
use Rattle.run_input.specs.Sites.{SettingsAt}
use Rattle.run_words.specs.Words.{Command}
use Rattle.run_input.specs.Inputs.{OverSettings}
use Rattle.run_input.proofs.Failing.{behind_settings}
use Rattle.run_input.proofs.Staged.{staged}
use Rattle.run_input.proofs.stock.read_stock.Goals as goal

pub returns-clause-read : goal.returns-clause-read
returns-clause-read g c =
    staged _ _ (λ path files. SettingsAt files path) (λ files. OverSettings files c.args.command.now) _ _ _ _
    c.in_ok-settings.settings c.read_over.result (ap (λ (k : Command). k.settings) c.command.view_is)
    c.read_over.ensures.only_reads.same c.in_ok-settings.ensures.read c.read_over.ensures.read

pub returns-clause-path : goal.returns-clause-path
returns-clause-path g c =
    behind_settings _ _ c.args.command.now _ c.in_ok-settings.settings c.read_over.result
    (ap (λ (k : Command). k.settings) c.command.view_is)
    c.read_over.ensures.only_reads.same c.in_ok-settings.ensures.read c.read_over.ensures.path

pub returns-clause-only_reads : goal.returns-clause-only_reads
returns-clause-only_reads g c = only_more c.in_ok-settings.ensures.only_reads c.read_over.ensures.only_reads
