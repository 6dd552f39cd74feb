use Rattle.std.proofs.Common.{arith, ◌^◌}
use Rattle.std.proofs.lemmas.Bool.{le-leb}
use Rattle.site_settings.specs.Standard.{standard}
use Rattle.problem.specs.Limits.{size_of_settings}
use Rattle.file_limits.proofs.Whole.{files-bear-settings, standard-is-small}
use Rattle.file_limits.proofs.settings_sizes.settings_count_laws.Goals as goal

pub returns : goal.returns
returns c =
    let bear = files-bear-settings c.count_laws.ensures.texts c.count_laws.ensures.keys c.spec_count_laws.ensures.bear in
    record {
      bear = bear;
      within = λ bytes settings is short. le-leb (size_of_settings settings) (2 ^ 24) (omega (arith, bear bytes settings is, short));
      standard = le-leb (size_of_settings standard) (2 ^ 24) (omega (arith, standard-is-small));
    }
