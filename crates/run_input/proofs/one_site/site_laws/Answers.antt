use Rattle.run_input.proofs.OneSite.{one_site}
use Rattle.run_input.proofs.one_site.site_laws.Goals as goal

pub returns : goal.returns
returns c = record {
  one = one_site (record {
    reading = c.settings_laws.ensures.one_reading;
    fault = c.settings_laws.ensures.one_fault;
    right =
        c.settings_laws.ensures.right;
  });
}
