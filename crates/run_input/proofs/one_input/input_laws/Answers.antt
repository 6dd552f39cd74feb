use Rattle.run_input.proofs.Once.{ReadsOnce, one_read, one_seek}
use Rattle.run_input.proofs.one_input.input_laws.Goals as goal

pub returns : goal.returns
returns c =
    let laws : ReadsOnce =
    record {
      reading = c.reading_laws.ensures.one_reading;
      refusal = c.reading_laws.ensures.one_fault;
      right = c.reading_laws.ensures.right;
    } in
    record {
      one = one_read c.site_laws.ensures.one c.installed_laws.ensures.one laws;
      one_query = one_seek c.site_laws.ensures.one c.installed_laws.ensures.one laws;
    }
