use Rattle.run_input.proofs.OneDatabase.{one_database}
use Rattle.run_input.proofs.one_database.installed_laws.Goals as goal

pub returns : goal.returns
returns c = record {
  one = one_database (record {
    reading = c.database_laws.ensures.one_reading;
    fault = c.database_laws.ensures.one_fault;
    right =
        c.database_laws.ensures.right;
  });
}
