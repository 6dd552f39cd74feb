use Rattle.run_input.proofs.installed.database_in.Goals as goal

pub returns-in-Ok-clause-values : goal.returns-in-Ok-clause-values
returns-in-Ok-clause-values c = c.value_laws.ensures c.args.bytes.now c.in-Ok.database c.in-Ok.ensures.found
