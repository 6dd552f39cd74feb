use Rattle.run_input.proofs.site.settings_in.Goals as goal

pub returns-in-Ok-clause-values : goal.returns-in-Ok-clause-values
returns-in-Ok-clause-values c = c.settings_laws.ensures.valued c.args.bytes.now c.in-Ok.settings c.in-Ok.ensures.found
