use Rattle.run_input.proofs.Named.{all_named}
use Rattle.run_input.proofs.roots.specs_of.Goals as goal

pub returns-in-Ok-clause-named : goal.returns-in-Ok-clause-named
returns-in-Ok-clause-named c = all_named c.args.text.now c.in-Ok.specs c.writing_laws.ensures.named c.in-Ok.ensures.found
