use Rattle.headline_laws.proofs.Reached.{input_first, settings_first}
use Rattle.headline_laws.proofs.faults.fault_laws.Goals as goal

pub returns : goal.returns
returns c = record {
  settings = λ files words faults after out err command refusal is refused fault.
      settings_first files words command is (c.site_laws.ensures.one files command.settings) refusal refused fault.path fault.read;
  input = λ files words faults after out err command refusal is refused fault.
      input_first files words command is (c.input_laws.ensures.one files command) refusal refused fault.path fault.read;
}
