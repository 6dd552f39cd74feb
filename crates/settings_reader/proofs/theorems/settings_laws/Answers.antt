use Rattle.spec_grammar.specs.declared.mode.Mode.TheVariants.{Specs}
use Rattle.settings_reader.proofs.One.{ReadsSetsOnce, ReadsSpecsOnce}
use Rattle.settings_reader.proofs.OneFile.{fault_one, file_one, right_one}
use Rattle.settings_reader.proofs.Valued.{file_valued}
use Rattle.settings_reader.proofs.theorems.settings_laws.Goals as goal

pub returns : goal.returns
returns c =
    let sets : ReadsSetsOnce = record { once = c.set_reading_laws.ensures.one_reading } in
    let specs : ReadsSpecsOnce = record {
      once = c.reading_laws.ensures.one_reading;
      one_fault =
          c.reading_laws.ensures.one_fault;
      right = c.reading_laws.ensures.right;
    } in
    record {
      one_reading = file_one sets specs;
      one_fault = fault_one sets specs;
      right = right_one sets specs;
      valued = file_valued (c.writing_laws.ensures.valued Specs);
    }
