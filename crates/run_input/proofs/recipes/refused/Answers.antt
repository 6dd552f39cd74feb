use Rattle.run_input.proofs.Files.{first_bad}
use Rattle.run_input.proofs.recipes.refused.Goals as goal

pub returns : goal.returns
returns c =
    record {
      refusal =
          rw (c.in_ok-duplicate-in-Some.ensures) (first_bad c.args.place c.args.fault c.args.files.now c.in-Some.file.now c.requires
          c.in-Some.ensures.lookup.1);
    }
