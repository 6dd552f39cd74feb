use Rattle.std.proofs.Common.{◌∙◌, ◌≤◌, None, length, reverse, arith}
use Rattle.std.proofs.lemmas.List.{length-reverse}
use Rattle.install_plan.specs.Schedules.{IsBuilt}
use Rattle.install_plan.proofs.ChainLaws.{as_many, all_of_chain, shown_by, waves_built}
use Rattle.install_plan.proofs.theorems.plan_laws.Goals as goal

pub returns : goal.returns
returns c = record {
  shortest = λ g waves chain plan other schedule last le.
      let least : length (reverse waves) ≤ last =
      shown_by g other schedule (reverse waves) chain (waves_built g plan.earliest.0 waves plan.earliest.2) plan.down last le in
      omega (arith, least, length-reverse waves);
  each = λ g waves chain plan. as_many g None (reverse waves) chain plan.down ∙ length-reverse waves;
  built = λ g waves chain plan.
      all_of_chain g (IsBuilt g) None (reverse waves) chain (waves_built g plan.earliest.0 waves plan.earliest.2) plan.down;
}
