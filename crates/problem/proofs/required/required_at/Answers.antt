use Rattle.std.proofs.Common.{◌∙◌, ap}
use Rattle.problem.specs.Problems.{package_entry_of}
use Rattle.problem.specs.Required.{rows_in}
use Rattle.problem.proofs.RequiredLaws.{rows_found}
use Rattle.problem.proofs.required.required_at.Goals as goal

pub returns : goal.returns
unfolding package_entry_of
returns c = c.rows_in.ensures ∙ ap rows_in c.find.ensures
    ∙ rows_found c.args.problem.now.settings.packages c.required.result.now c.args.name.now c.required.ensures
