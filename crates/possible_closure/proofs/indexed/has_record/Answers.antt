use Rattle.std.proofs.Common.{ap, ◌∙◌, not}
use Rattle.std.specs.Str.{bytes_eq}
use Rattle.possible_closure.proofs.IndexLaws.{some_found}
use Rattle.possible_closure.proofs.indexed.has_record.Goals as goal

pub returns : goal.returns
returns c = ap not c.is_empty.ensures
    ∙ some_found (λ entry. bytes_eq entry.name c.args.name.now) c.args.problem.now.database c.records_of.result.now c.records_of.ensures
