use Rattle.directive_arguments.proofs.TextLaws.{answer_is, only_answer}
use Rattle.directive_arguments.proofs.theorems.answer_laws.Goals as goal

pub returns : goal.returns
returns c = record { is_answer = answer_is; only_answer = only_answer }
