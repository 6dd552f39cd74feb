use Rattle.directive_arguments.proofs.WordLaws.{note_text, note_none}
use Rattle.directive_arguments.proofs.argument.note.Goals as goal

pub returns-in-Ok : goal.returns-in-Ok
returns-in-Ok c =
    rw (note_text c.args.place c.args.word.now c.args.names.now c.in-Ok.ensures.cases.1) (rw c.in-Ok.ensures.cases.0 at c.once.ensures)

pub returns-in-Err : goal.returns-in-Err
returns-in-Err c = note_none c.args.place c.args.word.now c.args.names.now c.in-Err.ensures.cases.0
