use Rattle.std.proofs.Common.{refl}
use Rattle.run_input.specs.Words.{words_of}
use Rattle.dimacs_text.specs.Answers as answers
use Rattle.dimacs_text.proofs.Ends.{answered, told, settles, done}
use Rattle.dimacs_text.proofs.Faults.{no_memory, read_fault, steady, write_fault}
use Rattle.dimacs_text.proofs.top.run.Goals as goal

pub returns-in-Ok-clause-answers : goal.returns-in-Ok-clause-answers
returns-in-Ok-clause-answers g c = told _ (words_of c.args.words.now) (_, _) (_, _) c.in-Ok.ensures.outcome refl

pub returns-in-Ok-clause-settles : goal.returns-in-Ok-clause-settles
returns-in-Ok-clause-settles g c = done c.input_laws.ensures.one _ (words_of c.args.words.now) (_, _) (_, _) (_, _) (_, _)
    c.in-Ok.ensures.outcome

pub returns-in-Ok-clause-steady : goal.returns-in-Ok-clause-steady
returns-in-Ok-clause-steady g c = λ never. let both = c.in-Ok.ensures.steady tt in (both.0, both.1, refl)

pub returns-in-Err-clause-answers : goal.returns-in-Err-clause-answers
returns-in-Err-clause-answers g c =
    answered _ (words_of c.args.words.now) c.in-Err.stop (_, _) (_, _) (_, _) _ c.in-Err.ensures.outcome c.report.ensures.reports

pub returns-in-Err-clause-settles : goal.returns-in-Err-clause-settles
returns-in-Err-clause-settles g c =
    settles c.input_laws.ensures.one _ (words_of c.args.words.now) c.in-Err.stop (_, _) (_, _) (_, _) (_, _) (_, _) _
    c.in-Err.ensures.outcome
    c.in-Err.ensures.read c.in-Err.ensures.said c.in-Err.ensures.no_put c.report.ensures.reports

pub returns-in-Err-clause-read_fault : goal.returns-in-Err-clause-read_fault
returns-in-Err-clause-read_fault g c =
    read_fault _ (answers.explained (words_of c.args.words.now)) (_, _) (_, _) (_, _) _ c.in-Err.stop (_, _) c.report.ensures.reports
    c.in-Err.ensures.follows c.in-Err.ensures.unsaid c.in-Err.ensures.read

pub returns-in-Err-clause-write_fault : goal.returns-in-Err-clause-write_fault
returns-in-Err-clause-write_fault g c =
    write_fault _ (answers.explained (words_of c.args.words.now)) (_, _) (_, _) (_, _) (_, _) _ c.in-Err.stop c.report.ensures.reports
    c.in-Err.ensures.outcome c.in-Err.ensures.unsaid c.in-Err.ensures.said c.in-Err.ensures.no_put

pub returns-in-Err-clause-no_memory : goal.returns-in-Err-clause-no_memory
returns-in-Err-clause-no_memory g c =
    no_memory _ (answers.explained (words_of c.args.words.now)) (_, _) (_, _) (_, _) (_, _) _ c.in-Err.stop c.report.ensures.reports
    c.in-Err.ensures.outcome c.in-Err.ensures.unsaid c.in-Err.ensures.said

pub returns-in-Err-clause-steady : goal.returns-in-Err-clause-steady
returns-in-Err-clause-steady g c =
    steady c.in-Err.stop (_, _) (_, _) (_, _) (_, _) _ c.in-Err.ensures.steady c.report.ensures.reports
