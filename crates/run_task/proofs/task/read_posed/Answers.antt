use Rattle.std.proofs.Common.{ℕ, List, [], refl, Ok}
use Rattle.spec_grammar.specs.declared.part.Spec.{Spec}
use Rattle.run_input.specs.Inputs.{ReadsInput}
use Rattle.run_input.specs.Roots.{RootsOf}
use Rattle.run_input.proofs.Staged.{staged}
use Rattle.run_answers.proofs.ReadOnly.{only_more}
use Rattle.run_task.specs.Certificates.{log_verdict}
use Rattle.run_task.specs.Tasks.{TaskBy}
use Rattle.run_task.proofs.Paths.{of_look}
use Rattle.run_task.proofs.SeenTasks.{seen_over}
use Rattle.run_task.proofs.Stops.{any_ok}
use Rattle.run_task.proofs.RootTexts.{texts_of}
use Rattle.run_task.proofs.task.read_posed.Goals as goal

pub task_by-requires-clause-texts : goal.task_by-requires-clause-texts
task_by-requires-clause-texts g c κs long =
    texts_of c.writing_laws.ensures.read_again c.reading_laws.ensures.ascii c.args.command.now.spec
    c.in_ok-input.input.problem.roots c.in_ok-input.ensures.roots

pub returns-clause-read : goal.returns-clause-read
returns-clause-read g c =
    staged _ _ (λ (path : List ℕ) files. ReadsInput files c.args.command.now)
    (λ files. TaskBy log_verdict c.args.command.now.work files c.args.command.now) _ _ [] [] c.in_ok-input.input c.task_by.result refl
    c.task_by.ensures.only_reads.same c.in_ok-input.ensures.read c.task_by.ensures.read

pub returns-clause-seen : goal.returns-clause-seen
returns-clause-seen g c =
    seen_over _ _ c.args.command.now c.in_ok-input.input c.task_by.result c.task_by.ensures.only_reads.same c.in_ok-input.ensures.read
    c.task_by.ensures.seen

pub returns-clause-only_reads : goal.returns-clause-only_reads
returns-clause-only_reads g c = only_more c.in_ok-input.ensures.only_reads c.task_by.ensures.only_reads

pub returns-clause-specs : goal.returns-clause-specs
returns-clause-specs g c =
    any_ok ((roots : List Spec) × RootsOf c.args.command.now.spec (Ok roots)) c.task_by.result
    (c.in_ok-input.input.problem.roots, c.in_ok-input.ensures.roots)

pub returns-clause-path : goal.returns-clause-path
returns-clause-path g c =
    of_look _ _ c.args.command.now c.in_ok-input.input c.task_by.result c.task_by.ensures.only_reads.same c.in_ok-input.ensures.read
    c.in_ok-input.ensures.roots c.task_by.ensures.path
