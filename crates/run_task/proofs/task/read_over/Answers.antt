use Rattle.std.proofs.Common.{◌≡◌, true, false, ap, sym, ◌∙◌}
use Rattle.run_input.specs.Words.{Command}
use Rattle.run_task.specs.Tasks.{is_search}
use Rattle.run_task.proofs.SeenTasks.{found_work, over_by, seen_posed, seen_search, specs_by}
use Rattle.run_task.proofs.task.read_over.Goals as goal

-- ---- installed packages

pub returns-then-is_search-clause-read : goal.returns-then-is_search-clause-read
returns-then-is_search-clause-read g c =
    let is : is_search c.args.command.now.work ≡ true =
    sym (ap (λ (k : Command). is_search k.work) c.command.view_is) ∙ (sym c.is_search.ensures ∙ c.if-is_search.true) in
    over_by c.args.command.now c.read_search.result _ true is c.read_search.ensures.read

pub returns-then-is_search-clause-seen : goal.returns-then-is_search-clause-seen
returns-then-is_search-clause-seen g c =
    let is : is_search c.args.command.now.work ≡ true =
    sym (ap (λ (k : Command). is_search k.work) c.command.view_is) ∙ (sym c.is_search.ensures ∙ c.if-is_search.true) in
    seen_search c.args.command.now c.read_search.result _ is

pub returns-then-is_search-clause-work : goal.returns-then-is_search-clause-work
returns-then-is_search-clause-work g c =
    let is : is_search c.args.command.now.work ≡ true =
    sym (ap (λ (k : Command). is_search k.work) c.command.view_is) ∙ (sym c.is_search.ensures ∙ c.if-is_search.true) in
    found_work c.args.command.now c.read_search.result is c.read_search.ensures.work

pub returns-then-is_search-clause-specs : goal.returns-then-is_search-clause-specs
returns-then-is_search-clause-specs g c =
    let is : is_search c.args.command.now.work ≡ true =
    sym (ap (λ (k : Command). is_search k.work) c.command.view_is) ∙ (sym c.is_search.ensures ∙ c.if-is_search.true) in
    specs_by c.args.command.now c.read_search.result true is c.read_search.ensures.specs

-- ---- a problem

pub read_posed-requires-clause-work : goal.read_posed-requires-clause-work
read_posed-requires-clause-work g c κs long =
    sym (ap (λ (k : Command). is_search k.work) c.command.view_is) ∙ (sym c.is_search.ensures ∙ c.if-is_search.false)

pub returns-else-is_search-clause-read : goal.returns-else-is_search-clause-read
returns-else-is_search-clause-read g c =
    let is : is_search c.args.command.now.work ≡ false =
    sym (ap (λ (k : Command). is_search k.work) c.command.view_is) ∙ (sym c.is_search.ensures ∙ c.if-is_search.false) in
    over_by c.args.command.now c.read_posed.result _ false is c.read_posed.ensures.read

pub returns-else-is_search-clause-seen : goal.returns-else-is_search-clause-seen
returns-else-is_search-clause-seen g c =
    let is : is_search c.args.command.now.work ≡ false =
    sym (ap (λ (k : Command). is_search k.work) c.command.view_is) ∙ (sym c.is_search.ensures ∙ c.if-is_search.false) in
    seen_posed c.args.command.now c.read_posed.result _ is c.read_posed.ensures.seen

pub returns-else-is_search-clause-specs : goal.returns-else-is_search-clause-specs
returns-else-is_search-clause-specs g c =
    let is : is_search c.args.command.now.work ≡ false =
    sym (ap (λ (k : Command). is_search k.work) c.command.view_is) ∙ (sym c.is_search.ensures ∙ c.if-is_search.false) in
    specs_by c.args.command.now c.read_posed.result false is c.read_posed.ensures.specs
