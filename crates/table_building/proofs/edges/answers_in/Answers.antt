use Rattle.std.proofs.Common.{ap, ◌∙◌, List, ◌++◌, map, take}
use Rattle.std.proofs.lemmas.List.{take_all}
use Rattle.std.proofs.lemmas.Result.{IfOk-weaker}
use Rattle.graph_core.specs.Graphs.{Text}
use Rattle.keyed_lists.specs.Lent.{with_text}
use Rattle.problem.specs.Closure.{possible_providers}
use Rattle.table_building.specs.Parts.{answers_in}
use Rattle.table_building.proofs.Indexed.{Answering, joined_next}
use Rattle.table_building.proofs.edges.answers_in.Goals as goal

pub loop-name-preserved : goal.loop-name-preserved
loop-name-preserved c =
    let problem = c.args.problem.now in
    let wanted = c.args.wanted.now in
    let i = c.loop-name.name-index in
    let name : Text = c.name-item.result in
    c.in_ok-add_answers.ensures
    ∙ ap (λ (es : List (Text × Text)). es
    ++ map (λ (p : Text). let e : Text × Text = (p, name) in e) (map (λ pair. pair.1) c.possible_providers-pairs.result.now))
    c.loop-name.invariant
    ∙ ap (λ (ps : List Text). answers_in problem (take i wanted) ++ map (λ (p : Text). let e : Text × Text = (p, name) in e) ps)
    (c.possible_providers-pairs.ensures ∙ ap (possible_providers problem) c.as_str.ensures)
    ∙ joined_next (Answering problem) wanted i name c.loop-name-test.true c.name-item.is

pub returns : goal.returns
returns c =
    let all = rw (take_all c.loop-name.name-index c.args.wanted.now c.loop-name-test.false) at c.loop-name.invariant in
    IfOk-weaker c.new.result _ _ (λ index same text. same text ∙ ap (λ (es : List (Text × Text)). with_text text es) all) c.new.ensures
