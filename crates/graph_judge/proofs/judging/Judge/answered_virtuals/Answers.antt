use Rattle.std.proofs.Common.{◌∙◌, ap, []}
use Rattle.problem.specs.OfVariantValues.Texts.{with_texts}
use Rattle.problem.specs.Problems.{depends_at}
use Rattle.graph_rules.specs.Named.{answered_virtuals}
use Rattle.graph_judge.proofs.NamedLaws.{answered_are}
use Rattle.graph_judge.proofs.judging.Judge.answered_virtuals.Goals as goal

pub returns : goal.returns
unfolding answered_virtuals
returns c =
    c.from_words.ensures.set
    ∙ ap (with_texts []) (rw (c.depends_at-rows.ensures, c.problem.ensures, c.as_str.ensures) at c.in_ok-names.ensures
    ∙ answered_are c.args.self.now.problem c.args.self.now.graph c.args.node.now c.args.child.now
    (depends_at c.args.self.now.problem c.args.node.now.name))
