use Rattle.std.proofs.Common.{refl, ◌||◌}
use Rattle.std.proofs.lemmas.List.{drop_all}
use Rattle.reuse_db.specs.declared.record.Dependency.{Dependency}
use Rattle.word_formulas.specs.Builders.{plain_said}
use Rattle.node_formulas.specs.Rows.{only_if}
use Rattle.node_formulas.specs.Attributes.{dependency_rule}
use Rattle.node_formulas.proofs.Steps.{pushed-if, ended}
use Rattle.node_formulas.proofs.kept.dependency_parts.Goals as goal

pub returns : goal.returns
returns c =
    let said = λ (d : Dependency). plain_said c.args.table.now (dependency_rule c.args.problem.now c.args.name.now d) in
    ended (λ (d : Dependency). only_if (d.kinds.link || d.kinds.run) (said d)) c.args.dependencies.now c.args.dependencies.now
    c.loop-dependency.dependency-index c.loop-dependency.parts.items _
    refl (drop_all c.loop-dependency.dependency-index c.args.dependencies.now c.loop-dependency-test.false) c.loop-dependency.invariant
    (pushed-if (λ (d : Dependency). d.kinds.link || d.kinds.run) said c.args.dependencies.now)
