use Rattle.std.proofs.Common.{refl, ◌∙◌}
use Rattle.std.proofs.lemmas.Fn.{says_at}
use Rattle.std.proofs.lemmas.List.{drop_all}
use Rattle.word_formulas.specs.Asked.{keeping_said}
use Rattle.word_formulas.specs.Builders.{plain_said}
use Rattle.word_formulas.proofs.Steps.{one_done, all_done, ok-is, both-same}
use Rattle.word_formulas.proofs.scribe.Scribe.keeping_providers.Goals as goal

pub loop-choice-preserved : goal.loop-choice-preserved
loop-choice-preserved g c = λ keeps builds.
    let table = c.args.self.now.table.now in
    let x = c.choice-item.result in
    let provides = ok-is c.provider_formula.result c.in_ok-provides.provides _ c.in_ok-provides.was c.provider_formula.ensures in
    let kept = ok-is c.rule.result c.in_ok-kept.kept (plain_said table (keeps x.0)) c.in_ok-kept.was
    (builds _ _ (says_at g.F.Fn c.rule.ensures refl)) in
    one_done (keeping_said table c.args.virtual_name.now keeps) c.loop-choice.parts.items c.push.new.self.items c.args.packages.now
    c.loop-choice.choice-index x c.in_ok-both.both
    c.loop-choice-test.true c.choice-item.is (c.in_ok-both.ensures ∙ both-same _ _ _ _ provides kept) c.in_ok-push.ensures.items
    (c.loop-choice.invariant keeps builds)

pub returns : goal.returns
returns g c = λ keeps builds. all_done (keeping_said c.args.self.now.table.now c.args.virtual_name.now keeps) c.loop-choice.parts.items
    c.args.packages.now c.loop-choice.choice-index
    (drop_all c.loop-choice.choice-index c.args.packages.now c.loop-choice-test.false) (c.loop-choice.invariant keeps builds)
