use Rattle.std.proofs.Common.{◌∙◌, ◌++◌, length, subst, sym}
use Rattle.std.proofs.lemmas.Bool.{eqb-true}
use Rattle.certified.specs.Texts.{is_settled, IsFed}
use Rattle.certified.proofs.Stages.{fed-more, fed-settled, cut-again, settled-where, nothing-left}
use Rattle.certified.proofs.whole_text.take_text.Goals as goal

pub returns-then-not-branch : goal.returns-then-not-branch
returns-then-not-branch g c =
    let i = c.loop-rest.invariant in
    let piece = c.split_at.result.0.now in
    let later = c.split_at.result.1.now in
    let last = c.take.new.self in
    subst (λ t. IsFed c.args.checker.now last t)
    (cut-again c.args.text.now i.0 c.loop-rest.rest.now piece later _ c.split_at.ensures.front c.split_at.ensures.back i.1)
    (fed-settled c.args.checker.now last (i.0 ++ piece) later
    (settled-where (is_settled last) c.in_ok-take.field-0 c.in_ok-take.ensures.goes_on c.if-not-branch.true)
    (fed-more c.args.checker.now c.loop-rest.checker last i.0 piece i.2 c.in_ok-take.ensures.fed))

pub loop-rest-preserved : goal.loop-rest-preserved
loop-rest-preserved g c =
    let i = c.loop-rest.invariant in
    let piece = c.split_at.result.0.now in (
      i.0 ++ piece,
      cut-again c.args.text.now i.0 c.loop-rest.rest.now piece c.split_at.result.1.now _ c.split_at.ensures.front
          c.split_at.ensures.back i.1,
      fed-more c.args.checker.now c.loop-rest.checker c.take.new.self i.0 piece i.2 c.in_ok-take.ensures.fed,
    )

pub returns : goal.returns
returns g c =
    let i = c.loop-rest.invariant in
    subst (λ t. IsFed c.args.checker.now c.loop-rest.checker t)
    (nothing-left i.0 c.loop-rest.rest.now c.args.text.now
    (eqb-true (length c.loop-rest.rest.now) 0 (sym c.is_empty.ensures ∙ c.loop-rest-test.false)) i.1) i.2
