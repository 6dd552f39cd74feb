use Rattle.std.proofs.Common.{◌∙◌, ◌≡◌, ◌+◌, ◌∷◌, refl, sym, subst, drop, arith, length}
use Rattle.std.specs.Prelude.{IfOk}
use Rattle.proof_log.specs.Resolution.{IdsIn, clause_at}
use Rattle.std.proofs.lemmas.List.{drop_more, drop_all}
use Rattle.std.proofs.lemmas.Bool.{false≢true}
use Rattle.log_checker.specs.Known.{clauses_in}
use Rattle.log_checker.specs.Signs.{sign_of, overlay}
use Rattle.log_checker.specs.Uses.{IsResolved}
use Rattle.log_checker.proofs.Chains.{IsOnWay, begin, go-on, failed, held, not-held}
use Rattle.log_checker.proofs.Reused.{kept-none, kept-step}
use Rattle.log_checker.proofs.chain.check_chain.Goals as goal

pub loop-id-init : goal.loop-id-init
loop-id-init c =
    let whole : c.args.chain.now ≡ c.in-Some.first.now ∷ c.in-Some.rest.now = c.in-Some.ensures.cases.0 in (
      subst (λ ids. IsOnWay c.args.known.now ids c.args.stated.now (sign_of c.put_all.new.signs) c.in-Some.rest.now) (sym whole)
          (begin c.args.known.now c.args.stated.now c.in-Some.first.now c.in-Some.rest.now (sign_of c.clear.new.self)
          (sign_of c.put_all.new.signs) c.lits_of.result.now c.lits_of.ensures.value c.lits_of.ensures.in_order c.clear.ensures
          c.in_ok-put_all.ensures (subst (IdsIn (length c.args.known.now)) whole c.requires)),
      kept-none (sign_of c.put_all.new.signs) (clause_at (clauses_in c.args.known.now)) _ c.new-uses.ensures,
    )

pub loop-id-preserved : goal.loop-id-preserved
loop-id-preserved c =
    let more = drop_more c.in-Some.rest.now c.loop-id.id-index _ c.loop-id-test.true in
    let f = sign_of c.loop-id.signs in
    let g = sign_of c.resolve_with.new.signs in
    let lits = c.lits_of-lits.result.now in
    let p = c.in-Ok.pivot in
    let pivot = sym c.in-Ok.is ∙ c.in_ok-pivot.ensures.pivot in
    let resolved : IsResolved f g lits p = subst (λ r. IfOk r (λ q. IsResolved f g lits q)) c.in-Ok.is c.in_ok-pivot.ensures.signs in (
      go-on c.args.known.now c.args.chain.now c.args.stated.now _ (drop (c.loop-id.id-index + 1) c.in-Some.rest.now) f (overlay lits f) g
          lits p (subst (λ ids. IsOnWay c.args.known.now c.args.chain.now c.args.stated.now f ids) more c.loop-id.invariant.0)
          c.lits_of-lits.ensures.value c.lits_of-lits.ensures.in_order pivot (λ x. refl) resolved,
      kept-step c.loop-id.uses c.note.new.self f g _ lits p c.lits_of-lits.ensures.in_order pivot resolved c.in_ok-note-in-Ok.ensures
          (clause_at (clauses_in c.args.known.now)) c.lits_of-lits.ensures.value c.loop-id.invariant.1,
    )

pub returns-in-Err : goal.returns-in-Err
returns-in-Err c =
    let more = drop_more c.in-Some.rest.now c.loop-id.id-index _ c.loop-id-test.true in
    failed c.args.known.now c.args.chain.now c.args.stated.now _ (drop (c.loop-id.id-index + 1) c.in-Some.rest.now)
    (sign_of c.loop-id.signs) c.lits_of-lits.result.now c.in-Err.why
    (subst (λ ids. IsOnWay c.args.known.now c.args.chain.now c.args.stated.now
    (sign_of c.loop-id.signs) ids) more c.loop-id.invariant.0) c.lits_of-lits.ensures.value c.lits_of-lits.ensures.in_order
    (sym c.in-Err.is ∙ c.in_ok-pivot.ensures.pivot)

pub returns-then-are_within : goal.returns-then-are_within
returns-then-are_within c =
    held c.args.known.now c.args.chain.now c.args.stated.now (sign_of c.loop-id.signs)
    (subst (λ ids. IsOnWay c.args.known.now c.args.chain.now c.args.stated.now (sign_of c.loop-id.signs) ids)
    (drop_all c.loop-id.id-index c.in-Some.rest.now (omega (arith, c.loop-id-test.false))) c.loop-id.invariant.0)
    (c.are_within.ensures.0 c.if-are_within.true)

pub returns : goal.returns
returns c =
    not-held c.args.known.now c.args.chain.now c.args.stated.now (sign_of c.loop-id.signs)
    (subst (λ ids. IsOnWay c.args.known.now c.args.chain.now c.args.stated.now (sign_of c.loop-id.signs) ids)
    (drop_all c.loop-id.id-index c.in-Some.rest.now (omega (arith, c.loop-id-test.false))) c.loop-id.invariant.0)
    (λ h. false≢true (sym c.if-are_within.false ∙ c.are_within.ensures.1 h))
