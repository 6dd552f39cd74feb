use Rattle.std.proofs.Common.{[], ◌++◌, subst, refl, sym, ap, ◌∙◌}
use Rattle.std.proofs.lemmas.List.{append-nil}
use Rattle.clause_store.specs.Lits.{negation}
use Rattle.clause_circuits.specs.Gates.{AllClausesBelow, Partly, headed, with_rules}
use Rattle.clause_circuits.proofs.Added.{first-below, rest-below, more-rules, more-partly}
use Rattle.clause_circuits.proofs.rules.add_given.Goals as goal

pub add_side-requires : goal.add_side-requires
add_side-requires c = first-below c.args.clauses.now.vars (headed c.args.x c.args.on.now ++ headed (negation c.args.x) c.args.off.now)
    (headed c.args.x c.args.on.now) (headed (negation c.args.x) c.args.off.now) refl c.requires

pub add_side-requires-2 : goal.add_side-requires-2
add_side-requires-2 c =
    subst (λ n. AllClausesBelow c.add_side.new.clauses.vars (headed n c.args.off.now)) (sym c.negated.ensures)
    (rest-below c.args.clauses.now c.add_side.new.clauses (headed c.args.x c.args.on.now ++ headed (negation c.args.x) c.args.off.now)
    (headed c.args.x c.args.on.now) (headed (negation c.args.x) c.args.off.now) refl c.in_ok-add_side.ensures.ok c.requires)

pub returns-in_err-add_side-2-clause-partial : goal.returns-in_err-add_side-2-clause-partial
returns-in_err-add_side-2-clause-partial c =
    more-partly c.args.clauses.now c.add_side.new.clauses c.add_side-2.new.clauses
    (headed c.args.x c.args.on.now ++ headed (negation c.args.x) c.args.off.now) (headed c.args.x c.args.on.now)
    (headed (negation c.args.x) c.args.off.now) refl c.in_ok-add_side.ensures.ok
    (subst (λ n. Partly c.add_side.new.clauses c.add_side-2.new.clauses (headed n c.args.off.now)) c.negated.ensures
    c.add_side-2.ensures.partial)

pub returns-clause-ok : goal.returns-clause-ok
returns-clause-ok c =
    more-rules c.args.clauses.now c.add_side.new.clauses c.add_side-2.new.clauses
    (headed c.args.x c.args.on.now ++ headed (negation c.args.x) c.args.off.now) (headed c.args.x c.args.on.now)
    (headed (negation c.args.x) c.args.off.now) refl c.in_ok-add_side.ensures.ok
    (c.in_ok-add_side-2.ensures.ok ∙ ap (λ n. with_rules c.add_side.new.clauses (headed n c.args.off.now)) c.negated.ensures)

pub returns-clause-partial : goal.returns-clause-partial
returns-clause-partial c = (
  headed c.args.x c.args.on.now ++ headed (negation c.args.x) c.args.off.now,
  [],
  sym (append-nil (headed c.args.x c.args.on.now ++ headed (negation c.args.x) c.args.off.now)),
  more-rules c.args.clauses.now c.add_side.new.clauses c.add_side-2.new.clauses
      (headed c.args.x c.args.on.now ++ headed (negation c.args.x) c.args.off.now) (headed c.args.x c.args.on.now)
      (headed (negation c.args.x) c.args.off.now) refl c.in_ok-add_side.ensures.ok
      (c.in_ok-add_side-2.ensures.ok ∙ ap (λ n. with_rules c.add_side.new.clauses (headed n c.args.off.now)) c.negated.ensures),
)
