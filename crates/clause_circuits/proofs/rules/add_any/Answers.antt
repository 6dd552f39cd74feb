use Rattle.std.proofs.Common.{[], ◌∷◌, subst, refl, sym, ap, ◌∙◌}
use Rattle.std.proofs.lemmas.List.{append-nil}
use Rattle.clause_store.specs.Lits.{negation, clause_of, AllBelow}
use Rattle.clause_store.specs.Clauses.{with_structure}
use Rattle.clause_circuits.specs.Gates.{gate_rules}
use Rattle.clause_circuits.specs.Shapes.{any_of, cover_rules}
use Rattle.clause_circuits.proofs.Added.{first-below, rest-below, more-rules}
use Rattle.clause_circuits.proofs.rules.add_any.Goals as goal

pub add_cover-requires : goal.add_cover-requires
add_cover-requires c = first-below c.args.clauses.now.vars (gate_rules c.args.x (any_of c.args.lits.now))
    (cover_rules c.args.x c.args.lits.now) ((negation c.args.x ∷ c.args.lits.now) ∷ []) refl c.requires

pub add_headed-requires : goal.add_headed-requires
add_headed-requires c =
    let b = rest-below c.args.clauses.now c.add_cover.new.clauses (gate_rules c.args.x (any_of c.args.lits.now))
    (cover_rules c.args.x c.args.lits.now) ((negation c.args.x ∷ c.args.lits.now) ∷ []) refl c.in_ok-add_cover.ensures.ok c.requires in
    subst (λ n. AllBelow c.add_cover.new.clauses.vars (n ∷ c.args.lits.now)) (sym c.negated.ensures) b.0

pub returns-clause-ok : goal.returns-clause-ok
returns-clause-ok c =
    more-rules c.args.clauses.now c.add_cover.new.clauses _ (gate_rules c.args.x (any_of c.args.lits.now))
    (cover_rules c.args.x c.args.lits.now) ((negation c.args.x ∷ c.args.lits.now) ∷ []) refl c.in_ok-add_cover.ensures.ok
    (c.in_ok-add_headed.ensures.ok
    ∙ ap (λ n. with_structure c.add_cover.new.clauses (clause_of (n ∷ c.args.lits.now))) c.negated.ensures)

pub returns-clause-partial : goal.returns-clause-partial
returns-clause-partial c = (
  gate_rules c.args.x (any_of c.args.lits.now),
  [],
  sym (append-nil (gate_rules c.args.x (any_of c.args.lits.now))),
  more-rules c.args.clauses.now c.add_cover.new.clauses _ (gate_rules c.args.x (any_of c.args.lits.now))
      (cover_rules c.args.x c.args.lits.now) ((negation c.args.x ∷ c.args.lits.now) ∷ []) refl c.in_ok-add_cover.ensures.ok
      (c.in_ok-add_headed.ensures.ok
      ∙ ap (λ n. with_structure c.add_cover.new.clauses (clause_of (n ∷ c.args.lits.now))) c.negated.ensures),
)
