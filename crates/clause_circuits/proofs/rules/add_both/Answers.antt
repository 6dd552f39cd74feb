use Rattle.std.proofs.Common.{[], ◌∷◌, refl, ap, ◌∙◌}
use Rattle.clause_store.specs.Lits.{negation, clause_of}
use Rattle.clause_store.specs.Clauses.{with_structure}
use Rattle.clause_circuits.proofs.Added.{one-more}
use Rattle.clause_circuits.proofs.rules.add_both.Goals as goal

pub returns-in_err-add_headed-2-clause-partial : goal.returns-in_err-add_headed-2-clause-partial
returns-in_err-add_headed-2-clause-partial c =
    let x = c.args.x in
    let first = c.in_ok-add_headed.ensures.ok
    ∙ ap (λ n. with_structure c.args.clauses.now (clause_of (x ∷ n ∷ c.negated-2.result ∷ []))) c.negated.ensures
    ∙ ap (λ n. with_structure c.args.clauses.now (clause_of (x ∷ negation c.args.a ∷ n ∷ []))) c.negated-2.ensures in
    ((x ∷ negation c.args.a ∷ negation c.args.b ∷ []) ∷ [], _, refl, c.in_err-add_headed-2.ensures.err ∙ first)

pub returns-in_err-add_headed-3-clause-partial : goal.returns-in_err-add_headed-3-clause-partial
returns-in_err-add_headed-3-clause-partial c =
    let x = c.args.x in
    let first = c.in_ok-add_headed.ensures.ok
    ∙ ap (λ n. with_structure c.args.clauses.now (clause_of (x ∷ n ∷ c.negated-2.result ∷ []))) c.negated.ensures
    ∙ ap (λ n. with_structure c.args.clauses.now (clause_of (x ∷ negation c.args.a ∷ n ∷ []))) c.negated-2.ensures in
    let second = one-more c.args.clauses.now c.add_headed.new.self c.add_headed-2.new.self c.negated-3.result (negation x) (c.args.a ∷ [])
    ((x ∷ negation c.args.a ∷ negation c.args.b ∷ []) ∷ []) first c.negated-3.ensures c.in_ok-add_headed-2.ensures.ok in (
      (x ∷ negation c.args.a ∷ negation c.args.b ∷ []) ∷ (negation x ∷ c.args.a ∷ []) ∷ [],
      _,
      refl,
      c.in_err-add_headed-3.ensures.err ∙ second,
    )

pub returns-clause-partial : goal.returns-clause-partial
returns-clause-partial c =
    let x = c.args.x in
    let first = c.in_ok-add_headed.ensures.ok
    ∙ ap (λ n. with_structure c.args.clauses.now (clause_of (x ∷ n ∷ c.negated-2.result ∷ []))) c.negated.ensures
    ∙ ap (λ n. with_structure c.args.clauses.now (clause_of (x ∷ negation c.args.a ∷ n ∷ []))) c.negated-2.ensures in
    let second = one-more c.args.clauses.now c.add_headed.new.self c.add_headed-2.new.self c.negated-3.result (negation x) (c.args.a ∷ [])
    ((x ∷ negation c.args.a ∷ negation c.args.b ∷ []) ∷ []) first c.negated-3.ensures c.in_ok-add_headed-2.ensures.ok in
    let third = one-more c.args.clauses.now c.add_headed-2.new.self c.add_headed-3.new.self c.negated-4.result (negation x) (c.args.b ∷ [])
    ((x ∷ negation c.args.a ∷ negation c.args.b ∷ []) ∷ (negation x ∷ c.args.a ∷ []) ∷ []) second c.negated-4.ensures
    c.in_ok-add_headed-3.ensures.ok in (
      (x ∷ negation c.args.a ∷ negation c.args.b ∷ []) ∷ (negation x ∷ c.args.a ∷ []) ∷ (negation x ∷ c.args.b ∷ []) ∷ [],
      [],
      refl,
      third,
    )
