use Rattle.std.proofs.Common.{false, ◌+◌, List, [], ◌∷◌, get_or, take, drop, subst, sym, ap, ◌∙◌, arith}
use Rattle.clause_store.specs.declared.Lit.{Lit}
use Rattle.clause_store.specs.Lits.{negation, clause_of, AllBelow}
use Rattle.clause_store.specs.Clauses.{with_structure}
use Rattle.clause_circuits.specs.Shapes.{cover_rules}
use Rattle.clause_circuits.proofs.Added.{rest-below, more-rules, stopped-partly, cover-parts, cover-at}
use Rattle.clause_circuits.proofs.rules.add_cover.Goals as goal

pub add_headed-requires : goal.add_headed-requires
add_headed-requires c =
    let i = c.loop-lit.lit-index in
    let d : Lit = record { var = record { 0 = 0 }; positive = false } in
    let front : List (List Lit) = cover_rules c.args.x (take i c.args.lits.now) in
    let back : List (List Lit) = (c.args.x ∷ negation (get_or c.args.lits.now i d) ∷ []) ∷ cover_rules c.args.x (drop (i + 1) c.args.lits.now) in
    let b = rest-below c.args.clauses.now c.loop-lit.clauses (cover_rules c.args.x c.args.lits.now) front back
    (cover-parts c.args.x c.args.lits.now i d (omega arith)) c.loop-lit.invariant c.requires in (
      b.0.0,
      subst (λ n. AllBelow c.loop-lit.clauses.vars (n ∷ [])) (sym c.negated.ensures) b.0.1,
    )

pub returns-in_err-add_headed-clause-partial : goal.returns-in_err-add_headed-clause-partial
returns-in_err-add_headed-clause-partial c =
    let i = c.loop-lit.lit-index in
    let d : Lit = record { var = record { 0 = 0 }; positive = false } in
    let front : List (List Lit) = cover_rules c.args.x (take i c.args.lits.now) in
    let back : List (List Lit) = (c.args.x ∷ negation (get_or c.args.lits.now i d) ∷ []) ∷ cover_rules c.args.x (drop (i + 1) c.args.lits.now) in
    stopped-partly c.args.clauses.now c.loop-lit.clauses _ (cover_rules c.args.x c.args.lits.now) front back
    (cover-parts c.args.x c.args.lits.now i d (omega arith)) c.loop-lit.invariant c.in_err-add_headed.ensures.err

pub loop-lit-preserved : goal.loop-lit-preserved
loop-lit-preserved c =
    let i = c.loop-lit.lit-index in
    let d : Lit = record { var = record { 0 = 0 }; positive = false } in
    let front : List (List Lit) = cover_rules c.args.x (take i c.args.lits.now) in
    let back : List (List Lit) = (c.args.x ∷ negation (get_or c.args.lits.now i d) ∷ []) ∷ [] in
    more-rules c.args.clauses.now c.loop-lit.clauses _ (cover_rules c.args.x (take (i + 1) c.args.lits.now)) front back
    (cover-at c.args.x c.args.lits.now i d (omega arith)) c.loop-lit.invariant (c.in_ok-add_headed.ensures.ok
    ∙ ap (λ n. with_structure c.loop-lit.clauses (clause_of (c.args.x ∷ n ∷ []))) c.negated.ensures)
