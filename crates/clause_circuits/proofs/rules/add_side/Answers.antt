use Rattle.std.proofs.Common.{◌≡◌, ◌+◌, List, [], ◌∷◌, get_or, take, drop, subst, sym, ap, ◌∙◌, arith}
use Rattle.clause_store.specs.declared.Lit.{Lit}
use Rattle.clause_store.specs.Lits.{clause_of, AllBelow}
use Rattle.clause_store.specs.Clauses.{with_structure}
use Rattle.clause_circuits.specs.Gates.{headed}
use Rattle.clause_circuits.proofs.Added.{rest-below, more-rules, stopped-partly, side-parts, side-at}
use Rattle.clause_circuits.proofs.rules.add_side.Goals as goal

pub add_headed-requires : goal.add_headed-requires
add_headed-requires c =
    let i = c.loop-lits.lits-index in
    let item : c.as_slice.result.now ≡ get_or c.args.side.now i c.lits-item.result = c.as_slice.ensures ∙ c.lits-item.is in
    let front : List (List Lit) = headed c.args.head (take i c.args.side.now) in
    let back : List (List Lit) = (c.args.head ∷ get_or c.args.side.now i c.lits-item.result) ∷ headed c.args.head (drop (i + 1) c.args.side.now) in
    let b = rest-below c.args.clauses.now c.loop-lits.clauses (headed c.args.head c.args.side.now) front back
    (side-parts c.args.head c.args.side.now i c.lits-item.result (omega arith)) c.loop-lits.invariant c.requires in (
      b.0.0,
      subst (λ ls. AllBelow c.loop-lits.clauses.vars ls) (sym item) b.0.1,
    )

pub returns-in_err-add_headed-clause-partial : goal.returns-in_err-add_headed-clause-partial
returns-in_err-add_headed-clause-partial c =
    let i = c.loop-lits.lits-index in
    let front : List (List Lit) = headed c.args.head (take i c.args.side.now) in
    let back : List (List Lit) = (c.args.head ∷ get_or c.args.side.now i c.lits-item.result) ∷ headed c.args.head (drop (i + 1) c.args.side.now) in
    stopped-partly c.args.clauses.now c.loop-lits.clauses _ (headed c.args.head c.args.side.now) front back
    (side-parts c.args.head c.args.side.now i c.lits-item.result (omega arith)) c.loop-lits.invariant c.in_err-add_headed.ensures.err

pub loop-lits-preserved : goal.loop-lits-preserved
loop-lits-preserved c =
    let i = c.loop-lits.lits-index in
    let item : c.as_slice.result.now ≡ get_or c.args.side.now i c.lits-item.result = c.as_slice.ensures ∙ c.lits-item.is in
    let front : List (List Lit) = headed c.args.head (take i c.args.side.now) in
    let back : List (List Lit) = (c.args.head ∷ get_or c.args.side.now i c.lits-item.result) ∷ [] in
    more-rules c.args.clauses.now c.loop-lits.clauses _ (headed c.args.head (take (i + 1) c.args.side.now)) front back
    (side-at c.args.head c.args.side.now i c.lits-item.result (omega arith)) c.loop-lits.invariant
    (c.in_ok-add_headed.ensures.ok ∙ ap (λ ls. with_structure c.loop-lits.clauses (clause_of (c.args.head ∷ ls))) item)
