use Rattle.std.proofs.Common.{◌++◌, ◌∷◌, [], ◌+◌, length, inl, sym, ap, ◌∙◌, refl, subst, arith}
use Rattle.clause_watch.specs.Watches.{WatchValue}
use Rattle.clause_solver.specs.Searches.{IsClosed, stated}
use Rattle.proof_log.specs.Derivations.{IsDerived}
use Rattle.clause_solver.specs.Solvers.{IsInOrder}
use Rattle.clause_solver.specs.Searches.{value_of}
use Rattle.std.specs.Prelude.{false}
use Rattle.clause_solver.proofs.SearchSteps.{closed-all, closed-bit}
use Rattle.clause_solver.proofs.search.Search.close.Goals as goal

pub add-requires-clause-settled : goal.add-requires-clause-settled
add-requires-clause-settled c = inl (omega (arith, c.backtrack.ensures.depth))

pub returns-in_ok-push-in-None : goal.returns-in_ok-push-in-None
returns-in_ok-push-in-None c =
    let s = c.args.self.now in
    let d = subst (λ a. IsDerived s.watch.clauses c.in_ok-chain.chain (stated a)) c.in-None.is
    (c.requires.refutes c.in_ok-chain.chain c.in_ok-chain.ensures.chain) in
    subst (IsClosed s _) (sym c.in-None.is)
    (closed-all s _ c.in_ok-chain.chain c.requires.search c.requires.open_log d refl refl c.in_ok-push-in-None.ensures.ok refl refl refl
    refl refl c.in_ok-chain.ensures.same c.in_ok-chain.ensures.unseen)

pub returns-in_ok-push-in-Some-2 : goal.returns-in_ok-push-in-Some-2
returns-in_ok-push-in-Some-2 c =
    let s = c.args.self.now in
    let d = subst (λ a. IsDerived s.watch.clauses c.in_ok-chain.chain (stated a)) c.in-Some.is
    (c.requires.refutes c.in_ok-chain.chain c.in_ok-chain.ensures.chain) in
    let o = subst (IsInOrder (value_of false s)) c.in-Some.is c.requires.in_order in
    let a = ap (λ (w : WatchValue). w.clauses) c.backtrack.ensures.kept in
    let b = ap (λ (w : WatchValue). w.clauses) c.in_ok-add-in-Some.ensures.ok in
    subst (IsClosed s _) (sym c.in-Some.is)
    (closed-bit s _ c.in-Some.bit c.next_id-id.result c.in-Some.lit c.in_ok-chain.chain c.requires.search c.requires.open_log o.0
    (c.next_id-id.ensures ∙ ap (λ cs. length cs + 1) a) d
    (b ∙ ap (λ cs. cs ++ c.in_ok-clause-in-Some.clause ∷ []) a ∙ ap (λ k. s.watch.clauses ++ k ∷ []) c.in_ok-clause-in-Some.ensures)
    (ap (λ (w : WatchValue). w.vars) c.in_ok-add-in-Some.ensures.ok ∙ ap (λ (w : WatchValue). w.vars) c.backtrack.ensures.kept)
    c.in_ok-push-in-Some.ensures.ok refl refl c.in_ok-push-in-Some-2.ensures.items refl refl c.in_ok-chain.ensures.same
    c.in_ok-chain.ensures.unseen)
