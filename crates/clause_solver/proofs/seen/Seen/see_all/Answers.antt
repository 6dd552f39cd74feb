use Rattle.std.proofs.Common.{◌∙◌, ◌<◌, true, length, set, ap, drop, take, sym, subst, refl, arith, ◌+◌}
use Rattle.clause_store.specs.declared.Lit.{Lit}
use Rattle.clause_store.specs.Lits.{var_of, AllBelow}
use Rattle.clause_solver.specs.Seen.{AreSeen}
use Rattle.clause_solver.proofs.SeenLaws.{some_lit, AllBelow-head, AllBelow-next, AreSeen-none, AreSeen-more, AreSeen-all}
use Rattle.clause_solver.proofs.seen.Seen.see_all.Goals as goal

pub see-requires : goal.see-requires
see-requires c =
    subst (λ (l : Lit). var_of l < length c.loop-code.self) (sym (c.lit.ensures ∙ c.code-item.is))
    (AllBelow-head _ c.loop-code.code-index c.args.lits.now _ (omega arith) c.loop-code.invariant.in_range)

pub loop-code-init : goal.loop-code-init
loop-code-init c = record { in_range = c.requires; is_seen = AreSeen-none c.args.self.now; same = refl }

pub loop-code-preserved : goal.loop-code-preserved
loop-code-preserved c =
    let i = c.loop-code.code-index in
    let ls = c.args.lits.now in
    let e = c.lit.ensures ∙ c.code-item.is in
    let sees = c.in_ok-see.ensures.ok ∙ ap (λ (l : Lit). set c.loop-code.self (var_of l) true) e in
    record {
      in_range = subst (λ n. AllBelow n (drop (i + 1) ls)) (sym c.see.ensures.same)
          (AllBelow-next _ i ls some_lit (omega arith) c.loop-code.invariant.in_range);
      is_seen = subst (λ ms. AreSeen c.args.self.now ms (take (i + 1) ls)) (sym sees)
          (AreSeen-more ls i _ c.loop-code.self (omega arith) (AllBelow-head _ i ls _ (omega arith) c.loop-code.invariant.in_range)
          c.args.self.now c.loop-code.invariant.is_seen);
      same = c.see.ensures.same ∙ c.loop-code.invariant.same;
    }

pub returns-clause-is_seen : goal.returns-clause-is_seen
returns-clause-is_seen c = AreSeen-all c.args.self.now c.loop-code.self c.args.lits.now c.loop-code.code-index (omega arith)
    c.loop-code.invariant.is_seen
