use Rattle.std.proofs.Common.{◌∙◌, ◌+◌, sym, subst, arith, List}
use Rattle.clause_store.specs.Clauses.{clauses_of}
use Rattle.proof_log.specs.Known.{AllClauses}
use Rattle.log_checker.specs.declared.known.Known.{Known}
use Rattle.log_checker.specs.Known.{clauses_in}
use Rattle.log_checker.proofs.Copies.{IsCopied, copied, passed, all-copied, ordered-push, ordered-all}
use Rattle.log_checker.proofs.inputs.copy_all.Goals as goal
use Rattle.log_checker.proofs.inputs.copy_all.Goals.{in-Some+in_ok-take_input-in-Some, in-None}

pub loop-place-preserved : goal.loop-place-preserved
loop-place-preserved c =
    let cs = clauses_of c.args.clauses.now.entries in
    let P : List Known → Type 0 = λ st. IsCopied cs (c.loop-place.place + 1) st × AllClauses (clauses_in st) in
    elim c.match-branch-3.branch [
      | in-Some+in_ok-take_input-in-Some w ↦
          let e = w.in_ok-take_input-in-Some.ensures.ok in
          subst P (sym w.store-is) (
            copied cs c.loop-place.place w.in-Some.clause c.loop-place.store w.take_input.new.store
                (sym w.in-Some.is ∙ c.in_ok-clause.ensures) e c.loop-place.invariant.0,
            ordered-push c.loop-place.store w.take_input.new.store w.in-Some.clause e c.loop-place.invariant.1
                w.take_input.ensures.in_order,
          )
      | in-None w ↦ subst P (sym w.store-is) (
        passed cs c.loop-place.place c.loop-place.store
            (sym w.in-None.is ∙ c.in_ok-clause.ensures) c.loop-place.invariant.0,
        c.loop-place.invariant.1,
      )
    ]

pub returns-clause-copied : goal.returns-clause-copied
returns-clause-copied c = all-copied c.args.clauses.now.entries c.loop-place.place c.loop-place.store
    (omega (arith, c.loop-place-test.false, c.len-count.ensures)) c.loop-place.invariant.0

pub returns-clause-in_order : goal.returns-clause-in_order
returns-clause-in_order c = ordered-all (clauses_of c.args.clauses.now.entries) c.loop-place.store
    (all-copied c.args.clauses.now.entries c.loop-place.place c.loop-place.store
    (omega (arith, c.loop-place-test.false, c.len-count.ensures)) c.loop-place.invariant.0) c.loop-place.invariant.1
