use Rattle.std.proofs.Common.{◌≡◌, ◌++◌, subst, arith}
use Rattle.std.proofs.lemmas.List.{take_all}
use Rattle.dimacs_text.specs.Clauses.{clause_lines}
use Rattle.dimacs_text.proofs.Steps.{goes_on, next_clause}
use Rattle.dimacs_text.proofs.clauses.write_clauses.Goals as goal

pub loop-place-preserved : goal.loop-place-preserved
loop-place-preserved c = goes_on _ _ c.args.out.now.items _ _ _ c.in_ok-write_clause.ensures c.loop-place.invariant
    (next_clause c.args.clauses.now.entries c.loop-place.place)

pub returns : goal.returns
returns c = subst (λ es. c.loop-place.out.items ≡ c.args.out.now.items ++ clause_lines es)
    (take_all c.loop-place.place c.args.clauses.now.entries (omega (arith, c.loop-place-test.false, c.len-place-end.ensures)))
    c.loop-place.invariant
