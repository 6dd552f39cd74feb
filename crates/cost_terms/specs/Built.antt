-- The clauses and the bits of sums, as a function of the clauses before.
use Rattle.std.specs.Prelude.{ℕ, List}
use Rattle.clause_store.specs.declared.Lit.{Lit}
use Rattle.clause_store.specs.Clauses.{Clauses}
use Rattle.clause_circuits.specs.Gates.{with_gates}
use Rattle.clause_circuits.specs.Steps.{plan_at}
use Rattle.clause_formulas.specs.Built.{Grown}
use Rattle.criteria_totals.specs.Totals.{totals_on, tops, Spelling}
use Rattle.cost_terms.specs.declared.weighted.Weighted.{Weighted}
use Rattle.cost_terms.specs.Weighed.{lists_on}

-- the list with the gates of some terms' sums, the bits of these and their greatest values
abbrev pub sums_on : Clauses → List (List (ℕ × Lit)) → Grown Spelling
sums_on s terms =
    let made = totals_on (plan_at s) terms in
    record { list = with_gates s made.plan.gates; answer = record { lits = made.answer; tops = tops terms } }

-- first a literal for each formula that may be true, and then the sums
unfoldable pub define_totals_on : Clauses → List (List Weighted) → Grown Spelling
define_totals_on s lists = let m = lists_on s lists in sums_on m.list m.answer
