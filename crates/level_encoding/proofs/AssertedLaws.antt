-- What formulas that are asserted one after the other say.
use Rattle.std.proofs.Common.{◌≡◌, ℕ, ◌+◌, ◌<◌, ◌≤◌, Bool, true, List, [], ◌∷◌, ◌++◌, length, get_or, drop, drop-cons, add-one, refl, sym, ap, subst, ◌∙◌}
use Rattle.std.specs.List.{list_all}
use Rattle.std.proofs.lemmas.List.{drop_all}
use Rattle.clause_store.specs.declared.Label.TheVariants.{Structure}
use Rattle.clause_store.specs.Clauses.{Clauses}
use Rattle.clause_circuits.specs.Growth.{Agree, Says}
use Rattle.clause_circuits.proofs.Composed.{Extends-refl, Says-then}
use Rattle.clause_formulas.specs.Statements.{Statement, eval, any_statement}
use Rattle.clause_formulas.specs.Built.{assert_on}
use Rattle.clause_formulas.proofs.DraftLaws.{eval-agree, SaidBelow-le}
use Rattle.clause_formulas.proofs.Laws.{assert_is}
use Rattle.level_encoding.specs.Asserted.{assert_all}
use Rattle.level_encoding.specs.Laws.{AllSaidBelow}

pub assert_all-append : (s : Clauses) (fs gs : List Statement) → assert_all s (fs ++ gs) ≡ assert_all (assert_all s fs) gs
unfolding assert_all
assert_all-append s [] gs = refl
assert_all-append s (f ∷ fs) gs = assert_all-append (assert_on Structure s true f) fs gs

pub assert_all-none : (s : Clauses) → assert_all s [] ≡ s
unfolding assert_all
assert_all-none s = refl

pub AllSaidBelow-le : (m n : ℕ) (fs : List Statement) → m ≤ n → AllSaidBelow m fs → AllSaidBelow n fs
AllSaidBelow-le m n fs h b = SaidBelow-le m n (any_statement fs) h b

-- formulas rest on the values of their variables alone
pub all-agree : (n : ℕ) (v w : ℕ → Bool) → Agree n v w → (fs : List Statement) → AllSaidBelow n fs
    → list_all (eval v) fs ≡ list_all (eval w) fs
all-agree n v w a [] b = refl
all-agree n v w a (f ∷ fs) b = rw (eval-agree n v w a f b.0, all-agree n v w a fs b.1) refl

-- what is asserted asks for all formulas, and for nothing else
pub assert_all-says : (fs : List Statement) (s : Clauses) → AllSaidBelow s.vars fs
    → Says s (assert_all s fs) (λ asked v. list_all (eval v) fs)
unfolding assert_all
assert_all-says [] s b = Extends-refl s
assert_all-says (f ∷ fs) s b =
    let t = assert_on Structure s true f in
    let x = assert_is Structure f true s b.0 in
    let p : (ℕ → Bool) → (ℕ → Bool) → Bool = λ asked v. list_all (eval v) fs in
    Says-then s t (assert_all t fs) (λ asked v. eval v f) p p x (assert_all-says fs t (AllSaidBelow-le s.vars t.vars fs x.grows.more b.1))
    (λ asked v m. refl) (λ asked v w g. all-agree s.vars v w g fs b.1)

-- assertions only take more variables
pub assert_all-more : (s : Clauses) (fs : List Statement) → AllSaidBelow s.vars fs → s.vars ≤ (assert_all s fs).vars
assert_all-more s fs b = (assert_all-says fs s b).grows.more

-- one formula further, what is left makes the same list
pub each-step : (old new all : Clauses) (fs : List Statement) (i : ℕ) (f : Statement) → i < length fs → f ≡ get_or fs i f
    → new ≡ assert_on Structure old true f → assert_all old (drop i fs) ≡ all → assert_all new (drop (i + 1) fs) ≡ all
unfolding assert_all
each-step old new all fs i f h e b q =
    ap (λ t. assert_all t (drop (i + 1) fs)) (b ∙ ap (assert_on Structure old true) e)
    ∙ sym (ap (assert_all old) (drop-cons fs i f h ∙ ap (λ k. get_or fs i f ∷ drop k fs) (sym (add-one i)))) ∙ q

-- all formulas were asserted
pub each-all : (now all : Clauses) (fs : List Statement) (i : ℕ) → length fs ≤ i → assert_all now (drop i fs) ≡ all → now ≡ all
unfolding assert_all
each-all now all fs i h e = sym (ap (assert_all now) (drop_all i fs h)) ∙ e

-- a list that was made from the empty one
pub made-is : (was now all rules : List Statement) → all ≡ now → now ≡ was ++ rules → was ≡ [] → all ≡ rules
made-is was now all rules e f g = e ∙ f ∙ ap (λ xs. xs ++ rules) g

pub made-below : (m n : ℕ) (all rules : List Statement) → m ≤ n → AllSaidBelow m rules → all ≡ rules → AllSaidBelow n all
made-below m n all rules h b e = subst (AllSaidBelow n) (sym e) (AllSaidBelow-le m n rules h b)
