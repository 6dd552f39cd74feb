-- The names of one requested spec, among those of all.
use Rattle.std.proofs.Common.{◌≡◌, refl, ℕ, zero, suc, ◌≤◌, arith, length, Bool, true, false, ◌||◌, cond, List, [], ◌∷◌, filter, filter_map}
use Rattle.std.proofs.lemmas.Bool.{false≢true}
use Rattle.std.specs.Prelude.{slice_get, Option, Some, None}
use Rattle.std.specs.List.{cons_option, list_any}
use Rattle.std.specs.Str.{bytes_eq}
use Rattle.reachability.specs.Paths.{reaches}
use Rattle.graph_core.specs.Graphs.{Text}
use Rattle.spec_grammar.specs.declared.part.Spec.{Spec}
use Rattle.problem.specs.Closure.{is_known, next_names}
use Rattle.problem.specs.Problems.{Problem, alone, each_alone, package_entry_of, record_at}
use Rattle.problem.proofs.AssembledLaws.{root_apart}
use Rattle.possible_closure.specs.Closures.{brings, closure_of, is_needed, known_names}

one_step : {X : Type 0} (x : X) (b c : Bool) (ps qs : List X) → (b ≡ true → c ≡ true) → length ps ≤ length qs
    → length (cond b (x ∷ ps) ps) ≤ length (cond c (x ∷ qs) qs)
one_step x false false ps qs more few = few
one_step x false true ps qs more few = omega (arith, few)
one_step x true false ps qs more few = absurd (false≢true (more refl))
one_step x true true ps qs more few = omega (arith, few)

-- what fewer are kept by is no longer
fewer : {X : Type 0} (p q : X → Bool) (xs : List X) → ((x : X) → p x ≡ true → q x ≡ true) → length (filter p xs) ≤ length (filter q xs)
fewer p q [] more = omega arith
fewer p q (x ∷ xs) more = one_step x (p x) (q x) (filter p xs) (filter q xs) (more x) (fewer p q xs more)

some_same : {A : Type 0} {x y : A} → (let T : Type 0 = Option A in let a : T = Some x in let b : T = Some y in a ≡ b) → x ≡ y
some_same e = cc

-- what one of some passes, some do
pass_or : (a b : Bool) → a ≡ true → (a || b) ≡ true
pass_or true b is = refl
pass_or false b is = absurd (false≢true is)

pass_later : (a b : Bool) → b ≡ true → (a || b) ≡ true
pass_later true b is = refl
pass_later false b is = is

or_none : (a : Bool) → (a || false) ≡ true → a ≡ true
or_none true is = refl
or_none false is = absurd (false≢true is)

front_passes : {X : Type 0} (p : X → Bool) (name : Option X) (names : List X) → list_any p (cons_option name []) ≡ true
    → list_any p (cons_option name names) ≡ true
front_passes p None names is = absurd (false≢true is)
front_passes p (Some x) names is = pass_or (p x) (list_any p names) (or_none (p x) is)

later_passes : {X : Type 0} (p : X → Bool) (name : Option X) (names : List X) → list_any p names ≡ true
    → list_any p (cons_option name names) ≡ true
later_passes p None names is = is
later_passes p (Some x) names is = pass_later (p x) (list_any p names) is

needed_by : (f : Spec → Option Text) (p : Text → Bool) (roots : List Spec) (place : ℕ) (root : Spec) → slice_get roots place ≡ Some root
    → list_any p (filter_map f (root ∷ [])) ≡ true → list_any p (filter_map f roots) ≡ true
needed_by f p [] place root is any = absurd cc
needed_by f p (r ∷ roots) zero root is any =
    front_passes p (f r) (filter_map f roots) (rw (some_same is) any)
needed_by f p (r ∷ roots) (suc place) root is any =
    later_passes p (f r) (filter_map f roots) (needed_by f p roots place root is any)

-- what is known and what a name brings does not depend on the roots
same_known : (problem : Problem) (root : Spec) → known_names (alone problem root) ≡ known_names problem
unfolding known_names is_known package_entry_of
same_known problem root = refl

same_brings : (problem : Problem) (root : Spec) → brings (alone problem root) ≡ brings problem
unfolding brings known_names is_known next_names package_entry_of record_at
same_brings problem root = refl

needed_alone : (problem : Problem) (place : ℕ) (root : Spec) (name : Text) → slice_get problem.roots place ≡ Some root
    → is_needed (alone problem root) name ≡ true → is_needed problem name ≡ true
needed_alone problem place root name is any =
    needed_by (λ spec. spec.top.name) (λ r. bytes_eq r name || reaches bytes_eq (brings problem) r name) problem.roots place root is
    (rw (same_brings problem root) at any)

of_root : (problem : Problem) (place : ℕ) (root : Spec) → slice_get problem.roots place ≡ Some root
    → length (closure_of (alone problem root)) ≤ length (closure_of problem)
unfolding closure_of
of_root problem place root is =
    rw (same_known problem root)
    (fewer (is_needed (alone problem root)) (is_needed problem) (known_names problem)
    (λ name any. needed_alone problem place root name is any))

-- the problem of one root has no more names than that of all
pub no_more : (problem : Problem) (place : ℕ) (one : Problem) → slice_get (each_alone problem) place ≡ Some one
    → length (closure_of one) ≤ length (closure_of problem)
no_more problem place one is =
    let given = root_apart problem place one is in rw given.2 (of_root problem place given.0 given.1)
