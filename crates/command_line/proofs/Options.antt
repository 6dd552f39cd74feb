-- What is known of an option whose value is known.
use Rattle.std.specs.Prelude.{◌≡◌, Option, Some, None, IfSome}
use Rattle.std.proofs.Common.{◌∙◌, subst, sym}
use Rattle.std.proofs.lemmas.Option.{none-some}

-- one option holds one value
pub same_inside : {A : Type 0} (x y : A) → (let T : Type 0 = Option A in let a : T = Some x in let b : T = Some y in a ≡ b) → x ≡ y
same_inside x y e = cc

-- what holds anyway holds of whatever an option has
pub in_any : {A : Type 0} (o : Option A) (P : Type 0) → P → IfSome o (λ _. P)
in_any None P holds = tt
in_any (Some x) P holds = holds

-- what holds of its value holds of the option
pub for_some : {A : Type 0} (o : Option A) (x : A) (P : A → Type 0) → o ≡ Some x → P x → IfSome o P
for_some None x P is holds = tt
for_some (Some y) x P is holds = subst P (sym (same_inside y x is)) holds

-- anything holds of an option without a value
pub for_none : {A : Type 0} (o : Option A) (P : A → Type 0) → o ≡ None → IfSome o P
for_none None P is = tt
for_none (Some x) P is = absurd (none-some x (sym is))

-- an option with a value is not empty
pub has_none : {A : Type 0} (o : Option A) (x : A) → o ≡ Some x → o ≡ None → ⊥
has_none o x some none = none-some x (sym none ∙ some)
