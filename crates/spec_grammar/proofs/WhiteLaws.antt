-- No item goes on with white space.
use Rattle.std.proofs.Common.{◌≡◌, ℕ, true, false, List, [], ◌∷◌, ◌++◌, Option, Some, None, refl, sym, subst, ◌∙◌, arith, append_assoc, ◌==◌, ◌||◌, option_and_then}
use Rattle.version_order.specs.Signs.{is_version_byte}
use Rattle.version_order.specs.Scan as list
use Rattle.version_order.specs.declared.scan.Sign.TheVariants as sign_list
use Rattle.version_order.specs.declared.scan.Place.{Place}
use Rattle.version_order.specs.declared.scan.Place.TheVariants as place
use Rattle.version_order.proofs.MachineLaws.{run-append}
use Rattle.version_order.proofs.AcceptLaws.{list_accepted}
use Rattle.spec_grammar.proofs.Common.{list_all, and_parts, nat_tests, is_start, Begins, run, IsList, spelling, is_white, AreWhite, is_name_byte, is_name_end, is_run_byte, GoesOn, IsOver, IsOverLast, none-some}
use Rattle.spec_grammar.proofs.Common.{VersionItem, SpecItem, Name, Versions, Variant, Compiler, Key, Caret}
use Rattle.spec_grammar.proofs.RunLaws.{true_false, two_cons, cons_none}

-- no LIST goes on with another sign
after_other : (p : Place) → list.after p sign_list.Other ≡ None
after_other place.Item = refl
after_other place.Exact = refl
after_other place.InExact = refl
after_other place.InLow = refl
after_other place.High = refl
after_other place.InHigh = refl

pub list_other : (p : Place) (b : ℕ) → list.sign_of b ≡ sign_list.Other → list.step p b ≡ None
unfolding list.step
list_other p b h = rw h (after_other p)

white-version : (b : ℕ) → is_white b ≡ true → is_version_byte b ≡ false
white-version b h = grind (arith, nat_tests)

white-start : (b : ℕ) → is_white b ≡ true → is_start b ≡ false
white-start b h = grind (arith, nat_tests)

white-marks : (b : ℕ) → is_white b ≡ true → ((b == 61) ≡ false) × ((b == 58) ≡ false) × ((b == 44) ≡ false)
white-marks b h = (grind (arith, nat_tests), grind (arith, nat_tests), grind (arith, nat_tests))

white-sign : (b : ℕ) → is_white b ≡ true → list.sign_of b ≡ sign_list.Other
white-sign b h = rw (white-version b h, white-start b h, (white-marks b h).0, (white-marks b h).1, (white-marks b h).2) refl

pub white_list : (p : Place) (b : ℕ) → is_white b ≡ true → list.step p b ≡ None
white_list p b h = list_other p b (white-sign b h)

-- a machine of a LIST that is stuck at a byte
pub list_stuck : (l : List ℕ) (b : ℕ) (more : List ℕ) → ((p : Place) → list.step p b ≡ None) → IsList (l ++ b ∷ more) → ⊥
list_stuck l b more stuck is =
    let a = list_accepted (l ++ b ∷ more) is in
    let none : run list.step place.Item (l ++ b ∷ more) ≡ None =
    run-append list.step place.Item l (b ∷ more)
    ∙ (elim (run list.step place.Item l) as (λ o. option_and_then (λ t. run list.step t (b ∷ more)) o ≡ None) [
      | None ↦ refl
      | Some p ↦ rw (stuck p) refl
    ]) in
    none-some a.0 (sym none ∙ a.1)

list_white : (items : List VersionItem) (b : ℕ) → is_white b ≡ true → Begins IsList (spelling items ++ b ∷ []) → ⊥
list_white items b h (rest, is) = list_stuck (spelling items) b rest (λ p. white_list p b h)
    (subst IsList (append_assoc (spelling items) (b ∷ []) rest) is)

white_name : (b : ℕ) → is_white b ≡ true → ((is_name_byte b || is_name_end b) ≡ false) × (is_name_byte b ≡ false)
    × ((is_name_byte b || b == 64) ≡ false) × (is_run_byte b ≡ false) × ((b == 91) ≡ false)
white_name b h =
    (grind (arith, nat_tests), grind (arith, nat_tests), grind (arith, nat_tests), grind (arith, nat_tests), grind (arith, nat_tests))

pub white_goes : (item : SpecItem) (b : ℕ) → is_white b ≡ true → GoesOn item b → ⊥
white_goes (Name w) b h on = true_false _ on (white_name b h).0
white_goes (Versions items) b h on = list_white items b h on
white_goes (Variant mark w) b h on = true_false _ on (white_name b h).1
white_goes (Compiler w None) b h on = true_false _ on (white_name b h).2
white_goes (Compiler w (Some items)) b h on = list_white items b h on
white_goes (Key w values) b h on = true_false _ on (white_name b h).3
white_goes Caret b h on = true_false _ on (white_name b h).4

same_byte : (item : SpecItem) (b c : ℕ) (trail more : List ℕ) → c ∷ trail ≡ b ∷ more → GoesOn item b → GoesOn item c
same_byte item b c trail more e on = subst (GoesOn item) (sym (two_cons _ _ _ _ e).0) on

over_white : (item : SpecItem) (trail : List ℕ) → AreWhite trail → IsOver item trail
over_white item [] h = λ b more e. cons_none b more (sym e)
over_white item (c ∷ trail) h = λ b more e on. white_goes item c (and_parts (is_white c) (list_all is_white trail) h).0
    (same_byte item b c trail more e on)

pub last_white : (last : Option SpecItem) (trail : List ℕ) → AreWhite trail → IsOverLast last trail
last_white None trail h = tt
last_white (Some item) trail h = over_white item trail h
