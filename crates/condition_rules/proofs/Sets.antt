-- Tests of sets of texts, as what sets of values say.
use Rattle.std.proofs.Common.{◌≡◌, refl, sym, Bool, true, false, ◌↔◌, List, Contains}
use Rattle.std.specs.List.{All}
use Rattle.std.specs.Cmp.Lexicographic.{nat_list_eq_equiv, bytes_decides}
use Rattle.std.proofs.lemmas.List.Sums.{AllPass-from_list_all, list_all-from_AllPass}
use Rattle.std.proofs.lemmas.Map.Views.{list_any-from_Contains, Contains-from_any}
use Rattle.virtuals.specs.OfGraphCore.Graphs.{Text}
use Rattle.condition_rules.specs.Words.{is_one_text, includes}

-- two tests that hold of the same are one
pub same_test : (a b : Bool) → (a ≡ true → b ≡ true) → (b ≡ true → a ≡ true) → a ≡ b
same_test true b to from = sym (to refl)
same_test false true to from = from refl
same_test false false to from = refl

-- a test that tells whether all wanted values are there is `includes`
pub includes-test : (values wanted : List Text) (b : Bool) → (b ≡ true) ↔ All (Contains values) wanted → b ≡ includes values wanted
includes-test values wanted b means = same_test b (includes values wanted)
    (λ h. list_all-from_AllPass (is_one_text values) wanted
    (λ k d lt. list_any-from_Contains nat_list_eq_equiv _ values (means.0 h k d lt)))
    (λ h. means.1 (λ k d lt. Contains-from_any (λ a b. (bytes_decides a b).0) _ values
    (AllPass-from_list_all (is_one_text values) wanted h k d lt)))
