-- No command is one word.
use Rattle.std.specs.Prelude.{◌≡◌, ℕ, ◌<◌, List, [], ◌∷◌, Bool, true, false, Option, Some, None, option_and_then, if◌then◌else◌, codes, length, String}
use Rattle.std.specs.String.{string_bytes}
use Rattle.std.specs.declared.alloc.Global.{Global}
use Rattle.std.proofs.Common.{refl, arith}
use Rattle.run_output.specs.Words.{command_by, command_of, is_same_path, trial_of, verb_of, words_of}

none_behind : {A B : Type 0} (f : A → Option B) (o : Option A) → ((x : A) → f x ≡ None) → option_and_then f o ≡ None
none_behind f None none = refl
none_behind f (Some x) none = none x

none_of_two : {A : Type 0} (b : Bool) (o : Option A) → o ≡ None → (if b then None else o) ≡ None
none_of_two true o none = refl
none_of_two false o none = none

one_word : (word : List ℕ) → command_of (word ∷ []) ≡ None
unfolding command_by trial_of
one_word word =
    none_of_two (is_same_path word (codes "trial")) (option_and_then (λ verb. command_by verb []) (verb_of word))
    (none_behind (λ verb. command_by verb []) (verb_of word) (λ verb. refl))

-- fewer than two words are no command
pub alone : (words : List (String Global)) → length words < 2 → command_of (words_of words) ≡ None
alone [] most = refl
alone (word ∷ []) most = one_word (string_bytes word)
alone (word ∷ other ∷ more) most = absurd (omega (arith, most))
