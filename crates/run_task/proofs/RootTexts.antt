-- The roots that were read.
use Rattle.std.proofs.Common.{◌≡◌, sym, Bool, true, false, ℕ, List, [], ◌∷◌, Ok}
use Rattle.std.specs.Prelude.{All, Contains, nat_le, length}
use Rattle.std.specs.Str.{IsUtf8, IsAscii}
use Rattle.std.proofs.lemmas.Str.{IsUtf8-from_ascii}
use Rattle.std.proofs.lemmas.List.Elements.{All-weaker, All-contains_itself}
use Rattle.spec_grammar.specs.Reading.{Spells}
use Rattle.spec_grammar.specs.Canonical.{spec_text}
use Rattle.spec_grammar.specs.declared.mode.Mode.{Mode}
use Rattle.spec_grammar.specs.declared.mode.Mode.TheVariants.{Specs}
use Rattle.spec_grammar.specs.declared.part.Spec.{Spec}
use Rattle.run_input.specs.Stages.{◌>>=◌, check}
use Rattle.run_input.specs.Refusal.{Refusal}
use Rattle.run_input.specs.Refusal.TheVariants as refusals
use Rattle.run_input.proofs.StageLaws.{ok_same, ok_not_err}
use Rattle.run_input.specs.Roots.{RootsOf, roots_of}

checked : (few : Bool) (many : Refusal) (specs roots : List Spec)
    → (check many few >>= λ f. Ok specs) ≡ Ok roots → specs ≡ roots
checked true many specs roots e = ok_same specs roots e
checked false many specs roots e = ok_not_err roots many (sym e)

same_roots : (specs roots : List Spec) → roots_of specs ≡ Ok roots → specs ≡ roots
unfolding roots_of
same_roots specs roots e = checked (nat_le (length specs) 64) refusals.TooManyRoots specs roots e

-- the text spells them
pub roots_spelled : (text : List ℕ) (roots : List Spec) → RootsOf text (Ok roots) → Spells Specs text roots
roots_spelled text roots (done, short, read) = rw (← same_roots read.0 roots (sym read.2)) read.1

-- their canonical texts are texts
pub texts_of : ((mode : Mode) (text : List ℕ) (specs : List Spec) (spec : Spec) → Spells mode text specs → Contains specs spec
    → Spells mode (spec_text spec) (spec ∷ []))
    → ((mode : Mode) (text : List ℕ) (specs : List Spec) → Spells mode text specs → IsAscii text)
    → (text : List ℕ) (roots : List Spec) → RootsOf text (Ok roots) → All (λ spec. IsUtf8 (spec_text spec)) roots
texts_of again ascii text roots read =
    All-weaker (Contains roots) (λ (spec : Spec). IsUtf8 (spec_text spec))
    (λ spec inside. IsUtf8-from_ascii (spec_text spec)
    (ascii Specs (spec_text spec) (spec ∷ []) (again Specs text roots spec (roots_spelled text roots read) inside)))
    roots (All-contains_itself roots)
