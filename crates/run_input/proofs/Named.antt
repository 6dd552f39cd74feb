-- Each spec that was read has a name.
use Rattle.std.proofs.Common.{◌≡◌, refl, true, ℕ, List}
use Rattle.std.specs.Prelude.{is_some, Contains}
use Rattle.std.proofs.lemmas.List.Elements.{All-weaker, All-contains_itself}
use Rattle.std.proofs.lemmas.List.Sums.{list_all-from_AllPass}
use Rattle.spec_grammar.specs.Reading.{Spells}
use Rattle.spec_grammar.specs.Canonical.{AreNamed}
use Rattle.spec_grammar.specs.declared.mode.Mode.{Mode}
use Rattle.spec_grammar.specs.declared.mode.Mode.TheVariants.{Specs}
use Rattle.spec_grammar.specs.declared.part.Spec.{Spec}
use Rattle.run_input.specs.Roots.{are_named}

-- by what reading specs gives
pub all_named : (text : List ℕ) (specs : List Spec)
    → ((mode : Mode) (text : List ℕ) (specs : List Spec) (spec : Spec) → Spells mode text specs → Contains specs spec → AreNamed mode spec)
    → Spells Specs text specs → are_named specs ≡ true
all_named text specs law spells =
    list_all-from_AllPass (λ (spec : Spec). is_some spec.top.name) specs
    (All-weaker (Contains specs) (λ spec. is_some spec.top.name ≡ true) (λ spec inside. (law Specs text specs spec spells inside).0 refl)
    specs (All-contains_itself specs))
