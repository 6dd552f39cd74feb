-- The answers of the grammar, and what its readers answer.
use Rattle.std.proofs.Common.{◌≡◌, ◌≢◌, ℕ, List, [], ◌∷◌, refl, sym, ap, inl, inr}
use Rattle.std.specs.Prelude.{Result, Ok, Err}
use Rattle.spec_grammar.specs.Reading.{Spells}
use Rattle.spec_grammar.specs.Faults.{IsFault}
use Rattle.spec_grammar.proofs.TotalText.{reading_total}
use Rattle.spec_grammar.proofs.RightLaws.{one_reading, one_fault, only_memory}
use Rattle.spec_grammar.specs.declared.mode.Mode.{Mode}
use Rattle.spec_grammar.specs.declared.part.Part.{Part}
use Rattle.spec_grammar.specs.declared.part.Spec.{Spec}
use Rattle.spec_grammar.specs.declared.fault.SpecFault.{SpecFault}
use Rattle.spec_grammar.specs.declared.fault.SpecFault.TheVariants as spec
use Rattle.directive_arguments.specs.Results.{Fails, text_fault}
use Rattle.directive_arguments.specs.Texts.{IsAnswer, IsSaid, said, answer, spec_of, part_of}

abbrev Answer : Type 0
Answer = Result (List Spec) SpecFault

-- ---- the answer is one

err_said : (mode : Mode) (text : List ℕ) (e : SpecFault) → IsFault mode text e → (e ≢ spec.OutOfMemory) → IsAnswer mode text (Err e)
err_said mode text spec.OutOfMemory h ne = absurd (ne refl)
err_said mode text e h ne = h

is_said : (mode : Mode) (text : List ℕ) (t : IsSaid mode text) → IsAnswer mode text (said mode text t)
is_said mode text (inl w) = w.1
is_said mode text (inr w) = err_said mode text w.0 w.1 w.2

-- what the definition computes is an answer to the text
pub answer_is : (mode : Mode) (text : List ℕ) → IsAnswer mode text (answer mode text)
unfolding answer
answer_is mode text = is_said mode text (reading_total mode text)

-- ---- and the only one

found_by : (mode : Mode) (text : List ℕ) (specs : List Spec) → Spells mode text specs → (a : Answer) → IsAnswer mode text a → a ≡ Ok specs
found_by mode text specs s (Ok others) h = ap (λ (l : List Spec). let r : Answer = Ok l in r) (one_reading mode text others specs h s)
found_by mode text specs s (Err spec.OutOfMemory) h = absurd h
found_by mode text specs s (Err e) h = let same : e ≡ spec.OutOfMemory = only_memory mode text specs e s h in cc

-- specs that a text spells are its answer
pub found : (mode : Mode) (text : List ℕ) (specs : List Spec) → Spells mode text specs → answer mode text ≡ Ok specs
found mode text specs s = found_by mode text specs s (answer mode text) (answer_is mode text)

fault_by : (mode : Mode) (text : List ℕ) (e : SpecFault) → IsFault mode text e → (e ≢ spec.OutOfMemory) → (a : Answer)
    → IsAnswer mode text a → a ≡ Err e
fault_by mode text e f ne (Ok specs) h = absurd (ne (only_memory mode text specs e h f))
fault_by mode text e f ne (Err spec.OutOfMemory) h = absurd h
fault_by mode text e f ne (Err d) h = ap (λ (x : SpecFault). let r : Answer = Err x in r) (one_fault mode text d e h f (λ same. cc) ne)

-- the fault of a text is its answer
pub fault_found : (mode : Mode) (text : List ℕ) (e : SpecFault) → IsFault mode text e → (e ≢ spec.OutOfMemory) → answer mode text ≡ Err e
fault_found mode text e f ne = fault_by mode text e f ne (answer mode text) (answer_is mode text)

only_by : (mode : Mode) (text : List ℕ) (a : Answer) → IsAnswer mode text a → answer mode text ≡ a
only_by mode text (Ok specs) h = found mode text specs h
only_by mode text (Err spec.OutOfMemory) h = absurd h
only_by mode text (Err e) h = fault_found mode text e h (λ same. cc)

-- a text has one answer
pub only_answer : (mode : Mode) (text : List ℕ) (a : Answer) → IsAnswer mode text a → a ≡ answer mode text
only_answer mode text a h = sym (only_by mode text a h)

-- ---- what readers answer

-- a spec that a text spells is the one that is read
pub spec_found : (mode : Mode) (place : ℕ) (text : List ℕ) (s : Spec) → Spells mode text (s ∷ []) → spec_of mode place text ≡ Ok s
spec_found mode place text s h = rw (found mode text (s ∷ []) h) refl

-- the fault of a text is that of reading a spec
pub spec_fault : (mode : Mode) (place : ℕ) (text : List ℕ) (e : SpecFault) → IsFault mode text e
    → Fails (text_fault place e) (spec_of mode place text)
spec_fault mode place text spec.OutOfMemory h = tt
spec_fault mode place text e h = rw (fault_found mode text e h (λ same. cc)) refl

abbrev pub alone : Part → Spec
alone p = record { top = p; below = [] }

-- a part that a text spells is the one that is read
pub part_found : (mode : Mode) (place : ℕ) (text : List ℕ) (p : Part) → Spells mode text (alone p ∷ []) → part_of mode place text ≡ Ok p
part_found mode place text p h = rw (found mode text (alone p ∷ []) h) refl

-- the fault of a text is that of reading a part
pub part_fault : (mode : Mode) (place : ℕ) (text : List ℕ) (e : SpecFault) → IsFault mode text e
    → Fails (text_fault place e) (part_of mode place text)
part_fault mode place text spec.OutOfMemory h = tt
part_fault mode place text e h = rw (fault_found mode text e h (λ same. cc)) refl
