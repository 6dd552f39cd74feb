-- The sums of lists of weighted literals, one after the other, as bits.
use Rattle.std.specs.Prelude.{◌≡◌, ℕ, Bool, true, Some, List, [], ◌∷◌, ◌++◌, map, nat_le, if◌then◌else◌}
use Rattle.clause_store.specs.declared.Lit.{Lit}
use Rattle.clause_store.specs.Lits.{lit_true, AllBelow}
use Rattle.clause_store.specs.Clauses.{Clauses}
use Rattle.clause_circuits.specs.Growth.{Defines, MeetsSince}
use Rattle.clause_circuits.specs.Gates.{Planned, Made}
use Rattle.clause_circuits.specs.Trees.{total, weight, TermsBelow}
use Rattle.criteria_totals.specs.Digits.{digit_bits_on}
use Rattle.criteria_totals.specs.Unary.{unary_bits_on}
use Rattle.criteria_totals.specs.Spellings.{compare_bits, compare_numbers, spell_all, within, bits_for}

-- one sum: in unary up to 64, in binary above
unfoldable pub number_on : Planned → List (ℕ × Lit) → Made (List Lit)
number_on p ts = if nat_le (total ts) 64 then unary_bits_on p ts else digit_bits_on p ts

abbrev pub totals_on : Planned → List (List (ℕ × Lit)) → Made (List Lit)
totals_on p [] = record { plan = p; answer = [] }
totals_on p (ts ∷ lists) =
    let one = number_on p ts in
    let rest = totals_on one.plan lists in
    record { plan = rest.plan; answer = one.answer ++ rest.answer }

-- the greatest value of each sum, and its value under an assignment
abbrev pub tops : List (List (ℕ × Lit)) → List ℕ
tops lists = map total lists

abbrev pub sums : (ℕ → Bool) → List (List (ℕ × Lit)) → List ℕ
sums v lists = map (weight v) lists

abbrev pub AllTermsBelow : ℕ → List (List (ℕ × Lit)) → Type 0
AllTermsBelow n [] = Unit {0}
AllTermsBelow n (ts ∷ lists) = TermsBelow n ts × AllTermsBelow n lists

abbrev pub values_at : (ℕ → Bool) → List Lit → List Bool
values_at v bits = map (lit_true v) bits

-- the longer list defines bits that spell the sums, and compare as they do
pub record IsTotals (old new : Clauses) (bits : List Lit) (lists : List (List (ℕ × Lit))) : Type 0 where
  pub defines : Defines old new
  pub below : AllBelow new.vars bits
  pub within_tops : (v : ℕ → Bool) → within (tops lists) (sums v lists) ≡ true
  pub spell_sums : (asked v : ℕ → Bool) → MeetsSince asked v old new → values_at v bits ≡ spell_all (tops lists) (sums v lists)
  pub found : (asked v : ℕ → Bool) → MeetsSince asked v old new → bits_for (tops lists) (sums v lists) ≡ Some (values_at v bits)
  pub order : (asked v w : ℕ → Bool) → MeetsSince asked v old new → MeetsSince asked w old new
      → compare_bits (values_at v bits) (values_at w bits) ≡ compare_numbers (sums v lists) (sums w lists)
  pub equal : (asked v w : ℕ → Bool) → MeetsSince asked v old new → MeetsSince asked w old new → values_at v bits ≡ values_at w bits
      → sums v lists ≡ sums w lists

-- bits and the greatest values of their sums
pub record Spelling : Type 0 where
  pub lits : List Lit
  pub tops : List ℕ
