-- What an item gives to a part.
use Rattle.std.proofs.Common.{◌≡◌, refl, ap, ◌∙◌, ℕ, ◌+◌, ◌≤◌, Bool, true, false, List, [], ◌∷◌, length, Some, None, option_and_then, if◌then◌else◌, arith}
use Rattle.std.proofs.lemmas.List.Sums.{sum_by-cons}
use Rattle.std.specs.List.{sum_by}
use Rattle.std.specs.Ordering.{match_ordering}
use Rattle.std.specs.declared.cmp.Ordering.TheVariants.{Less, Equal, Greater}
use Rattle.spec_grammar.specs.declared.key.KeyKind.TheVariants as key
use Rattle.spec_grammar.proofs.Common.{same_Some, none-some, before_first, after_first, byte_cmp, with_text, key_of, add, set_key, set_variant, set_platform, set_os, set_targets, set_arch, has_variant, PartVariants, set_at, with_variant, put_all, mark_value, truth, is_dash}
use Rattle.spec_grammar.specs.declared.key.KeyKind.{KeyKind}
use Rattle.spec_grammar.specs.declared.item.SpecItem.{SpecItem}
use Rattle.spec_grammar.specs.declared.part.Part.{Part}
use Rattle.spec_grammar.specs.declared.item.SpecItem.TheVariants.{Name, Versions, Variant, Compiler, Key, Caret}
use Rattle.spec_grammar.specs.Meaning.{first_value}
use Rattle.spec_grammar.proofs.StepLaws.{some_then}
use Rattle.file_limits.specs.SpecSizes.{part_values}
use Rattle.file_limits.proofs.Items.{item_values}

-- ---- sets of values

-- a set has one text more at most
pub length-with_text : (texts : List (List ℕ)) (w : List ℕ) → length (with_text texts w) ≤ length texts + 1
length-with_text [] w = omega arith
length-with_text (u ∷ texts) w =
    let rest = length-with_text texts w in
    elim (byte_cmp w u) as (λ r. length (match_ordering r (w ∷ u ∷ texts) (u ∷ texts) (u ∷ with_text texts w)) ≤ length (u ∷ texts) + 1)
    [ Less ↦ omega arith | Equal ↦ omega arith | Greater ↦ omega (arith, rest) ]

put_few : (texts values : List (List ℕ)) → length (put_all texts values) ≤ length texts + length values
unfolding put_all
put_few texts [] = omega arith
put_few texts (w ∷ values) = omega (arith, length-with_text texts (truth w), put_few (with_text texts (truth w)) values)

-- ---- a variant more

abbrev count : PartVariants → ℕ
count variants = sum_by (λ v. length v.1) variants

count_first : (v : List ℕ × List (List ℕ)) (variants : PartVariants) → count (v ∷ variants) ≡ length v.1 + count variants
count_first v variants = sum_by-cons (λ (u : List ℕ × List (List ℕ)). length u.1) v variants

count_with : (new : List ℕ × List (List ℕ)) (variants : PartVariants) → count (with_variant new variants) ≡ length new.1 + count variants
unfolding with_variant
count_with new [] = count_first new []
count_with new (v ∷ variants) =
    let rest = count_with new variants in
    elim (byte_cmp new.0 v.0) as (λ r. count (set_at r new v variants (with_variant new variants)) ≡ length new.1 + count (v ∷ variants)) [
      | Less ↦ count_first new (v ∷ variants)
      | Equal ↦ count_first new (v ∷ variants)
      | Greater ↦ omega (arith, rest, count_first v variants, count_first v (with_variant new variants))
    ]

-- ---- constraints

unless : {A : Type 0} (b : Bool) (x next : A) → (if b then None else Some x) ≡ Some next → x ≡ next
unless true x next e = absurd (none-some next e)
unless false x next e = same_Some x next e

-- what is set beside the variants leaves them
same_unless : (b : Bool) (part x next : Part) → (if b then None else Some x) ≡ Some next → part.variants ≡ x.variants
    → part.variants ≡ next.variants
same_unless b part x next e same = same ∙ ap (λ (p : Part). p.variants) (unless b x next e)

platform_same : (w : List ℕ) (part next : Part) → set_platform w part ≡ Some next → part.variants ≡ next.variants
platform_same w part next e = same_unless _ part _ next e refl

os_same : (w : List ℕ) (part next : Part) → set_os w part ≡ Some next → part.variants ≡ next.variants
os_same w part next e = same_unless _ part _ next e refl

targets_same : (values : List (List ℕ)) (part next : Part) → set_targets values part ≡ Some next → part.variants ≡ next.variants
targets_same values part next e = same_unless _ part _ next e refl

arch_same : (value : List ℕ) (part next : Part) → set_arch value part ≡ Some next → part.variants ≡ next.variants
arch_same value part next e =
    let rest : List ℕ = after_first is_dash value in
    let first = some_then (λ p. option_and_then (λ q. set_targets (after_first is_dash rest ∷ []) q) (set_os (before_first is_dash rest) p))
    (set_platform (before_first is_dash value) part) next e in
    let second = some_then (λ q. set_targets (after_first is_dash rest ∷ []) q) (set_os (before_first is_dash rest) first.0) next first.2 in
    platform_same (before_first is_dash value) part first.0 first.1 ∙ os_same (before_first is_dash rest) first.0 second.0 second.1
    ∙ targets_same (after_first is_dash rest ∷ []) second.0 next second.2

-- no more values than before, and these
abbrev AtMost : ℕ → Part → Part → Type 0
AtMost n part next = part_values next ≤ part_values part + n

kept : (n : ℕ) (part next : Part) → part.variants ≡ next.variants → AtMost n part next
kept n part next same = omega (arith, ap count same)

set_few : (w : List ℕ) (values : List (List ℕ)) (n : ℕ) (part next : Part) → length values ≤ n → set_variant w values part ≡ Some next
    → AtMost n part next
set_few w values n part next few e =
    let is = unless (has_variant w part.variants) (record part { variants = with_variant (w, values) part.variants }) next e in
    omega (arith, few, count_with (w, values) part.variants, ap part_values is)

key_few : (k : KeyKind) (w : List ℕ) (values : List (List ℕ)) (part next : Part) → set_key k w values part ≡ Some next
    → AtMost (length values) part next
key_few key.Platform w values part next e = kept _ part next (platform_same (first_value values) part next e)
key_few key.Os w values part next e = kept _ part next (os_same (first_value values) part next e)
key_few key.Arch w values part next e = kept _ part next (arch_same (first_value values) part next e)
key_few key.Target w values part next e = kept _ part next (targets_same values part next e)
key_few key.Flags w values part next e = absurd (none-some next e)
key_few key.Variant w values part next e = set_few w (put_all [] values) (length values) part next (omega (arith, put_few [] values)) e

-- an item adds no more values to a part than it has
pub add_few : (item : SpecItem) (part next : Part) → add item part ≡ Some next → AtMost (item_values item) part next
add_few (Name w) part next e = absurd (none-some next e)
add_few (Versions items) part next e = kept _ part next (same_unless _ part _ next e refl)
add_few (Variant mark w) part next e = set_few w (mark_value mark ∷ []) 1 part next (omega arith) e
add_few (Compiler w items) part next e = kept _ part next (same_unless _ part _ next e refl)
add_few (Key w values) part next e = key_few (key_of w) w values part next e
add_few Caret part next e = absurd (none-some next e)
