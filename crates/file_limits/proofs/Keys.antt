-- What stands at different keys of an object weighs together no more than its members.
use Rattle.std.proofs.Common.{◌≡◌, ℕ, ◌+◌, ◌≤◌, true, false, not, List, [], ◌∷◌, Option, Some, Ordering, Less, Equal, Greater, nat_cmp, is_eq, bytes_eq, refl, sym, ap, subst, ◌∙◌, sum_by, arith}
use Rattle.std.specs.List.{list_any}
use Rattle.std.specs.Ordering.{match_ordering}
use Rattle.std.specs.Cmp.Lexicographic.{slice_cmp}
use Rattle.std.proofs.lemmas.Bool.{and_parts, or_parts, not-true}
use Rattle.std.proofs.lemmas.List.Sums.{sum_by-cons}
use Rattle.std.proofs.lemmas.Map.Text.{is_eq-slice_cmp}
use Rattle.std.proofs.lemmas.Slice.Eq.{bytes_eq-Decides}
use Rattle.serde_json.specs.Data.{Data, Members, no_members, member}
use Rattle.serde_json.specs.Find.{get_member}
use Rattle.file_limits.specs.Weights.{weight, members_weight, weight_or_none, weight_at}
use Rattle.file_limits.specs.WeightBounds.{are_different, KeysShareWeight}

-- ---- one key

-- what a member adds at a key
abbrev hit : Ordering → ℕ → ℕ
hit o n = match_ordering o 0 n 0

here_or_later : (o : Ordering) (found : Option Data) (d : Data)
    → weight_or_none (match_ordering o found (Some d) found) ≤ hit o (weight d) + weight_or_none found
here_or_later Less found d = omega arith
here_or_later Equal found d = omega arith
here_or_later Greater found d = omega arith

-- what stands at a key of an object weighs no more than its members
pub key-weight : (ms : Members) (key : List ℕ) → weight_at ms key ≤ members_weight ms
key-weight no_members key = omega arith
key-weight (member l d ms) key = key-weight-cases (slice_cmp nat_cmp key l) (key-weight ms key)
  where
    key-weight-cases : (o : Ordering) → weight_at ms key ≤ members_weight ms
        → weight_or_none (match_ordering o (get_member key ms) (Some d) (get_member key ms)) ≤ members_weight (member l d ms)
    key-weight-cases Less rest = omega arith
    key-weight-cases Equal rest = omega arith
    key-weight-cases Greater rest = omega arith

-- a value that stands at a key of an object weighs no more than its members
pub found-weight : (ms : Members) (key : List ℕ) (d : Data) → get_member key ms ≡ Some d → weight d ≤ members_weight ms
found-weight ms key d e = subst (λ o. weight_or_none o ≤ members_weight ms) e (key-weight ms key)

-- ---- different keys

other-none : (o : Ordering) (n : ℕ) → is_eq o ≡ false → hit o n ≡ 0
other-none Less n e = refl
other-none Equal n e = absurd (cc)
other-none Greater n e = refl

none-hit : (l : List ℕ) (n : ℕ) (keys : List (List ℕ)) → list_any (λ key. bytes_eq key l) keys ≡ false
    → sum_by (λ key. hit (slice_cmp nat_cmp key l) n) keys ≡ 0
none-hit l n [] none = refl
none-hit l n (key ∷ keys) none =
    let parts = or_parts (bytes_eq key l) (list_any (λ other. bytes_eq other l) keys) none in
    let here : hit (slice_cmp nat_cmp key l) n ≡ 0 = other-none _ n (is_eq-slice_cmp key l ∙ parts.0) in
    omega (arith, here, sum_by-cons (λ other. hit (slice_cmp nat_cmp other l) n) key keys, none-hit l n keys parts.1)

-- a member adds at one key alone
one-hit : (l : List ℕ) (n : ℕ) (keys : List (List ℕ)) → are_different keys ≡ true → sum_by (λ key. hit (slice_cmp nat_cmp key l) n) keys ≤ n
one-hit l n [] h = omega arith
one-hit l n (key ∷ keys) h = one-hit-cases (slice_cmp nat_cmp key l) refl (one-hit l n keys parts.1)
  where
    parts : (not (list_any (λ other. bytes_eq other key) keys) ≡ true) × (are_different keys ≡ true)
    parts = and_parts _ _ h

    one-hit-cases : (o : Ordering) → slice_cmp nat_cmp key l ≡ o → sum_by (λ k. hit (slice_cmp nat_cmp k l) n) keys ≤ n
        → sum_by (λ k. hit (slice_cmp nat_cmp k l) n) (key ∷ keys) ≤ n
    one-hit-cases Less e rest = omega (arith, ap (λ o. hit o n) e, sum_by-cons (λ k. hit (slice_cmp nat_cmp k l) n) key keys)
    one-hit-cases Equal e rest =
        let same : key ≡ l = (bytes_eq-Decides key l).0 (sym (is_eq-slice_cmp key l) ∙ ap is_eq e) in
        let none = none-hit l n keys (subst (λ k. list_any (λ other. bytes_eq other k) keys ≡ false) same (not-true _ parts.0)) in
        omega (arith, ap (λ o. hit o n) e, sum_by-cons (λ k. hit (slice_cmp nat_cmp k l) n) key keys, none)
    one-hit-cases Greater e rest = omega (arith, ap (λ o. hit o n) e, sum_by-cons (λ k. hit (slice_cmp nat_cmp k l) n) key keys)

one-member : (keys : List (List ℕ)) (l : List ℕ) (d : Data) (ms : Members) → sum_by (weight_at (member l d ms)) keys
    ≤ sum_by (λ key. hit (slice_cmp nat_cmp key l) (weight d)) keys + sum_by (weight_at ms) keys
one-member [] l d ms = omega arith
one-member (key ∷ keys) l d ms =
    omega (
      arith,
      here_or_later (slice_cmp nat_cmp key l) (get_member key ms) d,
      one-member keys l d ms,
      sum_by-cons (weight_at (member l d ms)) key keys,
      sum_by-cons (λ k. hit (slice_cmp nat_cmp k l) (weight d)) key keys,
      sum_by-cons (weight_at ms) key keys,
    )

none-there : (keys : List (List ℕ)) → sum_by (weight_at no_members) keys ≡ 0
none-there [] = refl
none-there (key ∷ keys) = omega (arith, none-there keys, sum_by-cons (weight_at no_members) key keys)

-- what stands at different keys of an object weighs together no more than its members
pub keys-share : KeysShareWeight
keys-share keys no_members h = omega (arith, none-there keys)
keys-share keys (member l d ms) h = omega (arith, one-member keys l d ms, one-hit l (weight d) keys h, keys-share keys ms h)
