-- What a list keeps gives its clauses back, and one more fits behind the others.
use Rattle.std.proofs.Common.{◌≡◌, ℕ, zero, suc, ◌+◌, ◌-◌, ◌*◌, ◌/◌, ◌%◌, ◌<◌, ◌≤◌, Bool, true, false, List, [], ◌∷◌, ◌++◌, length, drop, Some, refl, sym, ap, ◌∙◌, subst, arith, append_assoc, map, zero-add, eqb, if◌then◌else◌}
use Rattle.std.specs.Prelude.{slice_get, slice_index_or, slice_range}
use Rattle.std.specs.Option.{option_map}
use Rattle.std.proofs.lemmas.List.{drop-append-le, take-append-le, length-drop, length-append, append-nil, at_drop_more}
use Rattle.std.proofs.Math.ListN.{drop_of_length-le}
use Rattle.std.proofs.lemmas.Bool.Decides.{nat_tests}
use Rattle.std.proofs.Math.Seq.{drop-append_seam, take-length}
use Rattle.std.proofs.lemmas.Option.{same_Some, none-some}
use Rattle.clause_store.specs.declared.Lit.{Lit}
use Rattle.clause_store.specs.declared.Label.{Label}
use Rattle.clause_store.specs.declared.list.Entry.{Entry}
use Rattle.clause_store.specs.declared.demands.Demanded.{Demanded}
use Rattle.clause_store.specs.Lits.{AllBelow, IsClause, var_of}
use Rattle.clause_store.specs.Clauses.{Clauses, at_id, clauses_of}
use Rattle.clause_store.specs.Kept.{lit_of_code, lits_of_codes, codes_of, entries_from, entries_of, with_label, label_at, start_of, part_of, IsCut, AllInOrder, IsKept}
use Rattle.clause_store.proofs.Range.{AllInRange-append}
use Rattle.clause_store.proofs.Entries.{at_id-clause}
use Rattle.clause_store.proofs.Labels.{label-old, label-new, before-more, rising-more}

pub AllBelow-at : (n : ℕ) (ls : List Lit) (k : ℕ) (d : Lit) → AllBelow n ls → k < length ls → var_of (slice_index_or ls k d) < n
AllBelow-at n [] k d a h = absurd (omega (arith, h))
AllBelow-at n (l ∷ ls) zero d a h = a.0
AllBelow-at n (l ∷ ls) (suc k) d a h = AllBelow-at n ls k d a.1 (omega (arith, h))

lit-code : (x : ℕ) (b : Bool) → lit_of_code (x * 2 + (if b then 1 else 0)) ≡ record { var = record { 0 = x }; positive = b }
lit-code x true = rw (half, odd) refl
  where
    half : (x * 2 + 1) / 2 ≡ x
    half = omega arith

    odd : eqb ((x * 2 + 1) % 2) 1 ≡ true
    odd = grind (arith, nat_tests)
lit-code x false = rw (half, even) refl
  where
    half : (x * 2 + 0) / 2 ≡ x
    half = omega arith

    even : eqb ((x * 2 + 0) % 2) 1 ≡ false
    even = grind (arith, nat_tests)

-- codes give their literals back
pub lits-codes : (ls : List Lit) → lits_of_codes (codes_of ls) ≡ ls
lits-codes [] = refl
lits-codes (l ∷ ls) = rw (lit-code (var_of l) l.positive, lits-codes ls) refl

-- one more of those that are to come
pub map-step : {X Y : Type 0} (f : X → Y) (ks js : List Y) (xs : List X) (i : ℕ) (d : X) (y : Y) → i < length xs → js ≡ ks ++ y ∷ []
    → y ≡ f (slice_index_or xs i d) → js ++ map f (drop (i + 1) xs) ≡ ks ++ map f (drop i xs)
map-step f ks js xs i d y h e g = rw (e, g, append_assoc) (sym (ap (λ zs. ks ++ zs) (at_drop_more (map f) xs i d h)))

-- the numbers of all literals that were gone over
pub map-done : {X Y : Type 0} (f : X → Y) (ks js : List Y) (xs : List X) (i : ℕ) → length xs ≤ i → ks ++ map f (drop i xs) ≡ js → ks ≡ js
map-done f ks js xs i h e = sym (append-nil ks) ∙ rw (drop_of_length-le xs h) at e

pub cut-le : (from all : ℕ) (ends : List ℕ) → IsCut from ends all → from ≤ all
cut-le from all [] c = omega (arith, c)
cut-le from all (to ∷ ends) c = let h = cut-le to all ends c.1 in omega (arith, c.0, h)

-- one more end, not before the last
pub cut-more : (from all more : ℕ) (ends : List ℕ) → all ≤ more → IsCut from ends all → IsCut from (ends ++ more ∷ []) more
cut-more from all more [] h c = (omega (arith, c, h), refl)
cut-more from all more (to ∷ ends) h c = (c.0, cut-more to all more ends h c.1)

range-last : (codes more : List ℕ) (from : ℕ) → from ≡ length codes → slice_range (codes ++ more) from (length codes + length more) ≡ more
range-last codes more from e =
    let n : length codes + length more - from ≡ length more = omega arith in
    rw (n, e, drop-append_seam codes more) (take-length more)

range-before : (codes more : List ℕ) (from to : ℕ) → from ≤ to → to ≤ length codes
    → slice_range (codes ++ more) from to ≡ slice_range codes from to
range-before codes more from to h k =
    let n : to - from ≤ length (drop from codes) = omega (arith, length-drop from codes) in
    rw (drop-append-le from codes more (omega arith)) (take-append-le (to - from) (drop from codes) more n)

-- one clause more behind the others
pub entries-more : (ds es : List Demanded) (codes more : List ℕ) (place from : ℕ) (ends : List ℕ) → IsCut from ends (length codes)
    → ((k : ℕ) → k < place + length ends → label_at es k ≡ label_at ds k)
    → entries_from es (codes ++ more) place from (ends ++ (length codes + length more) ∷ []) ≡ entries_from ds codes place from ends
    ++ record { clause = lits_of_codes more; label = label_at es (place + length ends) } ∷ []
entries-more ds es codes more place from [] c h =
    let n : place + 0 ≡ place = omega arith in
    rw (n, range-last codes more from c) refl
entries-more ds es codes more place from (to ∷ ends) c h =
    let n : place + suc (length ends) ≡ suc place + length ends = omega arith in
    let k = cut-le to (length codes) ends c.1 in
    rw (
      range-before codes more from to c.0 k,
      h place (omega arith),
      n,
      entries-more ds es codes more (suc place) to ends c.1
          (λ k lt. h k (omega (arith, lt))),
    ) refl

pub length-entries : (ds : List Demanded) (codes : List ℕ) (place from : ℕ) (ends : List ℕ)
    → length (entries_from ds codes place from ends) ≡ length ends
length-entries ds codes place from [] = refl
length-entries ds codes place from (to ∷ ends) = ap (λ n. suc n) (length-entries ds codes (suc place) to ends)

-- the clause at a place lies from its start to its end
pub entry-at : (ds : List Demanded) (codes : List ℕ) (place from : ℕ) (ends : List ℕ) (j : ℕ) → j < length ends
    → slice_get (entries_from ds codes place from ends) j
    ≡ Some (record {
      clause = lits_of_codes (slice_range codes (start_of from ends j) (slice_index_or ends j 0));
      label =
          label_at ds (place + j);
    })
entry-at ds codes place from [] j h = absurd (omega (arith, h))
entry-at ds codes place from (to ∷ ends) zero h = let n : place + 0 ≡ place = omega arith in rw n refl
entry-at ds codes place from (to ∷ ends) (suc zero) h = let n : place + 1 ≡ suc place + 0 = omega arith in
    rw n (entry-at ds codes (suc place) to ends zero (omega (arith, h)))
entry-at ds codes place from (to ∷ ends) (suc (suc j)) h =
    let n : place + suc (suc j) ≡ suc place + suc j = omega arith in rw n (entry-at ds codes (suc place) to ends (suc j) (omega (arith, h)))

pub end-le : (from all : ℕ) (ends : List ℕ) (j : ℕ) → IsCut from ends all → j < length ends → slice_index_or ends j 0 ≤ all
end-le from all [] j c h = absurd (omega (arith, h))
end-le from all (to ∷ ends) zero c h = cut-le to all ends c.1
end-le from all (to ∷ ends) (suc j) c h = end-le to all ends j c.1 (omega (arith, h))

pub start-le : (from all : ℕ) (ends : List ℕ) (j : ℕ) → IsCut from ends all → j < length ends
    → start_of from ends j ≤ slice_index_or ends j 0
start-le from all [] j c h = absurd (omega (arith, h))
start-le from all (to ∷ ends) zero c h = c.0
start-le from all (to ∷ ends) (suc zero) c h = start-le to all ends zero c.1 (omega (arith, h))
start-le from all (to ∷ ends) (suc (suc j)) c h = start-le to all ends (suc j) c.1 (omega (arith, h))

-- each clause of a list is in order
pub order-at : (es : List Entry) (k : ℕ) (e : Entry) → AllInOrder es → slice_get es k ≡ Some e → IsClause e.clause
order-at [] k e o q = absurd (none-some e q)
order-at (x ∷ es) zero e o q = subst (λ (y : Entry). IsClause y.clause) (same_Some x e q) o.0
order-at (x ∷ es) (suc k) e o q = order-at es k e o.1 q

pub AllInOrder-append : (es fs : List Entry) → AllInOrder es → AllInOrder fs → AllInOrder (es ++ fs)
AllInOrder-append [] fs a b = b
AllInOrder-append (e ∷ es) fs a b = (a.0, AllInOrder-append es fs a.1 b)

-- one clause more, by what each part became
module _ (vars : ℕ) (ds es : List Demanded) (codes fs ends gs : List ℕ) (lits : List Lit) (label : Label) (k n : ℕ)
    (kept : IsKept vars ds codes ends) where
  -- one more clause in the tables, as an entry
  pub entries-add : k ≡ length ends → es ≡ with_label ds k label → fs ≡ codes ++ codes_of lits → n ≡ length fs → gs ≡ ends ++ n ∷ []
      → entries_of es fs gs ≡ entries_of ds codes ends ++ record { clause = lits; label = label } ∷ []
  entries-add a b c d e =
      let old = λ (j : ℕ) (lt : j < 0 + length ends). label-old j (length ends) ds label (omega (arith, lt)) in
      let new = entries-more ds (with_label ds (length ends) label) codes (codes_of lits) 0 0 ends kept.cut old in
      let l : label_at (with_label ds (length ends) label) (0 + length ends) ≡ label =
      rw zero-add (label-new (length ends) ds label kept.before) in
      rw (e, d, c, b, a, length-append codes (codes_of lits)) (rw (lits-codes lits, l) at new)

  -- the tables stay right with it
  pub kept-add : AllBelow vars lits → IsClause lits → k ≡ length ends → es ≡ with_label ds k label → fs ≡ codes ++ codes_of lits
      → n ≡ length fs → gs ≡ ends ++ n ∷ [] → IsKept vars es fs gs
  kept-add below order a b c d e =
      let q = entries-add a b c d e in
      let m : length codes ≤ length fs = rw (c, length-append codes (codes_of lits)) (omega arith) in
      record {
        cut = rw (e, d) (cut-more 0 (length codes) (length fs) ends m kept.cut);
        rising = rw (b, a) (rising-more (length ends) ds label kept.before kept.rising);
        before = rw (b, a, e, length-append ends (n ∷ [])) (before-more (length ends) ds label kept.before);
        in_range = rw q (AllInRange-append vars _ _ kept.in_range (below, tt));
        in_order = rw q (AllInOrder-append _ _ kept.in_order (order, tt));
      }

-- what the id of a clause names
module _ (vars : ℕ) (ds : List Demanded) (codes ends : List ℕ) (kept : IsKept vars ds codes ends) (s : Clauses)
    (view : ◌≡◌ {A = Clauses} (record { entries = entries_of ds codes ends; vars = vars }) s) (id place : ℕ) (is : id ≡ place + 1)
    (within : place < length s.entries) where
  same : entries_of ds codes ends ≡ s.entries
  same = ap (λ (s : Clauses). s.entries) view

  -- an id has a place in the tables
  pub place-kept : place < length ends
  place-kept = rw (← same, length-entries ds codes 0 0 ends) at within

  entry-kept : at_id s.entries id ≡ Some (record { clause = lits_of_codes (part_of codes ends place); label = label_at ds place })
  entry-kept =
      let n : id ≡ suc place = omega arith in
      let z : 0 + place ≡ place = omega arith in
      rw (n, ← same) (rw z at (entry-at ds codes 0 0 ends place place-kept))

  -- the clause of an id, read from the tables
  pub clause-kept : at_id (clauses_of s.entries) id ≡ Some (lits_of_codes (part_of codes ends place))
  clause-kept = at_id-clause s.entries id _ entry-kept

  -- its label
  pub label-kept : option_map (λ (e : Entry). e.label) (at_id s.entries id) ≡ Some (label_at ds place)
  label-kept = ap (option_map (λ (e : Entry). e.label)) entry-kept

  -- it is in order
  pub order-kept : IsClause (lits_of_codes (part_of codes ends place))
  order-kept =
      let z : 0 + place ≡ place = omega arith in
      order-at (entries_of ds codes ends) place _ kept.in_order (entry-at ds codes 0 0 ends place place-kept)
