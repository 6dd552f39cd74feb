-- Unary and binary spellings keep the order.
use Rattle.std.proofs.Common.{◌≡◌, ℕ, zero, suc, ◌+◌, ◌-◌, ◌^◌, ◌<◌, ◌≤◌, Bool, true, false, ◌&&◌, List, [], ◌∷◌, ◌++◌, length, reverse, drop, get_or, append_assoc, leb, cond, ◌⊎◌, inl, inr, refl, sym, ap, ◌∙◌, arith, pow-suc, Some, None}
use Rattle.std.specs.declared.cmp.Ordering.{Ordering}
use Rattle.std.specs.declared.cmp.Ordering.TheVariants.{Less, Equal, Greater}
use Rattle.std.specs.Ordering.{nat_cmp, bool_cmp, ordering_then}
use Rattle.std.proofs.lemmas.Bool.{cases_Bool, cases_lt, cases_order, leb-true, le-leb, lt-leb, lt-ltb, le-ltb, eq-eqb, ne_eqb, and_parts}
use Rattle.std.proofs.lemmas.List.{reverse-append, at_drop_more, at_drop_all, append-nil}
use Rattle.criteria_totals.specs.Merges.{thresholds}
use Rattle.clause_circuits.specs.Binary.{size, number}
use Rattle.clause_circuits.proofs.BinaryLaws.{size-is, number_after-is, number-small}
use Rattle.criteria_totals.specs.Spellings.{compare_bits, compare_numbers, IsSpelling, unary, binary, spelling_of, spell_all, within, bits_for, AllSmall, IsBelow}

cmp-less : (m n : ℕ) → m < n → nat_cmp m n ≡ Less
cmp-less m n h = rw (lt-ltb m n h) refl

cmp-equal : (m n : ℕ) → m ≡ n → nat_cmp m n ≡ Equal
cmp-equal m n h = rw (le-ltb m n (omega arith), eq-eqb m n h) refl

cmp-greater : (m n : ℕ) → n < m → nat_cmp m n ≡ Greater
cmp-greater m n h = rw (le-ltb m n (omega arith), ne_eqb m n (omega arith)) refl

bits-equal : (xs : List Bool) → compare_bits xs xs ≡ Equal
bits-equal [] = refl
bits-equal (true ∷ xs) = bits-equal xs
bits-equal (false ∷ xs) = bits-equal xs

-- behind equal lengths, the fronts decide first
pub compare-append : (us ws cs ds : List Bool) → length us ≡ length ws
    → compare_bits (us ++ cs) (ws ++ ds) ≡ ordering_then (compare_bits us ws) (compare_bits cs ds)
compare-append [] [] cs ds h = refl
compare-append [] (b ∷ ws) cs ds h = absurd (omega arith)
compare-append (a ∷ us) [] cs ds h = absurd (omega arith)
compare-append (a ∷ us) (b ∷ ws) cs ds h =
    rw (compare-append us ws cs ds (omega arith)) (turn (bool_cmp a b) (compare_bits us ws) (compare_bits cs ds))
  where
    turn : (o p q : Ordering) → ordering_then o (ordering_then p q) ≡ ordering_then (ordering_then o p) q
    turn Less p q = refl
    turn Equal p q = refl
    turn Greater p q = refl

unary-length : (top n : ℕ) → length (unary top n) ≡ top
unary-length zero n = refl
unary-length (suc top) n = ap suc (unary-length top n)

unary-order : (top m n : ℕ) → m ≤ top → n ≤ top → compare_bits (unary top m) (unary top n) ≡ nat_cmp m n
unary-order zero m n h g = sym (cmp-equal m n (omega arith))
unary-order (suc top) m n h g =
    elim (cases_lt m (suc top)) [
      | inl a ↦ elim (cases_lt n (suc top)) [
        | inl b ↦ rw (lt-leb (suc top) m a, lt-leb (suc top) n b) (unary-order top m n (omega arith) (omega arith))
        | inr b ↦ rw (lt-leb (suc top) m a, le-leb (suc top) n b) (sym (cmp-less m n (omega arith)))
      ]
      | inr a ↦ elim (cases_lt n (suc top)) [
        | inl b ↦ rw (le-leb (suc top) m a, lt-leb (suc top) n b) (sym (cmp-greater m n (omega arith)))
        | inr b ↦ let e : m ≡ n = omega arith in rw e (bits-equal (unary (suc top) n) ∙ sym (cmp-equal n n refl))
      ]
    ]

binary-length : (w n : ℕ) → length (binary w n) ≡ w
binary-length zero n = refl
binary-length (suc w) n = ap suc (binary-length w _)

cmp-minus : (k m n : ℕ) → k ≤ m → k ≤ n → nat_cmp (m - k) (n - k) ≡ nat_cmp m n
cmp-minus k m n h g =
    elim (cases_order m n) [
      | inl e ↦ cmp-equal (m - k) (n - k) (omega arith) ∙ sym (cmp-equal m n e)
      | inr (inl l) ↦ cmp-less (m - k) (n - k) (omega arith) ∙ sym (cmp-less m n l)
      | inr (inr l) ↦ cmp-greater (m - k) (n - k) (omega arith) ∙ sym (cmp-greater m n l)
    ]

binary-order : (w m n : ℕ) → m < 2 ^ w → n < 2 ^ w → compare_bits (binary w m) (binary w n) ≡ nat_cmp m n
binary-order zero m n h g = sym (cmp-equal m n (omega arith))
binary-order (suc w) m n h g =
    let two = pow-suc 2 w in
    elim (cases_lt m (2 ^ w)) [
      | inl a ↦ elim (cases_lt n (2 ^ w)) [
        | inl b ↦ rw (lt-leb (2 ^ w) m a, lt-leb (2 ^ w) n b) (binary-order w m n a b)
        | inr b ↦ rw (lt-leb (2 ^ w) m a, le-leb (2 ^ w) n b) (sym (cmp-less m n (omega arith)))
      ]
      | inr a ↦ elim (cases_lt n (2 ^ w)) [
        | inl b ↦ rw (le-leb (2 ^ w) m a, lt-leb (2 ^ w) n b) (sym (cmp-greater m n (omega arith)))
        | inr b ↦ rw (le-leb (2 ^ w) m a, le-leb (2 ^ w) n b) (binary-order w (m - 2 ^ w) (n - 2 ^ w) (omega arith) (omega arith)
            ∙ cmp-minus (2 ^ w) m n a b)
      ]
    ]

-- unary bits compare as numbers do
pub unary-spells : (top : ℕ) → IsSpelling top (unary top)
unary-spells top = record { width = λ m n. unary-length top m ∙ sym (unary-length top n); order = λ m n. unary-order top m n }

-- so do binary ones
pub binary-spells : (w top : ℕ) → top < 2 ^ w → IsSpelling top (binary w)
binary-spells w top h = record {
  width = λ m n. binary-length w m ∙ sym (binary-length w n);
  order =
      λ m n a b. binary-order w m n (omega arith) (omega arith);
}

-- both kinds are spellings
pub spell-spells : (top : ℕ) → top < 2 ^ 63 → IsSpelling top (spelling_of top)
unfolding spelling_of
spell-spells top h = elim (cases_Bool (leb top 64)) [
  | inl e ↦ rw e (unary-spells top)
  | inr e ↦
      rw e (binary-spells (size top) top (size-is top h))
]

spell-width : (top m n : ℕ) → length (spelling_of top m) ≡ length (spelling_of top n)
unfolding spelling_of
spell-width top m n = elim (cases_Bool (leb top 64)) [
  | inl e ↦ rw e (unary-length top m ∙ sym (unary-length top n))
  | inr e ↦
      rw e (binary-length (size top) m ∙ sym (binary-length (size top) n))
]

-- the bits of vectors compare as the vectors do
pub all-order : (ts ms ns : List ℕ) → AllSmall ts → within ts ms ≡ true → within ts ns ≡ true
    → compare_bits (spell_all ts ms) (spell_all ts ns) ≡ compare_numbers ms ns
all-order [] [] [] s h g = refl
all-order [] [] (n ∷ ns) s h g = absurd (cc)
all-order [] (m ∷ ms) ns s h g = absurd (cc)
all-order (t ∷ ts) [] ns s h g = absurd (cc)
all-order (t ∷ ts) (m ∷ ms) [] s h g = absurd (cc)
all-order (t ∷ ts) (m ∷ ms) (n ∷ ns) s h g =
    let a = and_parts (leb m t) (within ts ms) h in
    let b = and_parts (leb n t) (within ts ns) g in
    compare-append (spelling_of t m) (spelling_of t n) (spell_all ts ms) (spell_all ts ns) (spell-width t m n)
    ∙ rw ((spell-spells t s.0).order m n (leb-true m t a.0) (leb-true n t b.0), all-order ts ms ns s.1 a.1 b.1) refl

-- bits that compare as less are below, as certificates say it
pub less-below : (xs ys : List Bool) → length xs ≡ length ys → compare_bits xs ys ≡ Less → IsBelow xs ys
less-below [] [] h e = absurd (cc)
less-below [] (y ∷ ys) h e = absurd (omega arith)
less-below (x ∷ xs) [] h e = absurd (omega arith)
less-below (true ∷ xs) (true ∷ ys) h e = inr (refl, less-below xs ys (omega arith) e)
less-below (true ∷ xs) (false ∷ ys) h e = absurd (cc)
less-below (false ∷ xs) (true ∷ ys) h e = inl (refl, refl)
less-below (false ∷ xs) (false ∷ ys) h e = inr (refl, less-below xs ys (omega arith) e)

numbers-equal : (ms ns : List ℕ) → compare_numbers ms ns ≡ Equal → ms ≡ ns
numbers-equal [] [] e = refl
numbers-equal [] (n ∷ ns) e = absurd (cc)
numbers-equal (m ∷ ms) [] e = absurd (cc)
numbers-equal (m ∷ ms) (n ∷ ns) e =
    elim (cases_order m n) [
      | inl q ↦ let r : compare_numbers ms ns ≡ Equal = sym (rw (cmp-equal m n q) refl) ∙ e in rw (q, numbers-equal ms ns r) refl
      | inr (inl l) ↦ let r : Less ≡ Equal = sym (rw (cmp-less m n l) refl) ∙ e in absurd (cc)
      | inr (inr l) ↦ let r : Greater ≡ Equal = sym (rw (cmp-greater m n l) refl) ∙ e in absurd (cc)
    ]

-- equal bits mean equal vectors
pub all-equal : (ts ms ns : List ℕ) → AllSmall ts → within ts ms ≡ true → within ts ns ≡ true → spell_all ts ms ≡ spell_all ts ns → ms ≡ ns
all-equal ts ms ns s h g e = numbers-equal ms ns (sym (all-order ts ms ns s h g) ∙ ap (compare_bits (spell_all ts ms)) (sym e)
    ∙ bits-equal (spell_all ts ms))

-- binary digits are determined by their number
pub binary-is : (w n : ℕ) (bs : List Bool) → length bs ≡ w → number bs ≡ n → bs ≡ binary w n
binary-is zero n [] h e = refl
binary-is zero n (b ∷ bs) h e = absurd (omega arith)
binary-is (suc w) n [] h e = absurd (omega arith)
binary-is (suc w) n (true ∷ bs) h e =
    let same : length bs ≡ w = omega arith in
    let k : 2 ^ w ≤ n = rw (← same) (omega (arith, number_after-is (0 + 1) bs)) in
    let rest : number bs ≡ n - 2 ^ w = rw (← same) (omega (arith, number_after-is (0 + 1) bs)) in
    rw (le-leb (2 ^ w) n k, ← binary-is w (n - 2 ^ w) bs same rest) refl
binary-is (suc w) n (false ∷ bs) h e =
    let same : length bs ≡ w = omega arith in
    let rest : number bs ≡ n = omega (arith, number_after-is (0 + 0) bs) in
    let k : n < 2 ^ w = rw (← same, ← rest) (number-small bs) in
    rw (lt-leb (2 ^ w) n k, ← binary-is w n bs same rest) refl

-- thresholds from the top
thresholds-push : (k more n : ℕ) → thresholds k (suc more) n ≡ thresholds k more n ++ leb (k + more) n ∷ []
thresholds-push k zero n = let e : k ≡ k + 0 = omega arith in ap (λ m. leb m n ∷ []) e
thresholds-push k (suc more) n = let e : suc k + more ≡ k + suc more = omega arith in
    ap (λ xs. leb k n ∷ xs) (thresholds-push (suc k) more n) ∙ ap (λ m. leb k n ∷ (thresholds (suc k) more n ++ leb m n ∷ [])) e

-- the literals of a sorted list, backwards, are the unary bits
pub unary-is : (top n : ℕ) → reverse (thresholds 1 top n) ≡ unary top n
unary-is zero n = refl
unary-is (suc top) n =
    let e : 1 + top ≡ suc top = omega arith in
    ap reverse (thresholds-push 1 top n) ∙ reverse-append (thresholds 1 top n) (leb (1 + top) n ∷ [])
    ∙ ap (λ m. leb m n ∷ reverse (thresholds 1 top n)) e ∙ ap (λ xs. leb (suc top) n ∷ xs) (unary-is top n)

-- the loops that spell
pub unary-more : (j w n : ℕ) (vals more all : List Bool) → j ≡ suc w → vals ++ unary j n ≡ all → more ≡ vals ++ leb j n ∷ []
    → more ++ unary w n ≡ all
unary-more j w n vals more all q e f = rw (f, q) (append_assoc vals (leb (suc w) n ∷ []) (unary w n))
    ∙ ap (λ k. vals ++ unary k n) (sym q) ∙ e

-- one more binary digit
pub binary-more : (j w n place rest : ℕ) (vals more all : List Bool) → j ≡ suc w → place ≡ 2 ^ w → ((place ≤ n) × (rest ≡ n - place))
    ⊎ ((n < place) × (rest ≡ n)) → vals ++ binary j n ≡ all → more ≡ vals ++ leb place n ∷ [] → more ++ binary w rest ≡ all
binary-more j w n place rest vals more all q p c e f = rw (f, p) (append_assoc vals (leb (2 ^ w) n ∷ []) (binary w rest))
    ∙ ap (λ r. vals ++ leb (2 ^ w) n ∷ binary w r) rest_is ∙ ap (λ k. vals ++ binary k n) (sym q) ∙ e
  where
    rest_is : rest ≡ cond (leb (2 ^ w) n) (n - 2 ^ w) n
    rest_is = elim c [
      | inl h ↦ let l : 2 ^ w ≤ n = omega arith in rw (le-leb (2 ^ w) n l) (omega arith)
      | inr h ↦ let l : n < 2 ^ w =
          omega arith in rw (lt-leb (2 ^ w) n l) h.1
    ]

-- up to 64 in unary
pub spell-low : (top n : ℕ) → top ≤ 64 → spelling_of top n ≡ unary top n
unfolding spelling_of
spell-low top n h = rw (le-leb top 64 h) refl

-- above in binary
pub spell-high : (top n : ℕ) → 64 < top → spelling_of top n ≡ binary (size top) n
unfolding spelling_of
spell-high top n h = rw (lt-leb top 64 h) refl

-- the loop over a vector
pub vector-more : (ts ns : List ℕ) (i d e : ℕ) (vals more all : List Bool) → i < length ts → i < length ns
    → vals ++ spell_all (drop i ts) (drop i ns) ≡ all → more ≡ vals ++ spelling_of (get_or ts i d) (get_or ns i e)
    → more ++ spell_all (drop (i + 1) ts) (drop (i + 1) ns) ≡ all
vector-more ts ns i d e vals more all h g inv f =
    rw f (append_assoc vals (spelling_of (get_or ts i d) (get_or ns i e)) _)
    ∙ ap (λ xs. vals ++ xs) (sym (at_drop_more (λ xs. spell_all xs (drop i ns)) ts i d h
    ∙ at_drop_more (λ xs. spell_all (get_or ts i d ∷ drop (i + 1) ts) xs) ns i e g)) ∙ inv

within-at : (ts ns : List ℕ) (i d e : ℕ) → i < length ts → i < length ns
    → within (drop i ts) (drop i ns) ≡ (leb (get_or ns i e) (get_or ts i d) && within (drop (i + 1) ts) (drop (i + 1) ns))
within-at ts ns i d e h g = at_drop_more (λ xs. within xs (drop i ns)) ts i d h
    ∙ at_drop_more (λ xs. within (get_or ts i d ∷ drop (i + 1) ts) xs) ns i e g

-- one more number is within its top
pub within-more : (ts ns : List ℕ) (i d e : ℕ) (b : Bool) → i < length ts → i < length ns → get_or ns i e ≤ get_or ts i d
    → within (drop i ts) (drop i ns) ≡ b → within (drop (i + 1) ts) (drop (i + 1) ns) ≡ b
within-more ts ns i d e b h g k inv = sym (within-at ts ns i d e h g ∙ rw (le-leb (get_or ns i e) (get_or ts i d) k) refl) ∙ inv

-- one number above its top leaves no bits
pub vector-above : (ts ns : List ℕ) (i d e : ℕ) → i < length ts → i < length ns → get_or ts i d < get_or ns i e
    → within (drop i ts) (drop i ns) ≡ within ts ns → None ≡ bits_for ts ns
unfolding bits_for
vector-above ts ns i d e h g k inv = let w : within ts ns ≡ false = sym inv ∙ within-at ts ns i d e h g
    ∙ rw (lt-leb (get_or ns i e) (get_or ts i d) k) refl in rw w refl

-- after the last number all bits are there
pub vector-end : (ts ns : List ℕ) (i : ℕ) (vals : List Bool) → length ts ≤ i → length ns ≤ i
    → vals ++ spell_all (drop i ts) (drop i ns) ≡ spell_all ts ns → within (drop i ts) (drop i ns) ≡ within ts ns
    → Some vals ≡ bits_for ts ns
unfolding bits_for
vector-end ts ns i vals h g e w =
    let a : drop i ts ≡ [] = at_drop_all (λ xs. xs) ts i h in
    let b : drop i ns ≡ [] = at_drop_all (λ xs. xs) ns i g in
    let t : true ≡ within ts ns = rw (a, b) at w in
    let s : vals ++ [] ≡ spell_all ts ns = rw a at e in
    rw (← t, ← s) (ap Some (sym (append-nil vals)))
