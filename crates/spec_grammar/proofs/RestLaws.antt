-- What may stand after each state of the machine of values.
use Rattle.std.proofs.Common.{◌≡◌, ℕ, ◌≤◌, ◌+◌, Bool, true, false, cond, ◌&&◌, ◌⊎◌, List, [], ◌∷◌, ◌++◌, Option, Some, None, count_by, refl, sym, ap, ◌∙◌, arith, inl, inr, eqb-true, ◌==◌}
use Rattle.std.proofs.lemmas.List.Sums.{sum_by-cons}
use Rattle.spec_grammar.proofs.Common.{AllByRecursion, list_all, cases_Bool, and_parts, nat_tests, is_value_byte, is_value, IsValue, is_other, is_colon, is_piece, IsTarget, spell_more_values, after, is_whole, Run, One, Many, Target, First, Second, Third}
use Rattle.spec_grammar.proofs.RunLaws.{two_cons, cons_none}

abbrev pub is_piece_byte : ℕ → Bool
is_piece_byte c = is_value_byte c && is_other c

-- bytes of one kind, and one at least where none stands before them
abbrev pub are_bytes : (ℕ → Bool) → Bool → List ℕ → Bool
are_bytes p some [] = some
are_bytes p some (b ∷ w) = p b && are_bytes p true w

abbrev pub one : Bool → ℕ
one true = 1
one false = 0

-- one `:` at most, where one may stand before
abbrev pub IsWithin : Bool → List ℕ → Type 0
IsWithin colon w = one colon + count_by is_colon w ≤ 1

-- a value of which F holds, and others behind commas
abbrev pub Comma : (List ℕ → Type 0) → (List ℕ → Type 0) → List ℕ → Type 0
Comma F P text = (v : List ℕ) × (values : List (List ℕ)) × F v × AllByRecursion P values × (text ≡ v ++ spell_more_values values)

-- a part of P-O-T, `-`, and what is next
abbrev pub Dash : Bool → (List ℕ → Type 0) → List ℕ → Type 0
Dash some Next text = (w : List ℕ) × (rest : List ℕ) × (are_bytes is_piece_byte some w ≡ true) × Next rest × (text ≡ w ++ 45 ∷ rest)

abbrev pub IsLast : Bool → Bool → List ℕ → Type 0
IsLast some colon text = (are_bytes is_piece_byte some text ≡ true) × IsWithin colon text

abbrev pub Rest : Run → List ℕ → Type 0
Rest (One some) text = are_bytes is_value_byte some text ≡ true
Rest (Many some) text = Comma (λ v. are_bytes is_value_byte some v ≡ true) IsValue text
Rest (Target some colon) text = Comma (λ v. (are_bytes is_value_byte some v ≡ true) × IsWithin colon v) (λ v. IsValue v × IsTarget v) text
Rest (First some) text = Dash some (Dash false (IsLast false false)) text
Rest (Second some) text = Dash some (IsLast false false) text
Rest (Third some colon) text = IsLast some colon text

abbrev pub RestAfter : Option Run → List ℕ → Type 0
RestAfter None rest = ⊥
RestAfter (Some t) rest = Rest t rest

-- ---- values and pieces

bytes_all : (p : ℕ → Bool) (w : List ℕ) → are_bytes p true w ≡ list_all p w
bytes_all p [] = refl
bytes_all p (b ∷ w) = ap (λ x. p b && x) (bytes_all p w)

pub value_same : (w : List ℕ) → are_bytes is_value_byte false w ≡ is_value w
value_same [] = refl
value_same (b ∷ w) = bytes_all is_value_byte (b ∷ w)

pub piece_same : (w : List ℕ) → are_bytes is_piece_byte false w ≡ is_piece w
piece_same [] = refl
piece_same (b ∷ w) = bytes_all is_piece_byte (b ∷ w)

piece_parts : (b : ℕ) → is_piece_byte b ≡ true → ((b == 45) ≡ false) × (is_value_byte b ≡ true)
piece_parts b h = (grind (arith, nat_tests), (and_parts (is_value_byte b) (is_other b) h).0)

is_one : (b : ℕ) (w : List ℕ) → (b == 58) ≡ true → count_by is_colon (b ∷ w) ≡ 1 + count_by is_colon w
is_one b w h = sum_by-cons (λ c. cond (is_colon c) 1 0) b w ∙ rw h refl

is_none : (b : ℕ) (w : List ℕ) → (b == 58) ≡ false → count_by is_colon (b ∷ w) ≡ count_by is_colon w
is_none b w h = sum_by-cons (λ c. cond (is_colon c) 1 0) b w ∙ rw h (omega arith)

piece_byte : (b : ℕ) → is_value_byte b ≡ true → (b == 45) ≡ false → is_piece_byte b ≡ true
piece_byte b h e = rw (h, e) refl

bytes_front : (p : ℕ → Bool) (some : Bool) (b : ℕ) (w : List ℕ) → p b ≡ true → are_bytes p true w ≡ true → are_bytes p some (b ∷ w) ≡ true
bytes_front p some b w h e = rw (h, e) refl

colon_front : (colon : Bool) (b : ℕ) (w : List ℕ) → (b == 58) ≡ true → colon ≡ false → IsWithin true w → IsWithin colon (b ∷ w)
colon_front colon b w h none e = rw none (omega (arith, is_one b w h, e))

other_front : (colon : Bool) (b : ℕ) (w : List ℕ) → (b == 58) ≡ false → IsWithin colon w → IsWithin colon (b ∷ w)
other_front colon b w h e = rw (is_none b w h) e

colon_back : (colon : Bool) (b : ℕ) (w : List ℕ) → (b == 58) ≡ true → IsWithin colon (b ∷ w) → (colon ≡ false) × IsWithin true w
colon_back true b w h e = absurd (omega (arith, is_one b w h, e))
colon_back false b w h e = (refl, omega (arith, is_one b w h, e))

other_back : (colon : Bool) (b : ℕ) (w : List ℕ) → (b == 58) ≡ false → IsWithin colon (b ∷ w) → IsWithin colon w
other_back colon b w h e = rw (is_none b w h) at e

one-le : (colon : Bool) → one colon + 0 ≤ 1
one-le true = omega arith
one-le false = omega arith

-- ---- one byte more in front

only_if : (b : Bool) (s : Run) (rest : List ℕ) → RestAfter (cond b (Some s) None) rest → (b ≡ true) × Rest s rest
only_if true s rest r = (refl, r)
only_if false s rest r = absurd r

only_unless : (b : Bool) (s : Run) (rest : List ℕ) → RestAfter (cond b None (Some s)) rest → (b ≡ false) × Rest s rest
only_unless true s rest r = absurd r
only_unless false s rest r = (refl, r)

pick : (b : Bool) (o p : Option Run) (rest : List ℕ) → RestAfter (cond b o p) rest → ((b ≡ true) × RestAfter o rest)
    ⊎ ((b ≡ false) × RestAfter p rest)
pick true o p rest r = inl (refl, r)
pick false o p rest r = inr (refl, r)

comma_front : (F P : List ℕ → Type 0) (b : ℕ) (rest : List ℕ) → F [] → b ≡ 44 → Comma P P rest → Comma F P (b ∷ rest)
comma_front F P b rest f k (v, values, h, are, e) = ([], v ∷ values, f, (h, are), cc)

dash_front : (some : Bool) (Next : List ℕ → Type 0) (next same : Run) (b : ℕ) (rest : List ℕ) → (Rest next rest → Next rest)
    → (Rest same rest → Dash true Next rest)
    → RestAfter (cond (b == 45) (cond some (Some next) None) (cond (is_value_byte b) (Some same) None)) rest → Dash some Next (b ∷ rest)
dash_front some Next next same b rest f g r = elim (pick (b == 45) _ _ rest r) [
  | inl (h, x) ↦ let o = only_if some next rest x in ([], rest, o.0, f o.1, ap (λ c. c ∷ rest) (eqb-true b 45 h))
  | inr (h, x) ↦
      let o = only_if (is_value_byte b) same rest x in
      let (w, more, bytes, n, e) = g o.1 in
      (b ∷ w, more, bytes_front is_piece_byte some b w (piece_byte b o.0 h) bytes, n, ap (λ l. b ∷ l) e)
]

last_front : (some colon : Bool) (b : ℕ) (rest : List ℕ) → RestAfter (after (Third some colon) b) rest → IsLast some colon (b ∷ rest)
last_front some colon b rest r = elim (pick (b == 45) _ _ rest r) [
  | inl (h, x) ↦ absurd x
  | inr (h, x) ↦ elim (pick (b == 58) _ _ rest x) [
    | inl (k, y) ↦ let o = only_unless colon (Third true true) rest y in
        (bytes_front is_piece_byte some b rest (rw (eqb-true b 58 k) refl) o.1.0, colon_front colon b rest k o.0 o.1.1)
    | inr (k, y) ↦ let o = only_if (is_value_byte b) (Third true colon) rest y in
        (bytes_front is_piece_byte some b rest (piece_byte b o.0 h) o.1.0, other_front colon b rest k o.1.1)
  ]
]

target_front : (some colon : Bool) (b : ℕ) (rest : List ℕ) → RestAfter (after (Target some colon) b) rest
    → Rest (Target some colon) (b ∷ rest)
target_front some colon b rest r = elim (pick (b == 58) _ _ rest r) [
  | inl (h, x) ↦
      let o = only_unless colon (Target true true) rest x in
      let (v, values, f, are, e) = o.1 in (
        b ∷ v,
        values,
        (bytes_front is_value_byte some b v (rw (eqb-true b 58 h) refl) f.0, colon_front colon b v h o.0 f.1),
        are,
        ap
            (λ l. b ∷ l) e,
      )
  | inr (h, x) ↦ elim (pick (is_value_byte b) _ _ rest x) [
    | inl (k, (v, values, f, are, e)) ↦
        (b ∷ v, values, (bytes_front is_value_byte some b v k f.0, other_front colon b v h f.1), are, ap (λ l. b ∷ l) e)
    | inr (k, y) ↦
        let o = only_if (b == 44 && some) (Target false false) rest y in
        let q = and_parts (b == 44) some o.0 in
        let (v, values, f, are, e) = o.1 in
        comma_front (λ w. (are_bytes is_value_byte some w ≡ true) × IsWithin colon w) (λ w. IsValue w × IsTarget w) b rest
        (q.1, one-le colon) (eqb-true b 44 q.0) (v, values, (rw (← value_same v) f.0, omega (arith, f.1)), are, e)
  ]
]

pub prepend : (s : Run) (b : ℕ) (rest : List ℕ) → RestAfter (after s b) rest → Rest s (b ∷ rest)
prepend (One some) b rest r = let o = only_if (is_value_byte b) (One true) rest r in rw (o.0, o.1) refl
prepend (Many some) b rest r = elim (pick (is_value_byte b) _ _ rest r) [
  | inl (h, (v, values, f, are, e)) ↦ (b ∷ v, values, bytes_front is_value_byte some b v h f, are, ap (λ l. b ∷ l) e)
  | inr (h, x) ↦
      let o = only_if (b == 44 && some) (Many false) rest x in
      let q = and_parts (b == 44) some o.0 in
      let (v, values, f, are, e) = o.1 in
      comma_front (λ w. are_bytes is_value_byte some w ≡ true) IsValue b rest q.1 (eqb-true b 44 q.0)
      (v, values, rw (← value_same v) f, are, e)
]
prepend (Target some colon) b rest r = target_front some colon b rest r
prepend (First some) b rest r = dash_front some (Dash false (IsLast false false)) (Second false) (First true) b rest (λ x. x) (λ x. x) r
prepend (Second some) b rest r = dash_front some (IsLast false false) (Third false false) (Second true) b rest (λ x. x) (λ x. x) r
prepend (Third some colon) b rest r = last_front some colon b rest r

-- ---- one byte less

comma_back : (F P : List ℕ → Type 0) (b : ℕ) (rest : List ℕ) → Comma F P (b ∷ rest) → (F [] × (b ≡ 44) × Comma P P rest)
    ⊎ Comma (λ v. F (b ∷ v)) P rest
comma_back F P b rest ([], [], f, are, e) = cons_none b rest e
comma_back F P b rest ([], v ∷ values, f, are, e) = let t = two_cons _ _ _ _ e in inl (f, t.0, (v, values, are.0, are.1, t.1))
comma_back F P b rest (c ∷ v, values, f, are, e) = let t = two_cons _ _ _ _ e in inr (v, values, rw t.0 f, are, t.1)

dash_back : (some : Bool) (Next : List ℕ → Type 0) (next same : Run) (b : ℕ) (rest : List ℕ) → (Next rest → Rest next rest)
    → (Dash true Next rest → Rest same rest)
    → Dash some Next (b ∷ rest) → RestAfter (cond (b == 45) (cond some (Some next) None) (cond (is_value_byte b) (Some same) None)) rest
dash_back some Next next same b rest f g ([], more, bytes, n, e) = let t = two_cons _ _ _ _ e in rw (t.0, bytes) (f (rw t.1 n))
dash_back some Next next same b rest f g (c ∷ w, more, bytes, n, e) =
    let t = two_cons _ _ _ _ e in
    let q = and_parts (is_piece_byte c) (are_bytes is_piece_byte true w) bytes in
    let p = piece_parts c q.0 in
    rw (t.0, p.1, p.0) (g (w, more, q.1, n, t.1))

last_back : (some colon : Bool) (b : ℕ) (rest : List ℕ) → IsLast some colon (b ∷ rest) → RestAfter (after (Third some colon) b) rest
last_back some colon b rest (bytes, count) =
    let q = and_parts (is_piece_byte b) (are_bytes is_piece_byte true rest) bytes in
    let p = piece_parts b q.0 in
    elim (cases_Bool (b == 58)) [
      | inl k ↦ let o = colon_back colon b rest k count in rw (p.1, p.0, k, o.0) (q.1, o.1)
      | inr k ↦ rw (p.1, p.0, k) (q.1, other_back colon b rest k count)
    ]

target_back : (some colon : Bool) (b : ℕ) (rest : List ℕ) → Rest (Target some colon) (b ∷ rest)
    → RestAfter (after (Target some colon) b) rest
target_back some colon b rest r = elim (comma_back _ _ b rest r) [
  | inl (f, k, (v, values, h, are, e)) ↦ rw (k, f.0) (v, values, (rw (value_same v) h.0, omega (arith, h.1)), are, e)
  | inr (v, values, f, are, e) ↦
      let q = and_parts (is_value_byte b) (are_bytes is_value_byte true v) f.0 in
      elim (cases_Bool (b == 58)) [
        | inl k ↦ let o = colon_back colon b v k f.1 in rw (q.0, k, o.0) (v, values, (q.1, o.1), are, e)
        | inr k ↦ rw (q.0, k) (v, values, (q.1, other_back colon b v k f.1), are, e)
      ]
]

pub behead : (s : Run) (b : ℕ) (rest : List ℕ) → Rest s (b ∷ rest) → RestAfter (after s b) rest
behead (One some) b rest r = let q = and_parts (is_value_byte b) (are_bytes is_value_byte true rest) r in rw q.0 q.1
behead (Many some) b rest r = elim (comma_back _ _ b rest r) [
  | inl (f, k, (v, values, h, are, e)) ↦ rw (k, f) (v, values, rw (value_same v) h, are, e)
  | inr (v, values, f, are, e) ↦ let q = and_parts (is_value_byte b) (are_bytes is_value_byte true v) f in rw q.0 (v, values, q.1, are, e)
]
behead (Target some colon) b rest r = target_back some colon b rest r
behead (First some) b rest r = dash_back some (Dash false (IsLast false false)) (Second false) (First true) b rest (λ x. x) (λ x. x) r
behead (Second some) b rest r = dash_back some (IsLast false false) (Third false false) (Second true) b rest (λ x. x) (λ x. x) r
behead (Third some colon) b rest r = last_back some colon b rest r

-- ---- the end

pub whole_rest : (s : Run) → is_whole s ≡ true → Rest s []
whole_rest (One some) h = h
whole_rest (Many some) h = ([], [], h, tt, refl)
whole_rest (Target some colon) h = ([], [], (h, one-le colon), tt, refl)
whole_rest (Third some colon) h = (h, one-le colon)
whole_rest s h = absurd cc

no_text : {A : Type 0} (w : List ℕ) (b : ℕ) (more : List ℕ) → [] ≡ w ++ b ∷ more → A
no_text [] b more e = cons_none b more (sym e)
no_text (c ∷ w) b more e = cons_none c (w ++ b ∷ more) (sym e)

comma_end : (F P : List ℕ → Type 0) → Comma F P [] → F []
comma_end F P ([], values, f, are, e) = f
comma_end F P (c ∷ v, values, f, are, e) = cons_none c (v ++ spell_more_values values) (sym e)

pub rest_whole : (s : Run) → Rest s [] → is_whole s ≡ true
rest_whole (One some) r = r
rest_whole (Many some) r = comma_end _ _ r
rest_whole (Target some colon) r = (comma_end _ _ r).0
rest_whole (First some) (w, more, bytes, n, e) = no_text w 45 more e
rest_whole (Second some) (w, more, bytes, n, e) = no_text w 45 more e
rest_whole (Third some colon) r = r.0
