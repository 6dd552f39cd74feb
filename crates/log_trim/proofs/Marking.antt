-- Marks of what lines use.
use Prim.Native.Nat.{zero, suc}
use Rattle.std.proofs.Common.{◌≡◌, ◌≢◌, ℕ, ◌+◌, ◌-◌, ◌<◌, ◌≤◌, Bool, true, false, ◌||◌, ◌&&◌, List, [], ◌∷◌, drop, Some, inl, inr, length, refl, sym, ◌∙◌, subst, ap, arith, eqb, slice_get, slice_set, replicate}
use Rattle.std.specs.Prelude.{slice_index_or}
use Rattle.std.proofs.lemmas.Bool.Decides.{eqb_tells}
use Rattle.std.proofs.lemmas.List.{drop_more, drop_all, length-set}
use Rattle.proof_log.specs.declared.line.Line.{Line}
use Rattle.log_trim.specs.Trimmed.{stands, chain_of, stays, used_by, staying}
use Rattle.log_trim.specs.Marks.{AreMarks}

pub get-set-same : {T : Type 0} (xs : List T) (k : ℕ) (y : T) → k < length xs → slice_get (slice_set xs k y) k ≡ Some y
get-set-same [] k y h = absurd (omega (arith, h))
get-set-same (x ∷ xs) zero y h = refl
get-set-same (x ∷ xs) (suc k) y h = get-set-same xs k y (omega (arith, h))

pub get-set-other : {T : Type 0} (xs : List T) (k j : ℕ) (y : T) → k ≢ j → slice_get (slice_set xs k y) j ≡ slice_get xs j
get-set-other [] k j y h = refl
get-set-other (x ∷ xs) zero zero y h = absurd (h refl)
get-set-other (x ∷ xs) zero (suc j) y h = refl
get-set-other (x ∷ xs) (suc k) zero y h = refl
get-set-other (x ∷ xs) (suc k) (suc j) y h = get-set-other xs k j y (λ e. h (ap suc e))

-- the marks are those of what is used, but for the rest of a chain
abbrev pub Lacks : List Bool → (ℕ → Bool) → List ℕ → Type 0
Lacks marks goal rest = (x : ℕ) → x < length marks → (b : Bool) × (slice_get marks x ≡ Some b) × ((b || stands rest x) ≡ goal x)

-- at first no chain was looked at
pub lacks-start : (marks : List Bool) (used : ℕ → Bool) (ids : List ℕ) → AreMarks marks used → Lacks marks (λ x. used x || stands ids x) ids
lacks-start marks used ids a x h = (used x, a x h, refl)

or-false : (b : Bool) → (b || false) ≡ b
or-false true = refl
or-false false = refl

-- an id that no chain has is not marked
pub lacks-end : (marks : List Bool) (goal : ℕ → Bool) (rest : List ℕ) → rest ≡ [] → Lacks marks goal rest → AreMarks marks goal
lacks-end marks goal rest e l x h = let g = l x h in g.1 ∙ ap Some (sym (or-false g.0) ∙ ap (λ r. g.0 || stands r x) (sym e) ∙ g.2)

pub lacks-put : (marks : List Bool) (goal : ℕ → Bool) (ids : List ℕ) (i d : ℕ) → i < length ids → slice_index_or ids i d < length marks
    → Lacks marks goal (drop i ids) → Lacks (slice_set marks (slice_index_or ids i d) true) goal (drop (i + 1) ids)
lacks-put marks goal ids i d h k l x g =
    let r = l x (subst (λ n. x < n) (length-set marks (slice_index_or ids i d) true) g) in
    let e : (r.0 || (eqb (slice_index_or ids i d) x || stands (drop (i + 1) ids) x)) ≡ goal x =
    ap (λ ys. r.0 || stands ys x) (sym (drop_more ids i d h)) ∙ r.2 in
    elim (eqb_tells (slice_index_or ids i d) x) [
      | inl q ↦ (
        true,
        subst (λ z. slice_get (slice_set marks (slice_index_or ids i d) true) z ≡ Some true) q.1
            (get-set-same marks (slice_index_or ids i d) true k),
        sym
            (ap (λ b. r.0 || (b || stands (drop (i + 1) ids) x)) q.0 ∙ or-true r.0) ∙ e,
      )
      | inr q ↦ (
        r.0,
        get-set-other marks (slice_index_or ids i d) x true q.1
            ∙ r.1,
        sym (ap (λ b. r.0 || (b || stands (drop (i + 1) ids) x)) q.0) ∙ e,
      )
    ]
  where
    or-true : (b : Bool) → (b || true) ≡ true
    or-true true = refl
    or-true false = refl

-- one that is not the id is passed
pub lacks-pass : (marks : List Bool) (goal : ℕ → Bool) (ids : List ℕ) (i d n : ℕ) → i < length ids → n ≡ length marks
    → n ≤ slice_index_or ids i d → Lacks marks goal (drop i ids) → Lacks marks goal (drop (i + 1) ids)
lacks-pass marks goal ids i d n h m k l x g =
    let r = l x g in
    let e : (r.0 || (eqb (slice_index_or ids i d) x || stands (drop (i + 1) ids) x)) ≡ goal x =
    ap (λ ys. r.0 || stands ys x) (sym (drop_more ids i d h)) ∙ r.2 in
    elim (eqb_tells (slice_index_or ids i d) x) [
      | inl q ↦ absurd (omega (arith, k, m, g, q.1))
      | inr q ↦ (r.0, r.1, sym (ap (λ b. r.0 || (b || stands (drop (i + 1) ids) x)) q.0) ∙ e)
    ]

pub marks-same : (marks : List Bool) (f g : ℕ → Bool) → ((x : ℕ) → f x ≡ g x) → AreMarks marks f → AreMarks marks g
marks-same marks f g e a x h = a x h ∙ ap Some (e x)

or-nothing : (b t : Bool) → t ≡ false → b ≡ (b || t)
or-nothing true t e = refl
or-nothing false t e = sym e

-- a line that does not stay uses nothing
pub marks-pass : (marks : List Bool) (used : ℕ → Bool) (l : Line) → stays used l ≡ false → AreMarks marks used
    → AreMarks marks (λ x. used x || (stays used l && stands (chain_of l) x))
marks-pass marks used l e = marks-same marks used (λ x. used x || (stays used l && stands (chain_of l) x))
    (λ x. or-nothing (used x) (stays used l && stands (chain_of l) x) (ap (λ b. b && stands (chain_of l) x) e))

-- one that stays uses its chain
pub marks-put : (marks : List Bool) (used : ℕ → Bool) (l : Line) → stays used l ≡ true
    → AreMarks marks (λ x. used x || stands (chain_of l) x)
    → AreMarks marks (λ x. used x || (stays used l && stands (chain_of l) x))
marks-put marks used l e = marks-same marks (λ x. used x || stands (chain_of l) x) (λ x. used x || (stays used l && stands (chain_of l) x))
    (λ x. sym (ap (λ b. used x || (b && stands (chain_of l) x)) e))

-- one more line, from the end
pub line-before : (ls : List Line) (i : ℕ) (d : Line) → i < length ls → (x : ℕ)
    → (used_by (drop (length ls - i) ls) x ||
    (stays (used_by (drop (length ls - i) ls)) (slice_index_or ls (length ls - 1 - i) d) && stands
    (chain_of (slice_index_or ls (length ls - 1 - i) d)) x))
    ≡ used_by (drop (length ls - (i + 1)) ls) x
line-before ls i d h x =
    let k = length ls - 1 - i in
    let m : drop k ls ≡ slice_index_or ls k d ∷ drop (k + 1) ls = drop_more ls k d (omega (arith, h)) in
    let e : length ls - i ≡ k + 1 = omega (arith, h) in
    let f : length ls - (i + 1) ≡ k = omega (arith, h) in
    ap (λ n. used_by (drop n ls) x ||
    (stays (used_by (drop n ls)) (slice_index_or ls k d) && stands (chain_of (slice_index_or ls k d)) x)) e
    ∙ ap (λ ys. used_by ys x) (sym m) ∙ ap (λ n. used_by (drop n ls) x) (sym f)

drop-set : (xs : List Bool) (k : ℕ) (b : Bool) → k < length xs → drop k (slice_set xs k b) ≡ b ∷ drop (k + 1) xs
drop-set [] k b h = absurd (omega (arith, h))
drop-set (x ∷ xs) zero b h = refl
drop-set (x ∷ xs) (suc k) b h = drop-set xs k b (omega (arith, h)) ∙ ap (λ n. b ∷ drop n (x ∷ xs)) (next k)
  where
    next : (k : ℕ) → suc (k + 1) ≡ suc k + 1
    next k = omega arith

pub staying-before : (ls : List Line) (xs : List Bool) (i : ℕ) (d : Line) (b : Bool) → i < length ls → length xs ≡ length ls
    → drop (length ls - i) xs ≡ staying (drop (length ls - i) ls)
    → b ≡ stays (used_by (drop (length ls - i) ls)) (slice_index_or ls (length ls - 1 - i) d)
    → drop (length ls - (i + 1)) (slice_set xs (length ls - 1 - i) b) ≡ staying (drop (length ls - (i + 1)) ls)
staying-before ls xs i d b h n r s =
    let k = length ls - 1 - i in
    let m : drop k ls ≡ slice_index_or ls k d ∷ drop (k + 1) ls = drop_more ls k d (omega (arith, h)) in
    let e : length ls - i ≡ k + 1 = omega (arith, h) in
    let f : length ls - (i + 1) ≡ k = omega (arith, h) in
    ap (λ j. drop j (slice_set xs k b)) f ∙ drop-set xs k b (omega (arith, h, n))
    ∙ ap (λ c. c ∷ drop (k + 1) xs) (s ∙ ap (λ j. stays (used_by (drop j ls)) (slice_index_or ls k d)) e)
    ∙ ap (λ cs. stays (used_by (drop (k + 1) ls)) (slice_index_or ls k d) ∷ cs)
    (ap (λ j. drop j xs) (sym e) ∙ r ∙ ap (λ j. staying (drop j ls)) e)
    ∙ ap staying (sym m) ∙ ap (λ j. staying (drop j ls)) (sym f)

get-filled : (n x : ℕ) (b : Bool) → x < n → slice_get (replicate n b) x ≡ Some b
get-filled zero x b h = absurd (omega (arith, h))
get-filled (suc n) zero b h = refl
get-filled (suc n) (suc x) b h = get-filled n x b (omega (arith, h))

pub filled-length : (n : ℕ) (b : Bool) → length (replicate n b) ≡ n
filled-length zero b = refl
filled-length (suc n) b = ap suc (filled-length n b)

drop-whole : {T : Type 0} (xs : List T) (n : ℕ) → n ≡ length xs → drop (n - 0) xs ≡ []
drop-whole xs n e = drop_all (n - 0) xs (omega (arith, e))

-- before the last line nothing is marked
pub marks-start : (marks : List Bool) (n : ℕ) (ls : List Line) → marks ≡ replicate n false → (length marks ≡ n)
    × AreMarks marks (used_by (drop (length ls - 0) ls))
marks-start marks n ls e = (
  ap length e ∙ filled-length n false,
  λ x h.
      ap (λ m. slice_get m x) e ∙ get-filled n x false (subst (λ k. x < k) (ap length e ∙ filled-length n false) h)
      ∙ sym (ap (λ ys. Some (used_by ys x)) (drop-whole ls (length ls) refl)),
)

pub staying-start : (xs : List Bool) (ls : List Line) → length xs ≡ length ls → drop (length ls - 0) xs ≡ staying (drop (length ls - 0) ls)
staying-start xs ls e = drop-whole xs (length ls) (sym e) ∙ sym (ap staying (drop-whole ls (length ls) refl))

pub staying-end : (xs : List Bool) (ls : List Line) (i : ℕ) → length ls ≤ i → drop (length ls - i) xs ≡ staying (drop (length ls - i) ls)
    → xs ≡ staying ls
staying-end xs ls i h e = subst (λ n. drop n xs ≡ staying (drop n ls)) none e
  where
    none : length ls - i ≡ 0
    none = omega (arith, h)
