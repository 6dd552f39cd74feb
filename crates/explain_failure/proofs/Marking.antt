-- Marks of what lines use.
use Prim.Native.Nat.{zero, suc}
use Rattle.std.proofs.Common.{◌≡◌, ◌≢◌, ℕ, ◌+◌, ◌-◌, ◌<◌, ◌≤◌, Bool, true, false, ◌||◌, ◌&&◌, List, [], ◌∷◌, drop, Some, None, inl, inr, length, refl, sym, ◌∙◌, subst, ap, arith, eqb, slice_get, slice_set, replicate}
use Rattle.std.specs.Prelude.{slice_index_or}
use Rattle.std.proofs.lemmas.Bool.{false≢true, or_cases, or_left, or_right}
use Rattle.std.proofs.lemmas.Bool.Decides.{eqb_tells}
use Rattle.std.proofs.lemmas.Option.{same_Some, none-some}
use Rattle.std.proofs.lemmas.List.{drop_more, drop_all, length-set}
use Rattle.clause_store.specs.declared.list.Entry.{Entry}
use Rattle.proof_log.specs.declared.line.Line.{Line}
use Rattle.explain_failure.specs.Uses.{stands, chain_of, is_user, used_by}
use Rattle.explain_failure.specs.Marks.{AreMarks, demand_of, AreDemands}
use Rattle.explain_failure.specs.Rising.{with_number}
use Rattle.explain_failure.proofs.Numbers.{stands-with}

get-set-same : {T : Type 0} (xs : List T) (k : ℕ) (y : T) → k < length xs → slice_get (slice_set xs k y) k ≡ Some y
get-set-same [] k y h = absurd (omega (arith, h))
get-set-same (x ∷ xs) zero y h = refl
get-set-same (x ∷ xs) (suc k) y h = get-set-same xs k y (omega (arith, h))

get-set-other : {T : Type 0} (xs : List T) (k j : ℕ) (y : T) → k ≢ j → slice_get (slice_set xs k y) j ≡ slice_get xs j
get-set-other [] k j y h = refl
get-set-other (x ∷ xs) zero zero y h = absurd (h refl)
get-set-other (x ∷ xs) zero (suc j) y h = refl
get-set-other (x ∷ xs) (suc k) zero y h = refl
get-set-other (x ∷ xs) (suc k) (suc j) y h = get-set-other xs k j y (λ e. h (ap suc e))

-- the marks are those of what is used, but for the rest of a chain
abbrev pub Lacks : List Bool → (ℕ → Bool) → List ℕ → Type 0
Lacks marks goal rest = (x : ℕ) → x < length marks → (b : Bool) × (slice_get marks x ≡ Some b) × ((b || stands rest x) ≡ goal x)

-- at first no chain was looked at
pub lacks-start : (marks : List Bool) (used : ℕ → Bool) (ids : List ℕ) → AreMarks marks used → Lacks marks (λ x. used x || stands ids x) ids
lacks-start marks used ids a x h = (used x, a x h, refl)

or-false : (b : Bool) → (b || false) ≡ b
or-false true = refl
or-false false = refl

-- an id that no chain has is not marked
pub lacks-end : (marks : List Bool) (goal : ℕ → Bool) (rest : List ℕ) → rest ≡ [] → Lacks marks goal rest → AreMarks marks goal
lacks-end marks goal rest e l x h = let g = l x h in g.1 ∙ ap Some (sym (or-false g.0) ∙ ap (λ r. g.0 || stands r x) (sym e) ∙ g.2)

pub lacks-put : (marks : List Bool) (goal : ℕ → Bool) (ids : List ℕ) (i d : ℕ) → i < length ids → slice_index_or ids i d < length marks
    → Lacks marks goal (drop i ids) → Lacks (slice_set marks (slice_index_or ids i d) true) goal (drop (i + 1) ids)
lacks-put marks goal ids i d h k l x g =
    let r = l x (subst (λ n. x < n) (length-set marks (slice_index_or ids i d) true) g) in
    let e : (r.0 || (eqb (slice_index_or ids i d) x || stands (drop (i + 1) ids) x)) ≡ goal x =
    ap (λ ys. r.0 || stands ys x) (sym (drop_more ids i d h)) ∙ r.2 in
    elim (eqb_tells (slice_index_or ids i d) x) [
      | inl q ↦ (
        true,
        subst (λ z. slice_get (slice_set marks (slice_index_or ids i d) true) z ≡ Some true) q.1
            (get-set-same marks (slice_index_or ids i d) true k),
        sym
            (ap (λ b. r.0 || (b || stands (drop (i + 1) ids) x)) q.0 ∙ or-true r.0) ∙ e,
      )
      | inr q ↦ (
        r.0,
        get-set-other marks (slice_index_or ids i d) x true q.1
            ∙ r.1,
        sym (ap (λ b. r.0 || (b || stands (drop (i + 1) ids) x)) q.0) ∙ e,
      )
    ]
  where
    or-true : (b : Bool) → (b || true) ≡ true
    or-true true = refl
    or-true false = refl

-- one that is not the id is passed
pub lacks-pass : (marks : List Bool) (goal : ℕ → Bool) (ids : List ℕ) (i d n : ℕ) → i < length ids → n ≡ length marks
    → n ≤ slice_index_or ids i d → Lacks marks goal (drop i ids) → Lacks marks goal (drop (i + 1) ids)
lacks-pass marks goal ids i d n h m k l x g =
    let r = l x g in
    let e : (r.0 || (eqb (slice_index_or ids i d) x || stands (drop (i + 1) ids) x)) ≡ goal x =
    ap (λ ys. r.0 || stands ys x) (sym (drop_more ids i d h)) ∙ r.2 in
    elim (eqb_tells (slice_index_or ids i d) x) [
      | inl q ↦ absurd (omega (arith, k, m, g, q.1))
      | inr q ↦ (r.0, r.1, sym (ap (λ b. r.0 || (b || stands (drop (i + 1) ids) x)) q.0) ∙ e)
    ]

pub marks-same : (marks : List Bool) (f g : ℕ → Bool) → ((x : ℕ) → f x ≡ g x) → AreMarks marks f → AreMarks marks g
marks-same marks f g e a x h = a x h ∙ ap Some (e x)

-- one more line, from the end
pub line-before : (ls : List Line) (i : ℕ) (d : Line) → i < length ls → (x : ℕ)
    → (used_by (drop (length ls - i) ls) x ||
    (is_user (slice_index_or ls (length ls - 1 - i) d) (used_by (drop (length ls - i) ls)) && stands
    (chain_of (slice_index_or ls (length ls - 1 - i) d)) x))
    ≡ used_by (drop (length ls - (i + 1)) ls) x
line-before ls i d h x =
    let k = length ls - 1 - i in
    let m : drop k ls ≡ slice_index_or ls k d ∷ drop (k + 1) ls = drop_more ls k d (omega (arith, h)) in
    let e : length ls - i ≡ k + 1 = omega (arith, h) in
    let f : length ls - (i + 1) ≡ k = omega (arith, h) in
    ap (λ n. used_by (drop n ls) x ||
    (is_user (slice_index_or ls k d) (used_by (drop n ls)) && stands (chain_of (slice_index_or ls k d)) x)) e
    ∙ ap (λ ys. used_by ys x) (sym m) ∙ ap (λ n. used_by (drop n ls) x) (sym f)

-- one more demand
demand-none : (es : List Entry) (marks : List Bool) (n : ℕ) (d : ℕ) → demand_of es marks (n + 1) ≡ None
    → ((place : ℕ) × (place < n + 1) × (demand_of es marks (place + 1) ≡ Some d))
    → ((place : ℕ) × (place < n) × (demand_of es marks (place + 1) ≡ Some d))
demand-none es marks n d e p = elim (eqb_tells p.0 n) [
  | inl q ↦ absurd (none-some d (sym e ∙ ap (λ k. demand_of es marks (k + 1)) (sym q.1) ∙ p.2))
  | inr q ↦ (p.0, omega (arith, p.1, q.1), p.2)
]

-- a clause that is not used, or of the structure, gives no demand
pub demands-pass : (es : List Entry) (marks : List Bool) (n : ℕ) (ds : List ℕ) → demand_of es marks (n + 1) ≡ None
    → AreDemands es marks n ds → AreDemands es marks (n + 1) ds
demands-pass es marks n ds e a d =
    ((λ s. let p = (a d).0 s in (p.0, omega (arith, p.1), p.2)), (λ p. (a d).1 (demand-none es marks n d e p)))

-- a used clause of a demand gives it
pub demands-put : (es : List Entry) (marks : List Bool) (n : ℕ) (ds new : List ℕ) (k : ℕ) → demand_of es marks (n + 1) ≡ Some k
    → new ≡ with_number ds k → AreDemands es marks n ds → AreDemands es marks (n + 1) new
demands-put es marks n ds new k e q a d = (to, from)
  where
    same : stands new d ≡ (eqb k d || stands ds d)
    same = ap (λ xs. stands xs d) q ∙ stands-with ds k d

    to : stands new d ≡ true → (place : ℕ) × (place < n + 1) × (demand_of es marks (place + 1) ≡ Some d)
    to s = elim (or_cases (eqb k d) (stands ds d) (sym same ∙ s)) [
      | inl p ↦ elim (eqb_tells k d) [ inl r ↦ (n, omega arith, e ∙ ap Some r.1) | inr r ↦ absurd (false≢true (sym r.0 ∙ p)) ]
      | inr p ↦ let r = (a d).0 p in (r.0, omega (arith, r.1), r.2)
    ]

    from : ((place : ℕ) × (place < n + 1) × (demand_of es marks (place + 1) ≡ Some d)) → stands new d ≡ true
    from p = same ∙ elim (eqb_tells p.0 n) [
      | inl r ↦ or_left (eqb k d) (stands ds d)
          (elim (eqb_tells k d) [
            | inl t ↦ t.0
            | inr t ↦ absurd
                (t.1 (same_Some k d (sym e ∙ ap (λ z. demand_of es marks (z + 1)) (sym r.1) ∙ p.2)))
          ])
      | inr r ↦ or_right (eqb k d) (stands ds d) ((a d).1 (p.0, omega (arith, p.1, r.1), p.2))
    ]

get-filled : (n k : ℕ) (b : Bool) → k < n → slice_get (replicate n b) k ≡ Some b
get-filled zero k b h = absurd (omega (arith, h))
get-filled (suc n) zero b h = refl
get-filled (suc n) (suc k) b h = get-filled n k b (omega (arith, h))

filled-length : (n : ℕ) (b : Bool) → length (replicate n b) ≡ n
filled-length zero b = refl
filled-length (suc n) b = ap suc (filled-length n b)

drop-whole : (ls : List Line) → drop (length ls - 0) ls ≡ []
drop-whole ls = drop_all (length ls - 0) ls (omega arith)

-- before the last line nothing is marked
pub marks-start : (marks : List Bool) (n : ℕ) (ls : List Line) → marks ≡ replicate n false → (length marks ≡ n)
    × AreMarks marks (used_by (drop (length ls - 0) ls))
marks-start marks n ls e = (
  ap length e ∙ filled-length n false,
  λ x h.
      ap (λ m. slice_get m x) e ∙ get-filled n x false (subst (λ k. x < k) (ap length e ∙ filled-length n false) h)
      ∙ sym (ap (λ ys. Some (used_by ys x)) (drop-whole ls)),
)

-- the marks are those of all lines
pub marks-end : (marks : List Bool) (ls : List Line) (i : ℕ) → length ls ≤ i → AreMarks marks (used_by (drop (length ls - i) ls))
    → AreMarks marks (used_by ls)
marks-end marks ls i h a = subst (λ n. AreMarks marks (used_by (drop n ls))) zero-left a
  where
    zero-left : length ls - i ≡ 0
    zero-left = omega (arith, h)
