-- What has a number or a place in a list stands in it, and the other way round.
use Rattle.std.proofs.Common.{◌≡◌, refl, sym, ap, subst, ◌∙◌, ℕ, ◌+◌, zero, suc, List, [], ◌∷◌, length, fold, Option, Some, None, inl, inr, arith, slice_get}
use Rattle.std.specs.List.{range_with_len}
use Rattle.std.specs.Ordering.{nat_cmp, match_ordering}
use Rattle.std.specs.declared.cmp.Ordering.TheVariants.{Less, Equal, Greater}
use Rattle.std.specs.BTreeSet.{insert_key}
use Rattle.graph_rules.proofs.Lists.{In}
use Rattle.problem.specs.OfConditionRules.Worlds.{rows}
use Rattle.problem.specs.OfRecipeData.Recipe.{Recipe}
use Rattle.problem.specs.OfRecipeData.RequireRow.{RequireRow}
use Rattle.problem.specs.OfSiteSettings.PackageEntry.{PackageEntry}
use Rattle.problem.specs.OfSiteSettings.RequireEntry.{RequireEntry}
use Rattle.problem.specs.Problems.{row_of, rows_from, required_in}

-- what stands at a place stands in the list
pub slice_get-in : {X : Type 0} (xs : List X) (k : ℕ) (x : X) → slice_get xs k ≡ Some x → In x xs
slice_get-in [] k x e = absurd (let no : None ≡ Some x = e in cc)
slice_get-in (y ∷ ys) zero x e = inl (let same : y ≡ x = cc in sym same)
slice_get-in (y ∷ ys) (suc k) x e = inr (slice_get-in ys k x e)

-- an element has a place, which is one of the numbers from 0 on
pub place-of : {X : Type 0} (xs : List X) (from : ℕ) (x : X) → In x xs → (k : ℕ) × (slice_get xs k ≡ Some x)
    × In (from + k) (range_with_len from (length xs))
place-of [] from x none = absurd none
place-of (y ∷ ys) from x (inl same) = (0, ap Some (sym same), inl (omega arith))
place-of (y ∷ ys) from x (inr later) =
    let rest = place-of ys (from + 1) x later in (
      suc rest.0,
      rest.1,
      inr (subst (λ n. In n (range_with_len (from + 1) (length ys))) (let e : from + 1 + rest.0 ≡ from + suc rest.0 =
          omega arith in e) rest.2),
    )

equal : (a b : ℕ) → nat_cmp a b ≡ Equal → a ≡ b
equal a b e = grind arith

insert-has : (xs : List ℕ) (k : ℕ) → In k (insert_key nat_cmp xs k)
insert-has [] k = inl refl
insert-has (x ∷ xs) k =
    let rest = insert-has xs k in
    elim (nat_cmp k x) as (λ o. nat_cmp k x ≡ o → In k (match_ordering o (k ∷ x ∷ xs) (x ∷ xs) (x ∷ insert_key nat_cmp xs k))) [
      | Less ↦ λ e. inl refl
      | Equal ↦ λ e. inl (equal k x e)
      | Greater ↦ λ e. inr rest
    ] refl

insert-keeps : (xs : List ℕ) (k q : ℕ) → In q xs → In q (insert_key nat_cmp xs k)
insert-keeps [] k q none = absurd none
insert-keeps (x ∷ xs) k q there =
    let rest = insert-keeps xs k q in
    elim (nat_cmp k x) as (λ o. In q (match_ordering o (k ∷ x ∷ xs) (x ∷ xs) (x ∷ insert_key nat_cmp xs k))) [
      | Less ↦ inr there
      | Equal ↦ there
      | Greater ↦ elim there as (λ _. In q (x ∷ insert_key nat_cmp xs k)) [ inl same ↦ inl same | inr later ↦ inr (rest later) ]
    ]

fold-keeps : (xs acc : List ℕ) (q : ℕ) → In q acc → In q (fold (insert_key nat_cmp) acc xs)
fold-keeps [] acc q there = there
fold-keeps (x ∷ xs) acc q there = fold-keeps xs (insert_key nat_cmp acc x) q (insert-keeps acc x q there)

pub fold-has : (xs acc : List ℕ) (q : ℕ) → In q xs → In q (fold (insert_key nat_cmp) acc xs)
fold-has [] acc q none = absurd none
fold-has (x ∷ xs) acc q (inl same) = fold-keeps xs (insert_key nat_cmp acc x) q
    (subst (λ n. In n (insert_key nat_cmp acc x)) (sym same) (insert-has acc x))
fold-has (x ∷ xs) acc q (inr later) = fold-has xs (insert_key nat_cmp acc x) q later

-- a row of a package is one of its recipe
pub row-of : {R : Type 0} (field : Recipe → List R) (found : Option Recipe) (row : R) → In row (rows field found) → (recipe : Recipe)
    × (found ≡ Some recipe) × In row (field recipe)
row-of field None row none = absurd none
row-of field (Some recipe) row there = (recipe, refl, there)

-- a row of the settings is one of its package's entry
pub entry-with : (found : Option PackageEntry) (row : RequireRow) → In row (required_in found) → (entry : PackageEntry)
    × (found ≡ Some entry) × In row (rows_from 0 entry.require)
entry-with None row none = absurd none
entry-with (Some entry) row there = (entry, refl, there)

-- as many rows as entries
pub rows-count : (place : ℕ) (entries : List RequireEntry) → length (rows_from place entries) ≡ length entries
rows-count place [] = refl
rows-count place (entry ∷ more) = ap suc (rows-count (place + 1) more)

some-same : {X : Type 0} (x y : X) → Some x ≡ Some y → x ≡ y
some-same x y e = cc

-- the number of a row is its place
rows-number : (from : ℕ) (entries : List RequireEntry) (k : ℕ) (row : RequireRow) → slice_get (rows_from from entries) k ≡ Some row
    → row.number ≡ from + k
rows-number from [] k row e = absurd (let no : None ≡ Some row = e in cc)
rows-number from (entry ∷ more) zero row e =
    let none : from ≡ from + 0 = omega arith in
    ap (λ (r : RequireRow). r.number) (sym (some-same (row_of from entry) row e)) ∙ none
rows-number from (entry ∷ more) (suc k) row e =
    let next : from + 1 + k ≡ from + suc k = omega arith in
    rows-number (from + 1) more k row e ∙ next

pub required-number : (found : Option PackageEntry) (k : ℕ) (row : RequireRow) → slice_get (required_in found) k ≡ Some row → row.number ≡ k
required-number None k row e = absurd (let no : None ≡ Some row = e in cc)
required-number (Some entry) k row e = let same : 0 + k ≡ k = omega arith in rows-number 0 entry.require k row e ∙ same
