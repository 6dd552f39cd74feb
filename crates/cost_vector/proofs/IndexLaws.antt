-- What stands first among elements that were found by a text, and whether one of them passes.
use Rattle.std.proofs.Common.{◌≡◌, refl, sym, ap, ◌∙◌, ℕ, ◌<◌, ◌≤◌, Bool, true, false, ◌&&◌, ◌||◌, List, [], ◌∷◌, length, get_or, map, filter, find, cond, Some, None, Bor, arith}
use Rattle.std.specs.List.{list_any}
use Rattle.std.specs.Prelude.{if◌then◌else◌}
use Rattle.std.specs.Str.{bytes_eq}
use Rattle.recipe_data.specs.declared.recipe.VersionRow.{VersionRow}
use Rattle.problem.specs.Problems.{versions_at, Problem}
use Rattle.graph_core.specs.Graphs.{Text}
use Rattle.graph_rules.specs.Weights.{is_deprecated}
use Rattle.keyed_lists.specs.Lent.{lent, with_text, IsIndexOf}
use Rattle.keyed_lists.proofs.Lent.{first_in, find_first}

module _ {T : Type 0} where
  abbrev pub seen : List (List ℕ × T) → List T
  seen entries = map (λ e. e.1) entries

  -- an empty run says that no row passes
  pub none_found : (p : T → Bool) (xs : List T) (run : List (Bor (List ℕ) × Bor T)) → seen (lent run) ≡ filter p xs → length run < 1
      → find p xs ≡ None
  none_found p xs [] is short = find_first p xs ∙ ap (first_in p) (sym is)
  none_found p xs (e ∷ run) is short = absurd (omega (arith, short))

  -- the first of a run is the first row that passes
  pub first_found : (p : T → Bool) (xs : List T) (run : List (Bor (List ℕ) × Bor T)) (e : Bor (List ℕ) × Bor T)
      → seen (lent run) ≡ filter p xs → 1 ≤ length run → e ≡ get_or run 0 e → find p xs ≡ Some e.1.now
  first_found p xs [] e is long at = absurd (omega (arith, long))
  first_found p xs (f ∷ run) e is long at =
      find_first p xs ∙ ap (first_in p) (sym is) ∙ ap (λ (g : Bor (List ℕ) × Bor T). Some g.1.now) (sym at)

  -- a test of some of what is lent
  pub any_lent : (q : T → Bool) (run : List (Bor (List ℕ) × Bor T)) → list_any (λ e. q e.1.now) run ≡ list_any (λ e. q e.1) (lent run)
  any_lent q [] = refl
  any_lent q (e ∷ run) = ap (λ b. q e.1.now || b) (any_lent q run)

  any_seen : (q : T → Bool) (entries : List (List ℕ × T)) → list_any (λ e. q e.1) entries ≡ list_any q (seen entries)
  any_seen q [] = refl
  any_seen q (e ∷ entries) = ap (λ b. q e.1 || b) (any_seen q entries)

  any_kept : (p q : T → Bool) (xs : List T) → list_any q (filter p xs) ≡ list_any (λ x. p x && q x) xs
  any_kept p q [] = refl
  any_kept p q (x ∷ xs) = any_kept-cases (p x) (any_kept p q xs)
    where
      any_kept-cases : (b : Bool) → list_any q (filter p xs) ≡ list_any (λ x. p x && q x) xs
          → list_any q (cond b (x ∷ filter p xs) (filter p xs)) ≡ ((b && q x) || list_any (λ x. p x && q x) xs)
      any_kept-cases true e = ap (λ b. q x || b) e
      any_kept-cases false e = e

  any_found : (p q : T → Bool) (xs : List T) (entries : List (List ℕ × T)) → seen entries ≡ filter p xs
      → list_any (λ e. q e.1) entries ≡ list_any (λ x. p x && q x) xs
  any_found p q xs entries is = any_seen q entries ∙ ap (list_any q) is ∙ any_kept p q xs

-- ---- rows by their versions

marks : (problem : Problem) (name : Text) (rows : List VersionRow) (index : List (List ℕ × VersionRow))
    → IsIndexOf (λ row. row.version) rows index → rows ≡ versions_at problem name
    → (version : Text) → list_any (λ e. e.1.deprecated) (with_text version index) ≡ is_deprecated problem name version
unfolding is_deprecated
marks problem name rows index found rows_are version =
    any_found (λ row. bytes_eq row.version version) (λ row. row.deprecated) rows (with_text version index) (found version)
    ∙ ap (list_any (λ row. bytes_eq row.version version && row.deprecated)) rows_are

-- the marks of all choices
pub all_marked : {L : Type 0} (problem : Problem) (name : Text) (rows : List VersionRow) (index : List (List ℕ × VersionRow))
    → IsIndexOf (λ row. row.version) rows index → rows ≡ versions_at problem name → (choices : List (Text × L))
    → map {B = ℕ × L} (λ c. (if list_any (λ e. e.1.deprecated) (with_text c.0 index) then 1 else 0, c.1)) choices
    ≡ map {B = ℕ × L} (λ c. (if is_deprecated problem name c.0 then 1 else 0, c.1)) choices
all_marked {L = L} problem name rows index found rows_are choices =
    ap (λ (is : Text → Bool). map {B = ℕ × L} (λ c. (if is c.0 then 1 else 0, c.1)) choices)
    (λ i version. marks problem name rows index found rows_are version i)
