-- The sort of declared versions, and weights in it.
use Rattle.std.proofs.Common.{◌≡◌, refl, sym, ◌∙◌, ℕ, ◌<◌, Bool, true, false, List, None}
use Rattle.std.specs.Prelude.{find}
use Rattle.std.specs.List.{position_or_len}
use Rattle.std.specs.Str.{bytes_eq}
use Rattle.std.specs.Ordering.{nat_cmp, bool_cmp}
use Rattle.std.specs.declared.cmp.Ordering.{Ordering}
use Rattle.std.specs.declared.cmp.Ordering.TheVariants.{Less, Equal}
use Rattle.std.specs.Cmp.{IsTotalOrder, nat_cmp_is}
use Rattle.std.proofs.lemmas.List.Folds.{find_at}
use Rattle.version_order.specs.Order.{version_cmp}
use Rattle.version_order.specs.Prefix.{is_special}
use Rattle.graph_core.specs.Graphs.{Text}
use Rattle.recipe_data.specs.declared.recipe.VersionRow.{VersionRow}
use Rattle.problem.specs.Problems.{Problem, package_entry_of, versions_at}
use Rattle.graph_rules.specs.Weights.{listed_in, place_of, row_cmp, version_weight}
use Rattle.graph_rules.proofs.Places.{row_cmp_total}
use Rattle.cost_laws.specs.Words.{AreAlike, IsDeclared, list_of, weight_of}
use Rattle.cost_laws.proofs.Fewer.{fewer, fewer-than-all}

-- ---- comparisons of parts

lower : (m n : ℕ) → m < n → nat_cmp m n ≡ Less
lower m n h = sym (nat_cmp_is m n Less h)

level : (m n : ℕ) → m ≡ n → nat_cmp m n ≡ Equal
level m n h = sym (nat_cmp_is m n Equal h)

same-bit : (b c : Bool) → b ≡ c → bool_cmp b c ≡ Equal
same-bit true true e = refl
same-bit true false e = cc
same-bit false true e = cc
same-bit false false e = refl

-- ---- weights

module _ (versions : IsTotalOrder version_cmp) (problem : Problem) (name : Text) where
  abbrev order : VersionRow → VersionRow → Ordering
  order = row_cmp (listed_in (package_entry_of problem name))

  abbrev rows : List VersionRow
  rows = versions_at problem name

  -- the weight of a declared version is its place
  weight-is : (a : VersionRow) → IsDeclared problem name a
      → weight_of problem name a ≡ place_of (listed_in (package_entry_of problem name)) rows a
  unfolding version_weight
  weight-is a here = rw here refl

  -- what comes first in the sort weighs less
  pub sorted : (a b : VersionRow) → IsDeclared problem name a → IsDeclared problem name b → order a b ≡ Less
      → weight_of problem name a < weight_of problem name b
  sorted a b here there below =
      rw (weight-is a here, weight-is b there)
      (fewer (row_cmp_total versions (listed_in (package_entry_of problem name))) a b rows
      (position_or_len (λ (r : VersionRow). bytes_eq r.version a.version) rows)
      (sym (find_at (λ (r : VersionRow). bytes_eq r.version a.version) rows) ∙ here) below)

  -- what is not declared weighs more
  pub declared : (version : Text) (a : VersionRow) → IsDeclared problem name a
      → find (λ row. bytes_eq row.version version) rows ≡ None
      → weight_of problem name a < version_weight problem name version
  unfolding version_weight
  declared version a here none =
      rw (weight-is a here, none)
      (fewer-than-all (row_cmp_total versions (listed_in (package_entry_of problem name))) a rows
      (position_or_len (λ (r : VersionRow). bytes_eq r.version a.version) rows)
      (sym (find_at (λ (r : VersionRow). bytes_eq r.version a.version) rows) ∙ here))

  -- ---- which comes first

  pub by-list : (a b : VersionRow) → list_of problem name a < list_of problem name b → order a b ≡ Less
  unfolding row_cmp
  by-list a b less = rw (lower (list_of problem name a) (list_of problem name b) less) refl

  pub by-preferred : (a b : VersionRow) → list_of problem name a ≡ list_of problem name b → a.preferred ≡ true → b.preferred ≡ false
      → order a b ≡ Less
  unfolding row_cmp
  by-preferred a b list mine yours = rw (level (list_of problem name a) (list_of problem name b) list, mine, yours) refl

  pub by-deprecated : (a b : VersionRow) → list_of problem name a ≡ list_of problem name b → a.preferred ≡ b.preferred
      → a.deprecated ≡ false → b.deprecated ≡ true → order a b ≡ Less
  unfolding row_cmp
  by-deprecated a b list preferred mine yours =
      rw (level (list_of problem name a) (list_of problem name b) list, same-bit b.preferred a.preferred (sym preferred), mine, yours) refl

  pub by-special : (a b : VersionRow) → list_of problem name a ≡ list_of problem name b → a.preferred ≡ b.preferred
      → a.deprecated ≡ b.deprecated → is_special a.version ≡ false → is_special b.version ≡ true → order a b ≡ Less
  unfolding row_cmp
  by-special a b list preferred deprecated mine yours =
      rw (
        level (list_of problem name a) (list_of problem name b) list,
        same-bit b.preferred a.preferred (sym preferred),
        same-bit a.deprecated b.deprecated deprecated,
        mine,
        yours,
      ) refl

  pub by-age : (a b : VersionRow) → AreAlike problem name a b → version_cmp b.version a.version ≡ Less → order a b ≡ Less
  unfolding row_cmp
  by-age a b alike older =
      rw (
        level (list_of problem name a) (list_of problem name b) alike.list,
        same-bit b.preferred a.preferred (sym alike.preferred),
        same-bit a.deprecated b.deprecated alike.deprecated,
        same-bit (is_special a.version) (is_special b.version) alike.special,
        older,
      )
      refl
