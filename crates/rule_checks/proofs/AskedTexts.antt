-- Rows that are found by the names that they ask for.
use Rattle.std.proofs.Common.{◌≡◌, refl, sym, ap, ◌∙◌, ℕ, Bool, true, false, ◌&&◌, ◌||◌, List, [], ◌∷◌, map, filter, cond, Option, Some, None, Bor, unwrap_or}
use Rattle.std.proofs.lemmas.Bool.{and_parts}
use Rattle.std.specs.Cmp.Lexicographic.{bytes_decides}
use Rattle.std.specs.List.{list_any}
use Rattle.std.specs.Str.{bytes_eq}
use Rattle.graph_core.specs.Graphs.{Text}
use Rattle.recipe_data.specs.declared.recipe.DependRow.{DependRow}
use Rattle.condition_rules.specs.Words.{is_some_and}
use Rattle.problem.specs.Problems.{Problem}
use Rattle.graph_rules.specs.Built.{names_virtual}
use Rattle.keyed_lists.specs.Lent.{lent}
use Rattle.rule_checks.specs.Asked.{asked_text}

-- a test of some of what is lent
pub any-lent : {T : Type 0} (test : T → Bool) (run : List (Bor (List ℕ) × Bor T))
    → list_any (λ e. test e.1.now) run ≡ list_any test (map (λ e. e.1) (lent run))
any-lent test [] = refl
any-lent test (e ∷ run) = ap (λ b. test e.1.now || b) (any-lent test run)

module _ {X : Type 0} (p test : X → Bool) (known : (x : X) → test x ≡ true → p x ≡ true) where
  -- none is missed where those that pass the test stay
  any-kept : (xs : List X) → list_any test (filter p xs) ≡ list_any test xs
  any-kept [] = refl
  any-kept (x ∷ xs) = by_tests (p x) (test x) refl (known x) (any-kept xs)
    where
      by_tests : (b t : Bool) → t ≡ test x → (t ≡ true → b ≡ true) → list_any test (filter p xs) ≡ list_any test xs
          → list_any test (cond b (x ∷ filter p xs) (filter p xs)) ≡ (t || list_any test xs)
      by_tests true t at so e = ap (λ b. test x || b) e ∙ ap (λ s. s || list_any test xs) (sym at)
      by_tests false true at so e = absurd (let wrong : false ≡ true = so refl in cc)
      by_tests false false at so e = e

named-text : (name : Text) (asked : Option Text) → is_some_and asked (bytes_eq name) ≡ true → bytes_eq (unwrap_or asked []) name ≡ true
named-text name None is = absurd (cc)
named-text name (Some text) is = (bytes_decides text name).1 (sym ((bytes_decides name text).0 is))

-- a row that asks for a virtual is found by its name
pub any-named : (problem : Problem) (name : Text) (holds : DependRow → Bool) (rows : List DependRow)
    → list_any (λ row. names_virtual problem name row && holds row) (filter (λ row. bytes_eq (asked_text row) name) rows)
    ≡ list_any (λ row. names_virtual problem name row && holds row) rows
any-named problem name holds = any-kept (λ row. bytes_eq (asked_text row) name) (λ row. names_virtual problem name row && holds row)
    (λ row is. named-text name row.part.name (and_parts _ _ (and_parts _ _ is).0).1)
