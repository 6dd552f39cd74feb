-- Rows of dependencies behind the names that they ask for.
use Rattle.std.proofs.Common.{◌≡◌, refl, sym, ap, ◌∙◌, Bool, true, false, cond, ◌&&◌, List, [], ◌∷◌, ◌++◌, map, filter, Option, Some, None}
use Rattle.std.proofs.lemmas.Bool.Decides.{same_from_decides}
use Rattle.std.specs.Cmp.Lexicographic.{bytes_decides}
use Rattle.std.specs.Str.{bytes_eq}
use Rattle.keyed_lists.specs.Lent.{with_text}
use Rattle.graph_core.specs.Graphs.{Text}
use Rattle.condition_rules.specs.Words.{is_some_and}
use Rattle.recipe_data.specs.declared.recipe.DependRow.{DependRow}
use Rattle.problem.specs.Problems.{Problem}
use Rattle.virtuals.specs.Virtuals.{is_virtual}
use Rattle.graph_formulas.specs.Edges.{names_virtual}
use Rattle.rule_formulas.specs.Named.{named_entry, named_entries, AreNamed}

-- ---- the index

either-way : (p q : Text) → bytes_eq p q ≡ bytes_eq q p
either-way p q = same_from_decides (bytes_eq p q) (bytes_eq q p) (bytes_decides p q)
    (λ e. sym ((bytes_decides q p).0 e), λ e. (bytes_decides q p).1 (sym e))

module _ (text : Text) where
  abbrev pub asks : DependRow → Bool
  asks row = is_some_and row.part.name (bytes_eq text)

  -- the rows behind a text are those that ask for it
  pub behind-text : (rows : List DependRow) → map (λ (e : Text × DependRow). e.1) (with_text text (named_entries rows)) ≡ filter asks rows
  behind-text [] = refl
  behind-text (row ∷ rows) = by-name row.part.name (behind-text rows)
    where
      by-test : (b : Bool) → map (λ (e : Text × DependRow). e.1) (with_text text (named_entries rows)) ≡ filter asks rows
          → (name : Text) → map (λ (e : Text × DependRow). e.1)
          (cond b ((name, row) ∷ with_text text (named_entries rows)) (with_text text (named_entries rows)))
          ≡ cond b (row ∷ filter asks rows) (filter asks rows)
      by-test true rest name = ap (λ l. row ∷ l) rest
      by-test false rest name = rest

      by-name : (o : Option Text) → map (λ (e : Text × DependRow). e.1) (with_text text (named_entries rows)) ≡ filter asks rows
          → map (λ (e : Text × DependRow). e.1) (with_text text (named_entry row o ++ named_entries rows))
          ≡ cond (is_some_and o (bytes_eq text)) (row ∷ filter asks rows) (filter asks rows)
      by-name None rest = rest
      by-name (Some name) rest = by-test (bytes_eq name text) rest name
          ∙ ap (λ (b : Bool). cond b (row ∷ filter asks rows) (filter asks rows)) (either-way name text)

-- what has at each text what the rows have is an index of them
pub named-index : (rows : List DependRow) (entries index : List (Text × DependRow)) → entries ≡ named_entries rows
    → ((text : Text) → with_text text index ≡ with_text text entries) → AreNamed rows index
named-index rows entries index are same text =
    ap (map (λ (e : Text × DependRow). e.1)) (same text ∙ ap (with_text text) are) ∙ behind-text text rows

-- ---- a name that is no virtual

none-kept : (p : DependRow → Bool) (rows : List DependRow) → filter (λ row. false && p row) rows ≡ []
none-kept p [] = refl
none-kept p (row ∷ rows) = none-kept p rows

module _ (problem : Problem) (text : Text) (rows : List DependRow) where
  -- of a virtual each row that asks for it is kept
  pub virtual-kept : is_virtual problem.recipes text ≡ true → filter (asks text) rows ≡ filter (names_virtual problem text) rows
  virtual-kept is = ap (λ (b : Bool). filter (λ (row : DependRow). b && asks text row) rows) (sym is)

  -- of another name none is
  pub virtual-none : is_virtual problem.recipes text ≡ false → [] ≡ filter (names_virtual problem text) rows
  virtual-none is = sym (ap (λ (b : Bool). filter (λ (row : DependRow). b && asks text row) rows) is ∙ none-kept (asks text) rows)
