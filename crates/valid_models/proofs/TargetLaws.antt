-- Paths are told to each target.
use Rattle.std.proofs.Common.{◌≡◌, refl, sym, ap, ◌∙◌, Bool, true, ℕ, List, [], ◌∷◌, Option, Some, None, inl, inr}
use Rattle.std.specs.Prelude.{filter_map, ◌==◌}
use Rattle.std.specs.List.{list_all, list_any}
use Rattle.std.proofs.lemmas.Bool.{or_right, eq-eqb}
use Rattle.graph_core.specs.Graphs.{Text}
use Rattle.variant_values.specs.Texts.{with_texts}
use Rattle.possible_closure.proofs.Lists.{in_texts}
use Rattle.graph_rules.proofs.Lists.{In, In-contains, contains-In, list_all-each, list_all-from}
use Rattle.literal_table.specs.Tables.{Table, table_names}
use Rattle.graph_levels.specs.Numbers.{first_place_in}
use Rattle.graph_levels.specs.Levels.{among_places}
use Rattle.graph_encoding.specs.Encodings.{told_in}

module _ (place : Text → Option ℕ) where
  told-first : (o : Option ℕ) (x : Text) (ys : List Text) → place x ≡ o → among_places (filter_map place (x ∷ ys)) o ≡ true
  told-first None x ys e = refl
  told-first (Some q) x ys e = rw (e, eq-eqb q q refl) refl

  later : (o r : Option ℕ) (y : Text) (ys : List Text) → place y ≡ r → among_places (filter_map place ys) o ≡ true
      → among_places (filter_map place (y ∷ ys)) o ≡ true
  later None r y ys e h = refl
  later (Some q) None y ys e h = rw e h
  later (Some q) (Some k) y ys e h = rw e (or_right (k == q) (list_any (λ j. j == q) (filter_map place ys)) h)

  -- the place of a target is among the places
  pub there : (x : Text) (ys : List Text) → In x ys → among_places (filter_map place ys) (place x) ≡ true
  there x [] none = absurd none
  there x (y ∷ ys) (inl same) = ap (λ z. among_places (filter_map place (z ∷ ys)) (place x)) (sym same) ∙ told-first (place x) x ys refl
  there x (y ∷ ys) (inr more) = later (place x) (place y) y ys refl (there x ys more)

-- all targets are told
pub all-told : (t : Table) (targets : List Text) → list_all (told_in t targets) targets ≡ true
all-told t targets = list_all-from (told_in t targets) targets (λ x at. there (first_place_in (table_names t)) x targets at)

-- what each of a set keeps, each of the list that the set was made of does
pub all-asked : (test : Text → Bool) (texts : List Text) → list_all test (with_texts [] texts) ≡ true → list_all test texts ≡ true
all-asked test texts all = list_all-from test texts (λ x there.
    list_all-each test (with_texts [] texts) x all
    (contains-In (with_texts [] texts) x (in_texts [] texts x (inl (In-contains texts x there)))))
