-- Each directive that is read keeps what the rows of a recipe have.
use Rattle.std.proofs.Common.{◌≡◌, ◌∙◌, ℕ, ◌+◌, eqb, Bool, true, false, cond, List, [], ◌∷◌, ◌++◌, length, map, refl, sym, ap, subst}
use Rattle.std.specs.Prelude.{Ok, Err, Option, Some, None, IfOk, IfSome, IsSome}
use Rattle.std.specs.List.{list_any, AllByRecursion}
use Rattle.std.specs.Str.{bytes_eq}
use Rattle.std.proofs.lemmas.List.{map-append}
use Rattle.spec_grammar.specs.Signs.{IsName}
use Rattle.spec_grammar.specs.declared.part.Part.{Part}
use Rattle.spec_grammar.specs.declared.part.Spec.{Spec}
use Rattle.graph_core.specs.declared.node.Kinds.{Kinds}
use Rattle.recipe_data.specs.OfSpecGrammar.Condition.{Condition}
use Rattle.recipe_data.specs.declared.recipe.VersionRow.{VersionRow}
use Rattle.recipe_data.specs.declared.recipe.VariantRow.{VariantRow}
use Rattle.recipe_data.specs.declared.recipe.DependRow.{DependRow}
use Rattle.recipe_data.specs.declared.recipe.ProvideRow.{ProvideRow}
use Rattle.recipe_data.specs.declared.recipe.ConflictRow.{ConflictRow}
use Rattle.recipe_data.specs.declared.recipe.RequireRow.{RequireRow}
use Rattle.recipe_data.specs.declared.recipe.Recipe.{Recipe}
use Rattle.recipe_reader.specs.declared.fault.RecipeFault.{RecipeFault}
use Rattle.recipe_reader.specs.declared.fault.RecipeFault.TheVariants as fault
use Rattle.directive_arguments.specs.declared.given.Options.{Options}
use Rattle.recipe_reader.specs.declared.state.State.{State}
use Rattle.directive_arguments.specs.declared.variant.VariantShape.{VariantShape}
use Rattle.recipe_reader.specs.Results.{RecipeStep}
use Rattle.directive_arguments.specs.Variants.{shape}
use Rattle.recipe_reader.specs.Rows.{add_version, with_variant_row, add_variant, is_passed_over, add_depends, name_in, provided, add_provides, add_conflict, add_requirement, into}
use Rattle.directive_arguments.proofs.ListLaws.{all_append, all_push, all_map}
use Rattle.directive_arguments.specs.Said.{IsLocal, IsNamed, IsShape}
use Rattle.directive_arguments.proofs.ShapeLaws.{shape_is}
use Rattle.recipe_reader.proofs.HeadLaws.{IsHead}
use Rattle.recipe_reader.proofs.VersionLaws.{distinct_push}
use Rattle.recipe_reader.proofs.NumberLaws.{numbered_push, IsClimbing, climbing_append, Differ, differ_first, differ_second, differ_third}
use Rattle.recipe_reader.proofs.KeptRows.{IsVariantRow, IsDependRow, IsProvideRow, KeepsRows, Keeps, rows_more, depend_numbers, conflict_numbers, require_numbers}

-- ---- rows of one directive

abbrev ok : Recipe → RecipeStep Recipe
ok recipe = Ok recipe

name_in_is : (o : Option (List ℕ)) → IsSome o → IfSome o IsName → IsName (name_in o)
name_in_is None some is = absurd cc
name_in_is (Some w) some is = is

numbers_provided : (number : ℕ) (when : Condition) (parts : List Part)
    → map (λ row. row.number) (map (provided number when) parts) ≡ map (λ p. number) parts
numbers_provided number when [] = refl
numbers_provided number when (p ∷ parts) = ap (λ l. number ∷ l) (numbers_provided number when parts)

-- ---- the rows of a recipe with this name, directive by directive

module _ (owner : List ℕ) where
  -- ---- version

  version_keeps : (b : Bool) (place number : ℕ) (v : List ℕ) (o : Options) (s : State) → Keeps owner number s
      → list_any (bytes_eq v) s.declared ≡ b
      → IfOk (cond b (Err (fault.TwiceVersion place)) (Ok (record s {
        declared = s.declared ++ v ∷ [];
        recipe = record s.recipe {
          versions = s.recipe.versions ++
              record { version = v; preferred = o.preferred; deprecated = o.deprecated; number = number } ∷ [];
        };
      }))) (Keeps owner (number + 1))
  version_keeps true place number v o s k e = tt
  version_keeps false place number v o s k e =
      let more = rows_more owner number s.declared s.recipe k.rows in
      let row : VersionRow = record { version = v; preferred = o.preferred; deprecated = o.deprecated; number = number } in record {
        rows = record {
          name = k.rows.name;
          versions = record {
            texts = map-append (λ (r : VersionRow). r.version) s.recipe.versions (row ∷ []) ∙ ap (λ l. l ++ v ∷ []) k.rows.versions.texts;
            distinct = distinct_push s.declared v k.rows.versions.distinct e;
            numbers = numbered_push number (map (λ (r : VersionRow). r.number) s.recipe.versions)
                (map (λ (r : VersionRow). r.number) (s.recipe.versions ++ row ∷ []))
                (map-append (λ (r : VersionRow). r.number) s.recipe.versions (row ∷ [])) k.rows.versions.numbers;
          };
          variants = more.variants;
          depends = more.depends;
          provides = more.provides;
          conflicts = more.conflicts;
          requirements = more.requirements;
          apart = more.apart;
        };
        heads = k.heads;
      }

  -- a version more keeps the rows right
  pub add_version_keeps : (place number : ℕ) (v : Option (List ℕ)) (o : Options) (s : State) → Keeps owner number s
      → IfOk (add_version place number v o s) (Keeps owner (number + 1))
  add_version_keeps place number None o s k = tt
  add_version_keeps place number (Some v) o s k = version_keeps (list_any (bytes_eq v) s.declared) place number v o s k refl

  -- ---- variants

  abbrev pub KeepsWith : ℕ → State → Recipe → Type 0
  KeepsWith next s recipe = KeepsRows owner next s.declared recipe

  with_variant_keeps : (place number : ℕ) (name : List ℕ) (shape : Option VariantShape) (when : Condition) (s : State) → IsName name
      → IfSome shape IsShape → Keeps owner number s → IfOk (with_variant_row place number name shape when s.recipe) (KeepsWith (number + 1) s)
  with_variant_keeps place number name None when s named is k = tt
  with_variant_keeps place number name (Some shape) when s named is k =
      let more = rows_more owner number s.declared s.recipe k.rows in
      let row : VariantRow = record {
        name = name;
        kind = shape.kind;
        values = shape.values;
        default = shape.default;
        when = when;
        number =
            number;
      } in record {
        name = k.rows.name;
        versions = more.versions;
        variants = record {
          each = all_push IsVariantRow s.recipe.variants row k.rows.variants.each (is, named);
          numbers = numbered_push number (map (λ (r : VariantRow). r.number) s.recipe.variants)
              (map (λ (r : VariantRow). r.number) (s.recipe.variants ++ row ∷ []))
              (map-append (λ (r : VariantRow). r.number) s.recipe.variants (row ∷ [])) k.rows.variants.numbers;
        };
        depends = more.depends;
        provides = more.provides;
        conflicts = more.conflicts;
        requirements = more.requirements;
        apart = more.apart;
      }

  -- a variant more keeps the rows right
  pub add_variant_keeps : (place number : ℕ) (name : Option (List ℕ)) (o : Options) (when : Condition) (s : State) → IfSome name IsName
      → Keeps owner number s → IfOk (add_variant place number name o when s.recipe) (KeepsWith (number + 1) s)
  add_variant_keeps place number None o when s named k = tt
  add_variant_keeps place number (Some name) o when s named k =
      with_variant_keeps place number name (shape o) when s named (shape_is o.default o.multi o.values) k

  -- ---- depends_on

  depends_by : (b : Bool) (next : ℕ) (s : State) (recipe more : Recipe) → KeepsWith next s recipe → KeepsWith next s more
      → IfOk (cond b (ok recipe) (ok more)) (KeepsWith next s)
  depends_by true next s recipe more k m = k
  depends_by false next s recipe more k m = m

  -- a dependency more keeps the rows right
  pub add_depends_keeps : (place number : ℕ) (p : Option Part) (kinds : Kinds) (when : Condition) (s : State) → IfSome p IsNamed
      → Keeps owner number s → IfOk (add_depends place number p kinds when s.recipe) (KeepsWith (number + 1) s)
  add_depends_keeps place number None kinds when s named k = tt
  add_depends_keeps place number (Some p) kinds when s named k =
      let more = rows_more owner number s.declared s.recipe k.rows in
      let row : DependRow = record { part = p; kinds = kinds; when = when; number = number } in
      let numbers = map-append (λ (r : DependRow). r.number) s.recipe.depends (row ∷ []) in
      depends_by (is_passed_over kinds p) (number + 1) s s.recipe (record s.recipe { depends = s.recipe.depends ++ row ∷ [] })
      more (record {
        name = k.rows.name;
        versions = more.versions;
        variants = more.variants;
        depends = record {
          each = all_push IsDependRow s.recipe.depends row k.rows.depends.each named.some;
          numbers = numbered_push number (depend_numbers s.recipe) (map (λ (r : DependRow). r.number) (s.recipe.depends ++ row ∷ []))
              numbers k.rows.depends.numbers;
        };
        provides = more.provides;
        conflicts = more.conflicts;
        requirements = more.requirements;
        apart = subst (λ l. Differ (l ++ conflict_numbers s.recipe ++ require_numbers s.recipe)) (sym numbers)
            (differ_first (depend_numbers s.recipe) (conflict_numbers s.recipe) (require_numbers s.recipe) number k.rows.apart
            k.rows.depends.numbers.below k.rows.conflicts.below k.rows.requirements.below);
      })

  -- ---- provides

  unless_empty : (b : Bool) (e : RecipeFault) (next : ℕ) (s : State) (more : Recipe) → KeepsWith next s more
      → IfOk (cond b (Err e) (Ok more)) (KeepsWith next s)
  unless_empty true e next s more k = tt
  unless_empty false e next s more k = k

  -- provided virtuals more keep the rows right
  pub add_provides_keeps : (place number : ℕ) (parts : List Part) (when : Condition) (s : State) → AllByRecursion IsNamed parts
      → AllByRecursion IsLocal when.specs → Keeps owner number s → IfOk (add_provides place number parts when s.recipe) (KeepsWith (number + 1) s)
  add_provides_keeps place number parts when s named local k =
      let more = rows_more owner number s.declared s.recipe k.rows in
      let rows = map (provided number when) parts in
      unless_empty (eqb (length parts) 0) (fault.BadArgument place) (number + 1) s
      (record s.recipe { provides = s.recipe.provides ++ rows }) (record {
        name = k.rows.name;
        versions = more.versions;
        variants = more.variants;
        depends = more.depends;
        provides = record {
          each = all_append IsProvideRow s.recipe.provides rows k.rows.provides.each
              (all_map IsNamed IsProvideRow (provided number when) (λ p is. (local, name_in_is p.name is.some is.name)) parts named);
          numbers = subst (IsClimbing (number + 1)) (sym (map-append (λ (r : ProvideRow). r.number) s.recipe.provides rows
              ∙ ap (λ l. map (λ (r : ProvideRow). r.number) s.recipe.provides ++ l) (numbers_provided number when parts)))
              (climbing_append number (map (λ (r : ProvideRow). r.number) s.recipe.provides) parts more.provides.numbers);
        };
        conflicts = more.conflicts;
        requirements = more.requirements;
        apart = more.apart;
      })

  -- ---- conflicts and requires

  -- a conflict more keeps the rows right
  pub add_conflict_keeps : (place number : ℕ) (spec : Option Spec) (when : Condition) (s : State) → Keeps owner number s
      → IfOk (add_conflict place number spec when s.recipe) (KeepsWith (number + 1) s)
  add_conflict_keeps place number None when s k = tt
  add_conflict_keeps place number (Some spec) when s k =
      let more = rows_more owner number s.declared s.recipe k.rows in
      let row : ConflictRow = record { spec = spec; when = when; number = number } in
      let numbers = map-append (λ (r : ConflictRow). r.number) s.recipe.conflicts (row ∷ []) in record {
        name = k.rows.name;
        versions = more.versions;
        variants = more.variants;
        depends = more.depends;
        provides = more.provides;
        conflicts = numbered_push number (conflict_numbers s.recipe) (map (λ (r : ConflictRow). r.number) (s.recipe.conflicts ++ row ∷ []))
            numbers k.rows.conflicts;
        requirements = more.requirements;
        apart = subst (λ l. Differ (depend_numbers s.recipe ++ l ++ require_numbers s.recipe)) (sym numbers)
            (differ_second (depend_numbers s.recipe) (conflict_numbers s.recipe) (require_numbers s.recipe) number k.rows.apart
            k.rows.depends.numbers.below k.rows.conflicts.below k.rows.requirements.below);
      }

  -- a requirement more keeps the rows right
  pub add_requirement_keeps : (place number : ℕ) (specs : List Spec) (one_of : Bool) (when : Condition) (s : State) → Keeps owner number s
      → IfOk (add_requirement place number specs one_of when s.recipe) (KeepsWith (number + 1) s)
  add_requirement_keeps place number specs one_of when s k =
      let more = rows_more owner number s.declared s.recipe k.rows in
      let row : RequireRow = record { specs = specs; one_of = one_of; when = when; number = number } in
      let numbers = map-append (λ (r : RequireRow). r.number) s.recipe.requirements (row ∷ []) in
      unless_empty (eqb (length specs) 0) (fault.BadArgument place) (number + 1) s
      (record s.recipe { requirements = s.recipe.requirements ++ row ∷ [] }) (record {
        name = k.rows.name;
        versions = more.versions;
        variants = more.variants;
        depends = more.depends;
        provides = more.provides;
        conflicts = more.conflicts;
        requirements = numbered_push number (require_numbers s.recipe)
            (map (λ (r : RequireRow). r.number) (s.recipe.requirements ++ row ∷ [])) numbers k.rows.requirements;
        apart = subst (λ l. Differ (depend_numbers s.recipe ++ conflict_numbers s.recipe ++ l)) (sym numbers)
            (differ_third (depend_numbers s.recipe) (conflict_numbers s.recipe) (require_numbers s.recipe) number k.rows.apart
            k.rows.depends.numbers.below k.rows.conflicts.below k.rows.requirements.below);
      })

  -- ---- the state

  -- a right recipe in a right state is a right state
  pub into_keeps : (next : ℕ) (s : State) (step : RecipeStep Recipe) → AllByRecursion IsHead s.heads → IfOk step (KeepsWith next s)
      → IfOk (into s step) (Keeps owner next)
  into_keeps next s (Ok recipe) heads k = record { rows = k; heads = heads }
  into_keeps next s (Err e) heads k = tt
