-- Lists that are pushed one after the other are those of the definitions.
use Rattle.std.proofs.Common.{◌≡◌, refl, sym, ap, ◌∙◌, List, [], ◌∷◌, ◌++◌, map}
use Rattle.std.specs.List.{flat_map}
use Rattle.std.proofs.lemmas.List.{append_assoc, map-append}
use Rattle.std.proofs.lemmas.List.Folds.{flat_map-map}
use Rattle.std.proofs.lemmas.Grind.{flat_map-append}
use Rattle.std.proofs.lemmas.Simd.{map-map}
use Rattle.clause_formulas.specs.Statements.{Statement}
use Rattle.spec_grammar.specs.declared.part.Spec.{Spec}
use Rattle.graph_core.specs.Graphs.{Text}
use Rattle.recipe_data.specs.OfSpecGrammar.Condition.{Condition}
use Rattle.problem.specs.Problems.{Problem, world_of, variants_at, depends_at, conflicts_at, requirements_at, required_at}
use Rattle.literal_table.specs.Tables.{Table, block_name}
use Rattle.literal_table.specs.declared.block.Block.{Block}
use Rattle.graph_formulas.specs.Words.{names_for}
use Rattle.graph_encoding.specs.Formulas.{PathFormulas}
use Rattle.valid_models.specs.Targets.{spec_names, condition_names, choices_at, conditions_at, specs_at, targets_at, asked_targets}
use Rattle.valid_models.specs.Joined.{condition_said}
use Rattle.problem_formulas.specs.Asked.{formulas_at}

-- ---- lists

four : {X : Type 0} (o a b c d : List X) → (((o ++ a) ++ b) ++ c) ++ d ≡ o ++ (a ++ (b ++ (c ++ d)))
four o a b c d = append_assoc ((o ++ a) ++ b) c d ∙ append_assoc (o ++ a) b (c ++ d) ∙ append_assoc o a (b ++ (c ++ d))

five : {X : Type 0} (o a b c d e : List X) → ((((o ++ a) ++ b) ++ c) ++ d) ++ e ≡ o ++ (a ++ (b ++ (c ++ (d ++ e))))
five o a b c d e = append_assoc (((o ++ a) ++ b) ++ c) d e ∙ four o a b c (d ++ e)

eight : {X : Type 0} (o a b c d e f g h : List X)
    → (((((((o ++ a) ++ b) ++ c) ++ d) ++ e) ++ f) ++ g) ++ h ≡ o ++ ((a ++ (b ++ (c ++ (d ++ e)))) ++ (f ++ (g ++ h)))
eight o a b c d e f g h = append_assoc ((((((o ++ a) ++ b) ++ c) ++ d) ++ e) ++ f) g h
    ∙ append_assoc (((((o ++ a) ++ b) ++ c) ++ d) ++ e) f (g ++ h)
    ∙ ap (λ xs. xs ++ (f ++ (g ++ h))) (five o a b c d e)
    ∙ append_assoc o (a ++ (b ++ (c ++ (d ++ e)))) (f ++ (g ++ h))

flat-flat : {X Y Z : Type 0} (g : Y → List Z) (f : X → List Y) (xs : List X)
    → flat_map g (flat_map f xs) ≡ flat_map (λ x. flat_map g (f x)) xs
flat-flat g f [] = refl
flat-flat g f (x ∷ xs) = flat_map-append g (f x) (flat_map f xs) ∙ ap (λ zs. flat_map g (f x) ++ zs) (flat-flat g f xs)

module _ (problem : Problem) where
  abbrev when-lists : {Z : Type 0} → (Condition → Z) → Text → List Z
  when-lists g name =
      map (λ row. g row.when) (variants_at problem name) ++ (map (λ row. g row.when) (depends_at problem name)
      ++ (map (λ row. g row.when) (conflicts_at problem name) ++ map (λ row. g row.when) (choices_at problem name)))

  -- what is made of each condition, list by list
  of-conditions : {Z : Type 0} (g : Condition → Z) (name : Text) → when-lists g name ≡ map g (conditions_at problem name)
  of-conditions g name = sym (
      map-append g (map (λ row. row.when) (variants_at problem name)) _
      ∙ ap (λ zs. map g (map (λ row. row.when) (variants_at problem name)) ++ zs)
      (map-append g (map (λ row. row.when) (depends_at problem name)) _
      ∙ ap (λ zs. map g (map (λ row. row.when) (depends_at problem name)) ++ zs)
      (map-append g (map (λ row. row.when) (conflicts_at problem name)) _))
      ∙ ap (λ zs. zs ++ (map g (map (λ row. row.when) (depends_at problem name))
      ++ (map g (map (λ row. row.when) (conflicts_at problem name))
      ++ map g (map (λ row. row.when) (choices_at problem name))))) (map-map g (λ row. row.when) (variants_at problem name))
      ∙ ap (λ zs. map (λ row. g row.when) (variants_at problem name) ++ (zs ++ (map g (map (λ row. row.when) (conflicts_at problem name))
      ++ map g (map (λ row. row.when) (choices_at problem name))))) (map-map g (λ row. row.when) (depends_at problem name))
      ∙ ap (λ zs. map (λ row. g row.when) (variants_at problem name) ++ (map (λ row. g row.when) (depends_at problem name) ++ (zs
      ++ map g (map (λ row. row.when) (choices_at problem name))))) (map-map g (λ row. row.when) (conflicts_at problem name))
      ∙ ap (λ zs. map (λ row. g row.when) (variants_at problem name) ++ (map (λ row. g row.when) (depends_at problem name)
      ++ (map (λ row. g row.when) (conflicts_at problem name) ++ zs))) (map-map g (λ row. row.when) (choices_at problem name)))

-- ---- formulas

module _ (problem : Problem) (t : Table) (path : PathFormulas) where
  -- the conditions of one package
  pub package-formulas : (name : Text) (old : List Statement)
      → ((((old ++ map (λ row. condition_said problem t path name row.when) (variants_at problem name))
      ++ map (λ row. condition_said problem t path name row.when) (depends_at problem name))
      ++ map (λ row. condition_said problem t path name row.when) (conflicts_at problem name))
      ++ map (λ row. condition_said problem t path name row.when) (requirements_at problem name))
      ++ map (λ row. condition_said problem t path name row.when) (required_at problem name)
      ≡ old ++ formulas_at problem t path name
  package-formulas name old =
      append_assoc (((old ++ _) ++ _) ++ _) (map (λ row. condition_said problem t path name row.when) (requirements_at problem name)) _
      ∙ ap (λ zs. (((old ++ map (λ row. condition_said problem t path name row.when) (variants_at problem name))
      ++ map (λ row. condition_said problem t path name row.when) (depends_at problem name))
      ++ map (λ row. condition_said problem t path name row.when) (conflicts_at problem name)) ++ zs)
      (sym (map-append (λ row. condition_said problem t path name row.when) (requirements_at problem name) (required_at problem name)))
      ∙ four old _ _ _ _ ∙ ap (λ zs. old ++ zs) (of-conditions problem (condition_said problem t path name) name)

  -- of all
  pub all-formulas : (blocks : List Block) → flat_map (λ (block : Block). formulas_at problem t path block.name) blocks
      ≡ map (λ (c : Text × Condition). condition_said problem t path c.0 c.1)
      (flat_map (λ name. map (λ when. (name, when)) (conditions_at problem name)) (map block_name blocks))
  all-formulas [] = refl
  all-formulas (b ∷ bs) =
      ap (λ zs. formulas_at problem t path b.name ++ zs) (all-formulas bs)
      ∙ ap (λ zs. zs ++ map (λ (c : Text × Condition). condition_said problem t path c.0 c.1)
      (flat_map (λ name. map (λ when. (name, when)) (conditions_at problem name)) (map block_name bs)))
      (sym (map-map (λ (c : Text × Condition). condition_said problem t path c.0 c.1) (λ when. (b.name, when))
      (conditions_at problem b.name)))
      ∙ sym (map-append (λ (c : Text × Condition). condition_said problem t path c.0 c.1)
      (map (λ when. (b.name, when)) (conditions_at problem b.name)) _)

-- ---- targets

module _ (problem : Problem) (t : Table) where
  abbrev whens : Condition → List Text
  whens = condition_names (world_of problem) (names_for t)

  abbrev specs : Spec → List Text
  specs = spec_names (world_of problem) (names_for t)

  flat-conditions : (name : Text) → flat_map (λ row. whens row.when) (variants_at problem name)
      ++ (flat_map (λ row. whens row.when) (depends_at problem name)
      ++ (flat_map (λ row. whens row.when) (conflicts_at problem name) ++ flat_map (λ row. whens row.when) (choices_at problem name)))
      ≡ flat_map whens (conditions_at problem name)
  flat-conditions name = sym (
      flat_map-append whens (map (λ row. row.when) (variants_at problem name)) _
      ∙ ap (λ zs. flat_map whens (map (λ row. row.when) (variants_at problem name)) ++ zs)
      (flat_map-append whens (map (λ row. row.when) (depends_at problem name)) _
      ∙ ap (λ zs. flat_map whens (map (λ row. row.when) (depends_at problem name)) ++ zs)
      (flat_map-append whens (map (λ row. row.when) (conflicts_at problem name)) _))
      ∙ ap (λ zs. zs ++ (flat_map whens (map (λ row. row.when) (depends_at problem name))
      ++ (flat_map whens (map (λ row. row.when) (conflicts_at problem name))
      ++ flat_map whens (map (λ row. row.when) (choices_at problem name)))))
      (flat_map-map whens (λ row. row.when) (variants_at problem name))
      ∙ ap (λ zs. flat_map (λ row. whens row.when) (variants_at problem name) ++ (zs
      ++ (flat_map whens (map (λ row. row.when) (conflicts_at problem name))
      ++ flat_map whens (map (λ row. row.when) (choices_at problem name)))))
      (flat_map-map whens (λ row. row.when) (depends_at problem name))
      ∙ ap (λ zs. flat_map (λ row. whens row.when) (variants_at problem name) ++ (flat_map (λ row. whens row.when) (depends_at problem name)
      ++ (zs ++ flat_map whens (map (λ row. row.when) (choices_at problem name)))))
      (flat_map-map whens (λ row. row.when) (conflicts_at problem name))
      ∙ ap (λ zs. flat_map (λ row. whens row.when) (variants_at problem name) ++ (flat_map (λ row. whens row.when) (depends_at problem name)
      ++ (flat_map (λ row. whens row.when) (conflicts_at problem name) ++ zs)))
      (flat_map-map whens (λ row. row.when) (choices_at problem name)))

  flat-specs : (name : Text) → flat_map (λ row. specs row.spec) (conflicts_at problem name)
      ++ flat_map (λ row. flat_map specs row.specs) (choices_at problem name)
      ≡ flat_map specs (specs_at problem name)
  flat-specs name = sym (
      flat_map-append specs (map (λ row. row.spec) (conflicts_at problem name)) _
      ∙ ap (λ zs. zs ++ flat_map specs (flat_map (λ row. row.specs) (choices_at problem name)))
      (flat_map-map specs (λ row. row.spec) (conflicts_at problem name))
      ∙ ap (λ zs. flat_map (λ row. specs row.spec) (conflicts_at problem name) ++ zs)
      (flat-flat specs (λ row. row.specs) (choices_at problem name)))

  -- the targets of one package
  pub package-targets : (name : Text) (old : List Text)
      → (((((((old ++ flat_map (λ row. whens row.when) (variants_at problem name))
      ++ flat_map (λ row. whens row.when) (depends_at problem name))
      ++ flat_map (λ row. whens row.when) (conflicts_at problem name)) ++ flat_map (λ row. whens row.when) (requirements_at problem name))
      ++ flat_map (λ row. whens row.when) (required_at problem name)) ++ flat_map (λ row. specs row.spec) (conflicts_at problem name))
      ++ flat_map (λ row. flat_map specs row.specs) (requirements_at problem name))
      ++ flat_map (λ row. flat_map specs row.specs) (required_at problem name)
      ≡ old ++ targets_at problem t name
  package-targets name old = eight old _ _ _ _ _ _ _ _
      ∙ ap (λ zs. old ++ ((flat_map (λ row. whens row.when) (variants_at problem name)
      ++ (flat_map (λ row. whens row.when) (depends_at problem name)
      ++ (flat_map (λ row. whens row.when) (conflicts_at problem name) ++ zs)))
      ++ (flat_map (λ row. specs row.spec) (conflicts_at problem name)
      ++ (flat_map (λ row. flat_map specs row.specs) (requirements_at problem name)
      ++ flat_map (λ row. flat_map specs row.specs) (required_at problem name)))))
      (sym (flat_map-append (λ row. whens row.when) (requirements_at problem name) (required_at problem name)))
      ∙ ap (λ zs. old ++ ((flat_map (λ row. whens row.when) (variants_at problem name)
      ++ (flat_map (λ row. whens row.when) (depends_at problem name) ++ (flat_map (λ row. whens row.when) (conflicts_at problem name)
      ++ flat_map (λ row. whens row.when) (choices_at problem name))))
      ++ (flat_map (λ row. specs row.spec) (conflicts_at problem name) ++ zs)))
      (sym (flat_map-append (λ row. flat_map specs row.specs) (requirements_at problem name) (required_at problem name)))
      ∙ ap (λ zs. old
      ++ (zs ++ (flat_map (λ row. specs row.spec) (conflicts_at problem name)
      ++ flat_map (λ row. flat_map specs row.specs) (choices_at problem name)))) (flat-conditions name)
      ∙ ap (λ zs. old ++ (flat_map whens (conditions_at problem name) ++ zs)) (flat-specs name)

  -- of all
  pub all-targets : flat_map (λ (block : Block). targets_at problem t block.name) t.blocks
      ++ flat_map specs problem.roots ≡ asked_targets problem t
  all-targets = ap (λ zs. zs ++ flat_map specs problem.roots) (sym (flat_map-map (targets_at problem t) block_name t.blocks))
