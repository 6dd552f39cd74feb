-- The words of rules of directives: conditions and paths alone are said in two ways, and alike where paths are told.
use Rattle.std.proofs.Common.{◌≡◌, refl, ◌∙◌, sym, Bool, true, false, not, ◌&&◌, ℕ, zero, suc, List, [], ◌∷◌, map, None}
use Rattle.std.specs.Prelude.{flat_map, if◌then◌else◌, ◌==◌, slice_get, filter}
use Rattle.std.specs.List.{list_all}
use Rattle.std.specs.Str.{bytes_eq}
use Rattle.std.proofs.lemmas.List.Folds.{list_all-append, list_all-map}
use Rattle.std.proofs.lemmas.Bool.{and_parts}
use Rattle.spec_grammar.specs.declared.part.Spec.{Spec}
use Rattle.clause_formulas.specs.Statements.{Statement, eval}
use Rattle.clause_formulas.specs.Rules.{Proposition, fact, if_so}
use Rattle.graph_core.specs.Graphs.{Text, no_kinds}
use Rattle.variant_values.specs.declared.kind.VariantKind.{VariantKind}
use Rattle.variant_values.specs.declared.kind.VariantKind.TheVariants as kinds
use Rattle.graph_core.specs.declared.node.Kinds.{Kinds}
use Rattle.virtuals.specs.Virtuals.{is_virtual}
use Rattle.recipe_data.specs.OfSpecGrammar.Condition.{Condition}
use Rattle.recipe_data.specs.declared.recipe.VariantRow.{VariantRow}
use Rattle.recipe_data.specs.declared.recipe.DependRow.{DependRow}
use Rattle.recipe_data.specs.declared.recipe.ConflictRow.{ConflictRow}
use Rattle.recipe_data.specs.declared.recipe.ProvideRow.{ProvideRow}
use Rattle.recipe_data.specs.declared.recipe.RequireRow.{RequireRow}
use Rattle.problem.specs.Problems.{Problem, world_of, variants_at, depends_at, provides_at, conflicts_at, requirements_at, required_at}
use Rattle.literal_table.specs.Tables.{Table}
use Rattle.graph_formulas.specs.Facts.{GraphWord, word_said, has_edge, has_virtual, provides_as}
use Rattle.graph_formulas.specs.Lists.{◌and◌, settled_test, where_written, one_keeps, each_keeps, some, just_one}
use Rattle.graph_formulas.specs.Words.{names_for}
use Rattle.graph_formulas.specs.Parts.{holds_rule, asked_rule, suits_rule, row_rule}
use Rattle.graph_formulas.specs.Terms.{Term, known, term_said, known_rule, met_rule}
use Rattle.graph_formulas.specs.Directives.{answer_rule, edge_to, edge_rule, suits_asked, constraint_rule, conflict_rule, choice_rule, requirement_rule}
use Rattle.graph_rules.specs.Built.{names_virtual}
use Rattle.graph_formulas.specs.Edges.{asked_child, asks_rule, may_ask, kind_rule, virtual_rule, extra_edge_rule, extra_edges_rule, use_rule, used_rule, of_provider}
use Rattle.graph_formulas.specs.Together.{no_other_rule, by_row_rule, together_rule}
use Rattle.graph_formulas.specs.Variants.{count_rule, definitions, variant_rule, variants_rule, allows_rule}
use Rattle.graph_formulas.specs.Demands.{directive_rule, required_rule}
use Rattle.graph_encoding.specs.Formulas.{PathFormulas}
use Rattle.valid_models.specs.Targets.{spec_names, condition_names, choices_at, conditions_at, specs_at, targets_at}
use Rattle.valid_models.proofs.Words.{AllWords, said-alike, given-all, unless-all, named-all, each-all, some-all, each-if, some-if, just-if, last-if}
use Rattle.valid_models.proofs.Mentions.{Alike, all-flat, row-alike, asked-alike, suits-alike, holds-alike}
use Rattle.valid_models.proofs.Lists.{all-filtered, both-all}

module _ (problem : Problem) (v : ℕ → Bool) (t : Table) (path other : PathFormulas) (told : Text → Bool)
    (same : (from to : Text) → told to ≡ true → eval v (path from to) ≡ eval v (other from to))
    (condition another : Text → Condition → Statement)
    (same_met : (name : Text) (when : Condition) → list_all told (condition_names (world_of problem) (names_for t) when) ≡ true
    → eval v (condition name when) ≡ eval v (another name when)) where
  abbrev W : GraphWord → Type 0
  W = Alike v t path other told same

  abbrev packages : Text → List Text
  packages = names_for t

  abbrev pub TermAlike : Term → Type 0
  TermAlike w = eval v (term_said path condition t w) ≡ eval v (term_said other another t w)

  abbrev pub is_told_condition : Condition → Bool
  is_told_condition when = list_all told (condition_names (world_of problem) (names_for t) when)

  abbrev pub is_told_spec : Spec → Bool
  is_told_spec spec = list_all told (spec_names (world_of problem) (names_for t) spec)

  pub known-alike : (rule : Proposition GraphWord) → AllWords W rule → TermAlike (known rule)
  known-alike rule h = said-alike v (word_said path t) (word_said other t) rule h

  spec-alike : (name : Text) (spec : Spec) → is_told_spec spec ≡ true → TermAlike (known (holds_rule (world_of problem) packages name spec))
  spec-alike name spec e = known-alike (holds_rule (world_of problem) packages name spec)
      (holds-alike v t path other told same (world_of problem) packages name spec e)

  -- ---- rows

  edge-alike : (name : Text) (row : DependRow) → is_told_condition row.when ≡ true
      → AllWords TermAlike (edge_rule problem packages name row)
  edge-alike name row e = (
    same_met name row.when e,
    known-alike (edge_to problem packages name row)
        (named-all W (λ asked. asked_rule (world_of problem) packages asked (answer_rule problem packages name row asked))
        (λ asked. asked-alike v t path other told same (world_of problem) packages asked (answer_rule problem packages name row asked)
        (λ child. answered asked child (is_virtual problem.recipes asked))) row.part.name),
  )
    where
      answered : (asked child : Text) (b : Bool)
          → AllWords W (if b then fact (has_edge name child row.kinds) and fact (has_virtual name child asked)
          else fact (has_edge name child row.kinds))
      answered asked child true = (refl, refl)
      answered asked child false = refl

  constraint-alike : (name : Text) (row : DependRow) → is_told_condition row.when ≡ true
      → AllWords TermAlike (constraint_rule problem packages name row)
  constraint-alike name row e = (
    same_met name row.when e,
    known-alike (suits_asked problem packages row)
        (named-all W (λ asked. asked_rule (world_of problem) packages asked (suits_rule (world_of problem) row.part asked))
        (λ asked. asked-alike v t path other told same (world_of problem) packages asked (suits_rule (world_of problem) row.part asked)
        (suits-alike v t path other told same (world_of problem) packages row.part asked)) row.part.name),
  )

  conflict-alike : (name : Text) (row : ConflictRow) → is_told_condition row.when ≡ true → is_told_spec row.spec ≡ true
      → AllWords TermAlike (conflict_rule problem packages name row)
  conflict-alike name row e f = (same_met name row.when e, spec-alike name row.spec f)

  choice-alike : (name : Text) (row : RequireRow) → list_all is_told_spec row.specs ≡ true
      → AllWords TermAlike (choice_rule problem packages name row)
  choice-alike name row e = choice-alike-cases row.one_of
    where
      choice-alike-cases : (b : Bool) → AllWords TermAlike
          (if b then just_one (λ spec. known_rule (holds_rule (world_of problem) packages name spec)) row.specs
          else some (λ spec. known_rule (holds_rule (world_of problem) packages name spec)) row.specs)
      choice-alike-cases true = just-if TermAlike (λ spec. known_rule (holds_rule (world_of problem) packages name spec)) is_told_spec
          (spec-alike name) row.specs e
      choice-alike-cases false = some-if TermAlike (λ spec. known_rule (holds_rule (world_of problem) packages name spec)) is_told_spec
          (spec-alike name) row.specs e

  requirement-alike : (name : Text) (row : RequireRow) → is_told_condition row.when ≡ true → list_all is_told_spec row.specs ≡ true
      → AllWords TermAlike (requirement_rule problem packages name row)
  requirement-alike name row e f = (same_met name row.when e, choice-alike name row f)

  count-all : (name variant : Text) (kind : VariantKind) → AllWords W (count_rule name variant kind)
  count-all name variant kinds.Bool = refl
  count-all name variant kinds.Single = refl
  count-all name variant kinds.Multi = refl

  -- ---- all rows of a package

  record ToldRows (name : Text) : Type 0 where
    variants : list_all (λ row. is_told_condition row.when) (variants_at problem name) ≡ true
    depends : list_all (λ row. is_told_condition row.when) (depends_at problem name) ≡ true
    conflicts : list_all (λ row. is_told_condition row.when) (conflicts_at problem name) ≡ true
    requirements : list_all (λ row. is_told_condition row.when) (requirements_at problem name) ≡ true
    required : list_all (λ row. is_told_condition row.when) (required_at problem name) ≡ true
    conflict_specs : list_all (λ row. is_told_spec row.spec) (conflicts_at problem name) ≡ true
    requirement_specs : list_all (λ row. list_all is_told_spec row.specs) (requirements_at problem name) ≡ true
    required_specs : list_all (λ row. list_all is_told_spec row.specs) (required_at problem name) ≡ true

  told-rows : (name : Text) → list_all told (targets_at problem t name) ≡ true → ToldRows name
  told-rows name e =
      let both = and_parts _ _
      (sym (list_all-append told (flat_map (condition_names (world_of problem) packages) (conditions_at problem name))
      (flat_map (spec_names (world_of problem) packages) (specs_at problem name))) ∙ e) in
      let whens = sym (all-flat told (condition_names (world_of problem) packages) (conditions_at problem name)) ∙ both.0 in
      let specs = sym (all-flat told (spec_names (world_of problem) packages) (specs_at problem name)) ∙ both.1 in
      let a = and_parts _ _ (sym (list_all-append is_told_condition (map (λ row. row.when) (variants_at problem name)) _) ∙ whens) in
      let b = and_parts _ _ (sym (list_all-append is_told_condition (map (λ row. row.when) (depends_at problem name)) _) ∙ a.1) in
      let c = and_parts _ _ (sym (list_all-append is_told_condition (map (λ row. row.when) (conflicts_at problem name)) _) ∙ b.1) in
      let s = and_parts _ _ (sym (list_all-append is_told_spec (map (λ row. row.spec) (conflicts_at problem name)) _) ∙ specs) in
      let r = and_parts _ _
      (sym (list_all-append (λ row. is_told_condition row.when) (requirements_at problem name) (required_at problem name))
      ∙ sym (list_all-map is_told_condition (λ row. row.when) (choices_at problem name)) ∙ c.1) in
      let q = and_parts _ _
      (sym (list_all-append (λ row. list_all is_told_spec row.specs) (requirements_at problem name) (required_at problem name))
      ∙ sym (all-flat is_told_spec (λ row. row.specs) (choices_at problem name)) ∙ s.1) in
      record {
        variants = sym (list_all-map is_told_condition (λ row. row.when) (variants_at problem name)) ∙ a.0;
        depends = sym (list_all-map is_told_condition (λ row. row.when) (depends_at problem name)) ∙ b.0;
        conflicts = sym (list_all-map is_told_condition (λ row. row.when) (conflicts_at problem name)) ∙ c.0;
        requirements = r.0;
        required = r.1;
        conflict_specs = sym (list_all-map is_told_spec (λ row. row.spec) (conflicts_at problem name)) ∙ s.0;
        requirement_specs = q.0;
        required_specs = q.1;
      }

  module _ (name : Text) (e : list_all told (targets_at problem t name) ≡ true) where
    rows : ToldRows name
    rows = told-rows name e

    pub directive-alike : (number : ℕ) → AllWords TermAlike (directive_rule problem packages number name)
    directive-alike number = (
      (
        each-if TermAlike (λ row. edge_rule problem packages name row and constraint_rule problem packages name row)
            (λ row. is_told_condition row.when)
            (λ row h. (edge-alike name row h, constraint-alike name row h)) (filter (λ row. row.number == number) (depends_at problem name))
            (all-filtered (λ row. is_told_condition row.when) (λ row. row.number == number) (depends_at problem name) rows.depends),
        each-if TermAlike (conflict_rule problem packages name) (λ row. is_told_condition row.when && is_told_spec row.spec)
            (λ row h. let p = and_parts (is_told_condition row.when) (is_told_spec row.spec) h in conflict-alike name row p.0 p.1)
            (filter (λ row. row.number == number) (conflicts_at problem name))
            (all-filtered (λ row. is_told_condition row.when && is_told_spec row.spec) (λ row. row.number == number)
            (conflicts_at problem name)
            (both-all (λ row. is_told_condition row.when) (λ row. is_told_spec row.spec) (conflicts_at problem name) rows.conflicts
            rows.conflict_specs)),
      ),
      each-if TermAlike (requirement_rule problem packages name) (λ row. is_told_condition row.when && list_all is_told_spec row.specs)
          (λ row h. let p = and_parts (is_told_condition row.when) (list_all is_told_spec row.specs) h in
          requirement-alike name row p.0 p.1) (filter (λ row. row.number == number) (requirements_at problem name))
          (all-filtered (λ row. is_told_condition row.when && list_all is_told_spec row.specs) (λ row. row.number == number)
          (requirements_at problem name)
          (both-all (λ row. is_told_condition row.when) (λ row. list_all is_told_spec row.specs) (requirements_at problem name)
          rows.requirements rows.requirement_specs)),
    )

    pub required-alike : (place : ℕ) → AllWords TermAlike (required_rule problem packages place name)
    required-alike place = at-place (required_at problem name) rows.required rows.required_specs place
      where
        at-place : (rs : List RequireRow) → list_all (λ row. is_told_condition row.when) rs ≡ true
            → list_all (λ row. list_all is_told_spec row.specs) rs ≡ true → (k : ℕ)
            → AllWords TermAlike (where_written (slice_get rs k) (requirement_rule problem packages name))
        at-place [] e f k = tt
        at-place (r ∷ rs) e f zero = requirement-alike name r (and_parts _ _ e).0 (and_parts _ _ f).0
        at-place (r ∷ rs) e f (suc k) = at-place rs (and_parts _ _ e).1 (and_parts _ _ f).1 k

    defined : (variant : Text) → list_all (λ row. is_told_condition row.when) (definitions problem name variant) ≡ true
    defined variant = all-filtered (λ row. is_told_condition row.when) (λ row. bytes_eq row.name variant)
        (variants_at problem name) rows.variants

    pub variants-alike : (variants : List Text) → AllWords TermAlike (variants_rule problem variants name)
    variants-alike variants = each-all TermAlike (variant_rule problem name)
        (λ variant. (
          (
            some-if TermAlike (λ row. met_rule name row.when) (λ row. is_told_condition row.when) (λ row h. same_met name row.when h)
                (definitions problem name variant) (defined variant),
            refl,
          ),
          (
            refl,
            last-if TermAlike (λ row. met_rule name row.when) (λ row. known_rule (allows_rule name variant row))
                (λ row. is_told_condition row.when)
                (λ row h. same_met name row.when h) (λ row. known-alike (allows_rule name variant row) (allows-all row variant))
                (definitions problem name variant) (defined variant),
          ),
        ))
        variants
      where
        allows-all : (row : VariantRow) (variant : Text) → AllWords W (allows_rule name variant row)
        allows-all row variant = (refl, count-all name variant row.kind)

    kind-alike : (child : Text) (kinds : Kinds) (has : Kinds → Bool) → AllWords TermAlike (kind_rule problem packages kinds has name child)
    kind-alike child kinds has = (
      refl,
      some-if TermAlike (asks_rule problem packages name child) (λ row. is_told_condition row.when)
          (λ row h. (
            same_met name row.when h,
            known-alike (one_keeps row.part.name (asked_child (world_of problem) child))
                (named-all W (asked_child (world_of problem) child) (λ asked. asked-all asked (is_virtual problem.recipes asked))
                row.part.name),
          ))
          (filter (λ row. has row.kinds && may_ask problem packages child row) (depends_at problem name))
          (all-filtered (λ row. is_told_condition row.when) (λ row. has row.kinds && may_ask problem packages child row)
          (depends_at problem name) rows.depends),
    )
      where
        asked-all : (asked : Text) (b : Bool) → AllWords W
            (if b then fact (provides_as asked child) else settled_test (bytes_eq asked child))
        asked-all asked true = refl
        asked-all asked false = given-all W (bytes_eq asked child)

    virtual-alike : (child virtual : Text) → AllWords TermAlike (virtual_rule problem packages name child virtual)
    virtual-alike child virtual = (
      refl,
      (
        refl,
        some-if TermAlike (λ row. met_rule name row.when) (λ row. is_told_condition row.when) (λ row h. same_met name row.when h)
            (filter (names_virtual problem virtual) (depends_at problem name))
            (all-filtered (λ row. is_told_condition row.when) (names_virtual problem virtual) (depends_at problem name) rows.depends),
      ),
    )

    pub extra-edges-alike : (virtuals : Text → List Text) (children : List Text)
        → AllWords TermAlike (extra_edges_rule problem packages virtuals children name)
    extra-edges-alike virtuals children = each-all TermAlike (λ child. extra_edge_rule problem packages (virtuals child) name child)
        (λ child. (
          (
            (
              kind-alike child (record no_kinds { build = true }) (λ kinds. kinds.build),
              kind-alike child (record no_kinds { link = true })
                  (λ kinds. kinds.link),
            ),
            kind-alike child (record no_kinds { run = true }) (λ kinds. kinds.run),
          ),
          each-all TermAlike (virtual_rule problem packages name child) (virtual-alike child) (virtuals child),
        )) children

  pub used-alike : (may : Text × Text → Text → Bool) (names : List Text) (p : Text × Text) → AllWords TermAlike (used_rule may names p)
  used-alike may names p = some-all TermAlike (use_rule p) (λ name. refl) (filter (may p) names)

  pub of-provider-alike : (rule : Text × Text → Proposition Term) → ((p : Text × Text) → AllWords TermAlike (rule p)) → (virtual : Text)
      → AllWords TermAlike (of_provider packages rule virtual)
  of-provider-alike rule h virtual = each-all TermAlike (λ p. if_so (known_rule (fact (provides_as virtual p))) (rule (virtual, p)))
      (λ p. (refl, h (virtual, p))) (packages virtual)

  -- ---- providers by directives that name several virtuals
  no_other-alike : (name virtual : Text) → AllWords TermAlike (no_other_rule packages name virtual)
  no_other-alike name virtual = of-provider-alike (λ q. known_rule (settled_test (bytes_eq q.1 name)))
      (λ q. known-alike (settled_test (bytes_eq q.1 name)) (given-all W (bytes_eq q.1 name))) virtual

  by_row-alike : (p : Text × Text) (row : ProvideRow) → AllWords TermAlike (by_row_rule problem packages p row)
  by_row-alike p row = (
    known-alike (row_rule (world_of problem) p.1 p.0 None row) (row-alike v t path other told same (world_of problem) p.1 p.0 None row),
    each-all TermAlike (λ listed. no_other_rule packages p.1 listed.name) (λ listed. no_other-alike p.1 listed.name)
        (filter (λ listed. listed.number == row.number) (provides_at problem p.1)),
  )

  pub together-alike : (p : Text × Text) → AllWords TermAlike (together_rule problem packages p)
  together-alike p =
      let rows = filter (λ row. bytes_eq row.name p.0) (provides_at problem p.1) in
      unless-all TermAlike (not problem.settings.provided_together) (each_keeps (by_row_rule problem packages p) rows)
      (each-all TermAlike (by_row_rule problem packages p) (by_row-alike p) rows)
