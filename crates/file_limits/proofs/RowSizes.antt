-- A directive adds no more rows and members than its arguments and its word have bytes.
use Rattle.std.proofs.Common.{◌≡◌, ap, ℕ, ◌+◌, ◌≤◌, eqb, Bool, true, List, [], ◌∷◌, length, map, sum_by, arith, length-append}
use Rattle.std.specs.Prelude.{Result, Ok, Err, Option, Some, None, IfOk, IfSome}
use Rattle.std.specs.List.{find, list_any}
use Rattle.std.specs.Str.{bytes_eq}
use Rattle.std.specs.Cmp.Lexicographic.{bytes_decides}
use Rattle.std.proofs.lemmas.List.{length-map}
use Rattle.std.proofs.lemmas.List.Sums.{sum_by_push}
use Rattle.spec_grammar.specs.declared.part.Part.{Part}
use Rattle.spec_grammar.specs.declared.part.Spec.{Spec}
use Rattle.graph_core.specs.declared.node.Kinds.{Kinds}
use Rattle.recipe_data.specs.OfSpecGrammar.Condition.{Condition}
use Rattle.recipe_data.specs.declared.recipe.VariantRow.{VariantRow}
use Rattle.recipe_data.specs.declared.recipe.Recipe.{Recipe}
use Rattle.recipe_values.specs.declared.segment.Segment.{Segment}
use Rattle.directive_arguments.specs.declared.fault.ArgumentFault.{ArgumentFault}
use Rattle.directive_arguments.specs.declared.directive.Directive.{Directive}
use Rattle.directive_arguments.specs.declared.directive.Directive.TheVariants as directive
use Rattle.directive_arguments.specs.declared.given.Given.{Given}
use Rattle.directive_arguments.specs.declared.given.Options.{Options}
use Rattle.directive_arguments.specs.declared.variant.VariantShape.{VariantShape}
use Rattle.directive_arguments.specs.Table.{takes, directives, directive_of}
use Rattle.directive_arguments.specs.Arguments.{arguments}
use Rattle.directive_arguments.specs.Variants.{shape}
use Rattle.directive_arguments.proofs.ListLaws.{ok_then, any_then}
use Rattle.recipe_reader.specs.declared.fault.RecipeFault.TheVariants as fault
use Rattle.recipe_reader.specs.declared.state.Head.{Head}
use Rattle.recipe_reader.specs.declared.state.State.{State}
use Rattle.recipe_reader.specs.Results.{RecipeStep, argument_step, arguments_at}
use Rattle.recipe_reader.specs.Rows.{add_version, with_variant_row, add_variant, is_passed_over, add_depends, provided, add_provides, add_conflict, add_requirement, into, add_directive}
use Rattle.recipe_reader.specs.Recipes.{may_stand_in, when_of, call}
use Rattle.problem.specs.Limits.{set_members, size_of_recipe}
use Rattle.recipe_lexer.proofs.Keeping.{cond_all}
use Rattle.file_limits.proofs.Sizes.{segment_size}
use Rattle.file_limits.proofs.TokenCounts.{no-more}
use Rattle.file_limits.proofs.ArgumentSizes.{options_size, given_size, arguments-fit}
use Rattle.file_limits.proofs.ShapeSizes.{shape-fits}

-- the recipe has so many rows and members more
abbrev pub GrowsTo : ℕ → RecipeStep Recipe → Type 0
GrowsTo n r = IfOk r (λ recipe. size_of_recipe recipe ≤ n)

abbrev pub state_size : State → ℕ
state_size s = size_of_recipe s.recipe

abbrev pub StateGrowsTo : ℕ → RecipeStep State → Type 0
StateGrowsTo n r = IfOk r (λ s. state_size s ≤ n)

-- ---- rows

version-grows : (place number : ℕ) (v : Option (List ℕ)) (o : Options) (s : State)
    → StateGrowsTo (state_size s + 1) (add_version place number v o s)
version-grows place number None o s = tt
version-grows place number (Some v) o s =
    cond_all (StateGrowsTo (state_size s + 1)) (list_any (bytes_eq v) s.declared) (Err (fault.TwiceVersion place)) _ (λ e. tt)
    (λ e. omega (
      arith,
      length-append s.recipe.versions
          (record { version = v; preferred = o.preferred; deprecated = o.deprecated; number = number } ∷ []),
    ))

with-variant : (n place number : ℕ) (name : List ℕ) (o : Option VariantShape) (when : Condition) (recipe : Recipe)
    → IfSome o (λ made. length made.values + length made.default ≤ n + 3)
    → GrowsTo (size_of_recipe recipe + (n + 4)) (with_variant_row place number name o when recipe)
with-variant n place number name None when recipe h = tt
with-variant n place number name (Some made) when recipe h =
    let row : VariantRow = record {
      name = name;
      kind = made.kind;
      values = made.values;
      default = made.default;
      when =
          when;
      number = number;
    } in
    omega (arith, h, length-append recipe.variants (row ∷ []), sum_by_push set_members recipe.variants row)

variant-grows : (place number : ℕ) (name : Option (List ℕ)) (o : Options) (when : Condition) (recipe : Recipe)
    → GrowsTo (size_of_recipe recipe + (options_size o + 4)) (add_variant place number name o when recipe)
variant-grows place number None o when recipe = tt
variant-grows place number (Some name) o when recipe = with-variant (options_size o) place number name (shape o) when recipe (shape-fits o)

depends-grows : (place number : ℕ) (part : Option Part) (kinds : Kinds) (when : Condition) (recipe : Recipe)
    → GrowsTo (size_of_recipe recipe + 1) (add_depends place number part kinds when recipe)
depends-grows place number None kinds when recipe = tt
depends-grows place number (Some p) kinds when recipe =
    cond_all (GrowsTo (size_of_recipe recipe + 1)) (is_passed_over kinds p) (Ok recipe) _ (λ e. omega arith)
    (λ e. omega (arith, length-append recipe.depends (record { part = p; kinds = kinds; when = when; number = number } ∷ [])))

provides-grows : (place number : ℕ) (parts : List Part) (when : Condition) (recipe : Recipe)
    → GrowsTo (size_of_recipe recipe + length parts) (add_provides place number parts when recipe)
provides-grows place number parts when recipe =
    cond_all (GrowsTo (size_of_recipe recipe + length parts)) (eqb (length parts) 0) (Err (fault.BadArgument place)) _ (λ e. tt)
    (λ e. omega (arith, length-append recipe.provides (map (provided number when) parts), length-map parts (provided number when)))

conflict-grows : (place number : ℕ) (spec : Option Spec) (when : Condition) (recipe : Recipe)
    → GrowsTo (size_of_recipe recipe + 1) (add_conflict place number spec when recipe)
conflict-grows place number None when recipe = tt
conflict-grows place number (Some spec) when recipe =
    omega (arith, length-append recipe.conflicts (record { spec = spec; when = when; number = number } ∷ []))

requirement-grows : (place number : ℕ) (specs : List Spec) (one_of : Bool) (when : Condition) (recipe : Recipe)
    → GrowsTo (size_of_recipe recipe + 1) (add_requirement place number specs one_of when recipe)
requirement-grows place number specs one_of when recipe =
    cond_all (GrowsTo (size_of_recipe recipe + 1)) (eqb (length specs) 0) (Err (fault.BadArgument place)) _ (λ e. tt)
    (λ e. omega (arith, length-append recipe.requirements (record { specs = specs; one_of = one_of; when = when; number = number } ∷ [])))

-- ---- directives

into-grows : (m n : ℕ) (s : State) (r : RecipeStep Recipe) → GrowsTo m r → m ≤ n → StateGrowsTo n (into s r)
into-grows m n s (Ok recipe) h le = omega (arith, h, le)
into-grows m n s (Err e) h le = tt

add-grows : (d : Directive) (place number : ℕ) (g : Given) (when : Condition) (s : State)
    → StateGrowsTo (state_size s + (given_size g + 7)) (add_directive d place number g when s)
unfolding add_directive
add-grows directive.Version place number g when s =
    no-more state_size (state_size s + 1) (state_size s + (given_size g + 7))
    (add_version place number g.positional.version g.options s) (version-grows place number g.positional.version g.options s) (omega arith)
add-grows directive.Variant place number g when s =
    into-grows (state_size s + (options_size g.options + 4)) (state_size s + (given_size g + 7)) s
    (add_variant place number g.positional.name g.options when s.recipe)
    (variant-grows place number g.positional.name g.options when s.recipe) (omega arith)
add-grows directive.DependsOn place number g when s =
    into-grows (state_size s + 1) (state_size s + (given_size g + 7)) s
    (add_depends place number g.positional.part g.options.kinds when s.recipe)
    (depends-grows place number g.positional.part g.options.kinds when s.recipe) (omega arith)
add-grows directive.Provides place number g when s =
    into-grows (state_size s + length g.positional.parts) (state_size s + (given_size g + 7)) s
    (add_provides place number g.positional.parts when s.recipe)
    (provides-grows place number g.positional.parts when s.recipe) (omega arith)
add-grows directive.Conflicts place number g when s =
    into-grows (state_size s + 1) (state_size s + (given_size g + 7)) s
    (add_conflict place number g.positional.spec when s.recipe)
    (conflict-grows place number g.positional.spec when s.recipe) (omega arith)
add-grows directive.Requires place number g when s =
    into-grows (state_size s + 1) (state_size s + (given_size g + 7)) s
    (add_requirement place number g.positional.specs g.options.one_of when s.recipe)
    (requirement-grows place number g.positional.specs g.options.one_of when s.recipe) (omega arith)

at-fit : (n : ℕ) (r : Result Given ArgumentFault) → IfOk r (λ g. given_size g ≤ n) → IfOk (argument_step r) (λ g. given_size g ≤ n)
at-fit n (Ok g) h = h
at-fit n (Err e) h = tt

-- a call adds no more than its tokens have
pub call-grows : (bytes : List ℕ) (d : Directive) (place number : ℕ) (segments : List Segment) (around : Option Head) (s : State)
    → StateGrowsTo (state_size s + (sum_by segment_size segments + 7)) (call bytes d place number segments around s)
unfolding call
call-grows bytes d place number segments around s =
    let n : ℕ = sum_by segment_size segments in
    let P : State → Type 0 = λ t. state_size t ≤ state_size s + (n + 7) in
    any_then P (may_stand_in d around place) _ (λ p.
    ok_then (λ (g : Given). given_size g ≤ n) P (arguments_at bytes d segments) _
    (at-fit n (arguments bytes d segments) (arguments-fit bytes d segments)) (λ g h.
    no-more state_size (state_size s + (given_size g + 7)) (state_size s + (n + 7))
    (add_directive d place number g (when_of around g) s) (add-grows d place number g (when_of around g) s) (omega (arith, h))))

-- ---- words of directives

found-holds : {X : Type 0} (P : X → Type 0) (test : X → Bool) → ((x : X) → test x ≡ true → P x) → (xs : List X) → IfSome (find test xs) P
found-holds P test holds [] = tt
found-holds P test holds (x ∷ xs) =
    cond_all (λ o. IfSome o P) (test x) (Some x) (find test xs) (λ e. holds x e) (λ e. found-holds P test holds xs)

long : (d : Directive) → 7 ≤ length (takes d).word
long directive.Version = omega arith
long directive.Variant = omega arith
long directive.DependsOn = omega arith
long directive.Provides = omega arith
long directive.Conflicts = omega arith
long directive.Requires = omega arith

-- the word of a directive has seven bytes at least
pub word-long : (w : List ℕ) → IfSome (directive_of w) (λ d. 7 ≤ length w)
unfolding directive_of
word-long w = found-holds (λ d. 7 ≤ length w) (λ d. bytes_eq w (takes d).word)
    (λ d is. let same = ap length ((bytes_decides w (takes d).word).0 is) in omega (arith, same, long d)) directives
