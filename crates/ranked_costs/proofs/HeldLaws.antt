-- The values of conditions of definitions of variants say where these hold.
use Prim.Native.Nat.{suc, zero}
use Rattle.std.proofs.Common.{◌≡◌, refl, sym, ap, subst, ◌∙◌, Bool, true, false, cond, ◌||◌, ℕ, Some, List, [], ◌∷◌, ◌++◌, map, flat_map, length, take, drop, arith, append_assoc}
use Rattle.std.specs.Prelude.{find}
use Rattle.std.specs.Str.{bytes_eq}
use Rattle.std.proofs.Math.Seq.{take-append_seam, drop-append_seam}
use Rattle.std.proofs.lemmas.Bool.{false≢true}
use Rattle.std.proofs.lemmas.List.{map-append, length-map, take-map, drop-map}
use Rattle.std.proofs.lemmas.List.Concat.{flat_map-cons}
use Rattle.std.proofs.lemmas.Simd.{map-map}
use Rattle.clause_formulas.specs.Statements.{Statement, eval}
use Rattle.clause_formulas.specs.declared.defined.Defined.{Defined}
use Rattle.clause_formulas.specs.Drafts.{statement_of, statement_at}
use Rattle.clause_formulas.specs.Gated.{Gated}
use Rattle.clause_formulas.specs.Built.{define_in, define_all_in}
use Rattle.graph_core.specs.Graphs.{Text, Content}
use Rattle.recipe_data.specs.OfSpecGrammar.Condition.{Condition}
use Rattle.condition_rules.specs.Words.{is_one_text}
use Rattle.condition_rules.specs.Holds.{all_hold}
use Rattle.problem.specs.Problems.{Problem, world_of, variants_at, depends_at, conflicts_at, requirements_at, required_at}
use Rattle.graph_rules.proofs.Lists.{bytes_eq-same}
use Rattle.valid_models.specs.Targets.{choices_at, conditions_at}
use Rattle.valid_models.specs.Joined.{holds_at}
use Rattle.term_builder.specs.Held.{defined_in, held_in}
use Rattle.ranked_costs.specs.Given.{passed, held_from}

-- each formula has a value
pub as-many : (s : Gated) (fs : List Statement) → length (define_all_in s fs).answer ≡ length fs
as-many s [] = refl
as-many s (f ∷ fs) = ap (λ k. suc k) (as-many (define_in s f).state fs)

seam-take : (k : ℕ) (xs ys : List Bool) → length xs ≡ k → take k (xs ++ ys) ≡ xs
seam-take k xs ys e = ap (λ j. take j (xs ++ ys)) (sym e) ∙ take-append_seam xs ys

seam-drop : (k : ℕ) (xs ys : List Bool) → length xs ≡ k → drop k (xs ++ ys) ≡ ys
seam-drop k xs ys e = ap (λ j. drop j (xs ++ ys)) (sym e) ∙ drop-append_seam xs ys

module _ (v : ℕ → Bool) (problem : Problem) (graph : Content) where
  abbrev said : Defined → Bool
  said d = eval v (statement_of d)

  -- where conditions hold at a name
  abbrev tests : Text → List Condition → List Bool
  tests name conditions = map (λ when. all_hold (world_of problem) when graph name) conditions

  -- whether the condition holds of the graph at the name
  abbrev pub tested : Text × Condition → Bool
  tested c = all_hold (world_of problem) c.1 graph c.0

  -- each condition of the packages of these names, beside its name
  abbrev pub listed : List Text → List (Text × Condition)
  listed names = flat_map (λ name. map (λ when. (name, when)) (conditions_at problem name)) names

  -- values of conditions say where these hold
  pub told : (values : List Defined) (cs : List (Text × Condition)) → length values ≡ length cs
      → ((k : ℕ) → eval v (statement_at values k) ≡ holds_at problem cs k graph) → map said values ≡ map tested cs
  told [] [] e h = refl
  told [] (c ∷ cs) e h = absurd (omega (arith, e))
  told (d ∷ ds) [] e h = absurd (omega (arith, e))
  told (d ∷ ds) (c ∷ cs) e h = let less : length ds ≡ length cs = omega (arith, e) in λ i. h zero i ∷ told ds cs less (λ k. h (suc k)) i

  module _ (name : Text) where
    abbrev variants : List Bool
    variants = tests name (map (λ row. row.when) (variants_at problem name))

    abbrev depends : List Bool
    depends = tests name (map (λ row. row.when) (depends_at problem name))

    abbrev conflicts : List Bool
    conflicts = tests name (map (λ row. row.when) (conflicts_at problem name))

    abbrev requirements : List Bool
    requirements = tests name (map (λ row. row.when) (requirements_at problem name))

    abbrev required : List Bool
    required = tests name (map (λ row. row.when) (required_at problem name))

    abbrev choices : List Bool
    choices = tests name (map (λ row. row.when) (choices_at problem name))

    -- those of the recipe come before those of the settings
    apart : (rest : List Bool) → choices ++ rest ≡ requirements ++ (required ++ rest)
    apart rest =
        ap (λ xs. xs ++ rest) (ap (tests name) (map-append (λ row. row.when) (requirements_at problem name) (required_at problem name))
        ∙ map-append _ (map (λ row. row.when) (requirements_at problem name)) (map (λ row. row.when) (required_at problem name)))
        ∙ append_assoc requirements required rest

    parts : (rest : List Bool) → tests name (conditions_at problem name) ++ rest ≡ variants
        ++ (depends ++ (conflicts ++ (choices ++ rest)))
    parts rest =
        ap (λ xs. xs ++ rest) (map-append _ (map (λ row. row.when) (variants_at problem name)) _
        ∙ ap (λ xs. variants ++ xs) (map-append _ (map (λ row. row.when) (depends_at problem name)) _
        ∙ ap (λ xs. depends ++ xs) (map-append _ (map (λ row. row.when) (conflicts_at problem name)) _)))
        ∙ append_assoc variants (depends ++ (conflicts ++ choices)) rest
        ∙ ap (λ xs. variants ++ xs) (append_assoc depends (conflicts ++ choices) rest
        ∙ ap (λ xs. depends ++ xs) (append_assoc conflicts choices rest))

    module _ (values : List Defined) (rest : List Bool) (e : map said values ≡ tests name (conditions_at problem name) ++ rest) where
      first-are : map said (take (length (variants_at problem name)) values)
          ≡ map (λ row. all_hold (world_of problem) row.when graph name) (variants_at problem name)
      first-are =
          sym (take-map said (length (variants_at problem name)) values) ∙ ap (take (length (variants_at problem name))) (e ∙ parts rest)
          ∙ seam-take (length (variants_at problem name)) variants _ (length-map _ _ ∙ length-map (variants_at problem name) _)
          ∙ map-map _ _ (variants_at problem name)

      rest-is : map said (passed problem name values) ≡ rest
      rest-is =
          let a = length (variants_at problem name) in
          let b = length (depends_at problem name) in
          let c = length (conflicts_at problem name) in
          let d = length (requirements_at problem name) in
          let k = length (required_at problem name) in
          let one : map said (drop a values) ≡ depends ++ (conflicts ++ (choices ++ rest)) =
          sym (drop-map said a values) ∙ ap (drop a) (e ∙ parts rest)
          ∙ seam-drop a variants _ (length-map _ _ ∙ length-map (variants_at problem name) _) in
          let two : map said (drop b (drop a values)) ≡ conflicts ++ (choices ++ rest) =
          sym (drop-map said b (drop a values)) ∙ ap (drop b) one
          ∙ seam-drop b depends _ (length-map _ _ ∙ length-map (depends_at problem name) _) in
          let three : map said (drop c (drop b (drop a values))) ≡ choices ++ rest =
          sym (drop-map said c (drop b (drop a values))) ∙ ap (drop c) two
          ∙ seam-drop c conflicts _ (length-map _ _ ∙ length-map (conflicts_at problem name) _) in
          let four : map said (drop d (drop c (drop b (drop a values)))) ≡ required ++ rest =
          sym (drop-map said d (drop c (drop b (drop a values)))) ∙ ap (drop d) (three ∙ apart rest)
          ∙ seam-drop d requirements _ (length-map _ _ ∙ length-map (requirements_at problem name) _) in
          sym (drop-map said k (drop d (drop c (drop b (drop a values))))) ∙ ap (drop k) four
          ∙ seam-drop k required rest (length-map _ _ ∙ length-map (required_at problem name) _)

  -- what is given for a name says where its definitions' conditions hold
  pub held-says : (names : List Text) (values : List Defined) (name : Text) → map said values ≡ map tested (listed names)
      → is_one_text names name ≡ true
      → map (eval v) (held_in (held_from problem names values) name)
      ≡ map (λ row. all_hold (world_of problem) row.when graph name) (variants_at problem name)
  held-says [] values name e there = absurd (false≢true there)
  held-says (n ∷ ns) values name e there =
      let split : map said values ≡ tests n (conditions_at problem n) ++ map tested (listed ns) =
      e ∙ ap (map tested) (flat_map-cons (λ name. map (λ when. (name, when)) (conditions_at problem name)) n ns)
      ∙ map-append tested (map (λ when. (n, when)) (conditions_at problem n)) (listed ns)
      ∙ ap (λ xs. xs ++ map tested (listed ns)) (map-map tested (λ when. (n, when)) (conditions_at problem n)) in
      held-says-cases (bytes_eq name n) refl split there
      (held-says ns (passed problem n values) name (rest-is n values (map tested (listed ns)) split))
    where
      held-says-cases : (b : Bool) → bytes_eq name n ≡ b → map said values ≡ tests n (conditions_at problem n) ++ map tested (listed ns)
          → (bytes_eq name n || is_one_text ns name) ≡ true
          → (is_one_text ns name ≡ true → map (eval v) (held_in (held_from problem ns (passed problem n values)) name)
          ≡ map (λ row. all_hold (world_of problem) row.when graph name) (variants_at problem name))
          → map (eval v) (held_in (held_from problem (n ∷ ns) values) name)
          ≡ map (λ row. all_hold (world_of problem) row.when graph name) (variants_at problem name)
      held-says-cases true is split there later =
          let shape : Bool → List Bool =
          λ b. map (eval v) (map statement_of (defined_in (cond b (Some (n, take (length (variants_at problem n)) values))
          (find (λ h. bytes_eq name h.0) (held_from problem ns (passed problem n values)))))) in
          ap shape is ∙ subst (λ m. map (eval v) (map statement_of (take (length (variants_at problem n)) values))
          ≡ map (λ row. all_hold (world_of problem) row.when graph m) (variants_at problem m)) (sym (bytes_eq-same name n is))
          (map-map (eval v) statement_of (take (length (variants_at problem n)) values) ∙ first-are n values (map tested (listed ns)) split)
      held-says-cases false is split there later =
          let shape : Bool → List Bool =
          λ b. map (eval v) (map statement_of (defined_in (cond b (Some (n, take (length (variants_at problem n)) values))
          (find (λ h. bytes_eq name h.0) (held_from problem ns (passed problem n values)))))) in
          ap shape is ∙ later (sym (ap (λ b. b || is_one_text ns name) is) ∙ there)
