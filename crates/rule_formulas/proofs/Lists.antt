-- Lists of what a table offers, and rules that speak of no condition.
use Prim.Native.Nat.{zero, suc}
use Rattle.std.proofs.Common.{◌≡◌, refl, sym, ap, ◌∙◌, ℕ, ◌/◌, Bool, true, false, ◌||◌, List, [], ◌∷◌, ◌++◌, map, filter, Option, Some, None, take, drop, length, nat_lt}
use Rattle.std.proofs.lemmas.List.{map-append}
use Rattle.std.specs.List.{list_any}
use Rattle.std.specs.Borrow.{Bor}
use Rattle.std.specs.Option.{is_some, option_copied, option_to_list}
use Rattle.problem.specs.Closure.{is_filled}
use Rattle.std.specs.Str.{bytes_eq}
use Rattle.std.specs.Prelude.{if◌then◌else◌}
use Rattle.clause_store.specs.declared.Lit.{Lit}
use Rattle.clause_formulas.specs.Statements.{Statement, or, all_statements}
use Rattle.clause_formulas.proofs.RuleLaws.{all_rules-said}
use Rattle.clause_formulas.specs.Rules.{Proposition, in_words}
use Rattle.condition_rules.specs.Worlds.{World}
use Rattle.recipe_data.specs.OfSpecGrammar.Condition.{Condition}
use Rattle.recipe_data.specs.declared.recipe.RequireRow.{RequireRow}
use Rattle.graph_core.specs.Graphs.{Text}
use Rattle.literal_table.specs.Choices.{Choices, choice_values, passing}
use Rattle.literal_table.specs.Tables.{Table}
use Rattle.problem.specs.Problems.{Problem, world_of}
use Rattle.graph_formulas.specs.Facts.{GraphWord, word_said}
use Rattle.graph_formulas.specs.Lists.{some, first_rules, apart_rules, half_length, halves_rule, few_rules, just_one}
use Rattle.graph_formulas.specs.Parts.{holds_rule}
use Rattle.graph_formulas.specs.Words.{names_for, rule_said}
use Rattle.graph_formulas.specs.Terms.{Term, term_said, known_rule}
use Rattle.graph_formulas.specs.Laws.{term_formula}
use Rattle.graph_formulas.specs.Directives.{choice_rule}
use Rattle.word_formulas.proofs.Steps.{both-same}
use Rattle.rule_formulas.specs.Terms.{choice_said}

-- a name that is one of the choices
pub any-offered : (child : Text) (cs : Choices Text)
    → list_any (λ (c : Text × Lit). bytes_eq child c.0) cs ≡ list_any (bytes_eq child) (choice_values cs)
any-offered child [] = refl
any-offered child (c ∷ cs) = rw (any-offered child cs) refl

-- whether some are left of those that pass
kept-any : (text : Text) (cs : Choices Text) → is_filled (passing (bytes_eq text) cs) ≡ list_any (bytes_eq text) (choice_values cs)
kept-any text [] = refl
kept-any text (c ∷ cs) = kept-any-cases (bytes_eq text c.0) (kept-any text cs)
  where
    kept-any-cases : (b : Bool) → is_filled (passing (bytes_eq text) cs) ≡ list_any (bytes_eq text) (choice_values cs)
        → is_filled (if b then c ∷ passing (bytes_eq text) cs else passing (bytes_eq text) cs)
        ≡ (b || list_any (bytes_eq text) (choice_values cs))
    kept-any-cases true rest = refl
    kept-any-cases false rest = rest

filled-option : (o : Option (Text × Lit)) → is_some o ≡ is_filled (option_to_list o)
filled-option None = refl
filled-option (Some c) = refl

pub some-copied : (o : Option (Bor (Text × Lit))) → is_some o ≡ is_some (option_copied o)
some-copied None = refl
some-copied (Some c) = refl

-- a name is one of the choices where one is found
pub any-found : (text : Text) (cs : Choices Text) (o : Option (Text × Lit)) → passing (bytes_eq text) cs ≡ option_to_list o
    → is_some o ≡ list_any (bytes_eq text) (choice_values cs)
any-found text cs o found = filled-option o ∙ ap is_filled (sym found) ∙ kept-any text cs

-- a list in two steps
pub over-mapped : {A B : Type 0} (f : B → Statement) (g : A → B) (xs : List A) → map (λ x. f (g x)) xs ≡ map f (map g xs)
over-mapped f g [] = refl
over-mapped f g (x ∷ xs) = ap (λ l. f (g x) ∷ l) (over-mapped f g xs)

-- what passes a test by a key
pub filter-mapped : {A B : Type 0} (f : B → Statement) (g : A → B) (p : B → Bool) (xs : List A)
    → map (λ x. f (g x)) (filter (λ x. p (g x)) xs) ≡ map f (filter p (map g xs))
filter-mapped f g p [] = refl
filter-mapped f g p (x ∷ xs) = filter-mapped-cases (p (g x)) (filter-mapped f g p xs)
  where
    filter-mapped-cases : (b : Bool) → map (λ x. f (g x)) (filter (λ x. p (g x)) xs) ≡ map f (filter p (map g xs))
        → map (λ x. f (g x)) (if b then x ∷ filter (λ x. p (g x)) xs else filter (λ x. p (g x)) xs)
        ≡ map f (if b then g x ∷ filter p (map g xs) else filter p (map g xs))
    filter-mapped-cases true rest = ap (λ l. f (g x) ∷ l) rest
    filter-mapped-cases false rest = rest

-- rules of what is known
module _ (path : Text → Text → Statement) (condition : Text → Condition → Statement) (table : Table) where
  module _ {T : Type 0} (rule : T → Proposition GraphWord) where
    -- a rule over facts is one over terms: some of a list
    pub some-known : (xs : List T) → rule_said path table (some rule xs) ≡ term_formula path condition table
        (some (λ x. known_rule (rule x)) xs)
    some-known [] = refl
    some-known (x ∷ xs) = ap (λ f. or (rule_said path table (rule x)) f) (some-known xs)

    abbrev words : List (Proposition GraphWord) → List Statement
    words rs = map (rule_said path table) rs

    abbrev terms : List (Proposition Term) → List Statement
    terms rs = map (term_formula path condition table) rs

    abbrev known : T → Proposition Term
    known x = known_rule (rule x)

    both-append : (rs qs : List (Proposition GraphWord)) (ts us : List (Proposition Term)) → words rs ≡ terms ts → words qs ≡ terms us
        → words (rs ++ qs) ≡ terms (ts ++ us)
    both-append rs qs ts us first second = map-append (rule_said path table) rs qs
        ∙ ap (λ fs. fs ++ words qs) first ∙ ap (λ fs. terms ts ++ fs) second ∙ sym (map-append (term_formula path condition table) ts us)

    first-known : (x : T) (xs : List T) → words (first_rules rule x xs) ≡ terms (first_rules known x xs)
    first-known x [] = refl
    first-known x (y ∷ ys) = rw (some-known ys) refl

    apart-known : (xs : List T) → words (apart_rules rule xs) ≡ terms (apart_rules known xs)
    apart-known [] = refl
    apart-known (x ∷ xs) = both-append (first_rules rule x xs) (apart_rules rule xs) (first_rules known x xs) (apart_rules known xs)
        (first-known x xs) (apart-known xs)

    halves-known : (xs ys : List T) → rule_said path table (halves_rule rule xs ys) ≡ term_formula path condition table
        (halves_rule known xs ys)
    halves-known xs ys = rw (some-known xs, some-known ys) refl

    few-known : (times : ℕ) (xs : List T) → words (few_rules times rule xs) ≡ terms (few_rules times known xs)
    unfolding few_rules
    few-known zero xs = apart-known xs
    few-known (suc times) xs =
        let front = take (half_length xs) xs in
        let back = drop (half_length xs) xs in
        elim (nat_lt 8 (length xs)) as (λ b. words
        (if b then halves_rule rule front back ∷ (few_rules times rule front ++ few_rules times rule back) else apart_rules rule xs)
        ≡ terms (if b then halves_rule known front back ∷ (few_rules times known front ++ few_rules times known back) else
        apart_rules known xs)) [
          | true ↦ ap (λ f. f ∷ words (few_rules times rule front ++ few_rules times rule back)) (halves-known front back)
              ∙ ap (λ fs. term_formula path condition table (halves_rule known front back) ∷ fs)
              (both-append (few_rules times rule front) (few_rules times rule back) (few_rules times known front)
              (few_rules times known back) (few-known times front) (few-known times back))
          | false ↦ apart-known xs
        ]

    -- so for exactly one
    pub one-known : (xs : List T) → rule_said path table (just_one rule xs) ≡ term_formula path condition table (just_one known xs)
    one-known xs =
        let times = length xs / 8 in
        both-same _ _ _ _ (some-known xs) (all_rules-said (word_said path table) (few_rules times rule xs)
        ∙ ap all_statements (few-known times xs) ∙ sym (all_rules-said (term_said path condition table) (few_rules times known xs)))

  -- and for a requirement's specs
  pub choice-known : (problem : Problem) (name : Text) (row : RequireRow)
      → choice_said path table (world_of problem) name row ≡ term_formula path condition table
      (choice_rule problem (names_for table) name row)
  choice-known problem name row = choice-known-cases row.one_of
    where
      choice-known-cases : (b : Bool)
          → (if b then rule_said path table (just_one (holds_rule (world_of problem) (names_for table) name) row.specs)
          else rule_said path table (some (holds_rule (world_of problem) (names_for table) name) row.specs))
          ≡ in_words (term_said path condition table)
          (if b then just_one (λ spec. known_rule (holds_rule (world_of problem) (names_for table) name spec)) row.specs
          else some (λ spec. known_rule (holds_rule (world_of problem) (names_for table) name spec)) row.specs)
      choice-known-cases true = one-known (holds_rule (world_of problem) (names_for table) name) row.specs
      choice-known-cases false = some-known (holds_rule (world_of problem) (names_for table) name) row.specs

module _ (path : Text → Text → Statement) (table : Table) (world : World) (name : Text) (row : RequireRow) where
  -- a requirement of one
  pub chosen-one : row.one_of ≡ true → rule_said path table (just_one (holds_rule world (names_for table) name) row.specs)
      ≡ choice_said path table world name row
  chosen-one is = rw is refl

  -- a requirement of some
  pub chosen-some : row.one_of ≡ false → rule_said path table (some (holds_rule world (names_for table) name) row.specs)
      ≡ choice_said path table world name row
  chosen-some is = rw is refl
