-- No two of a list keep a rule: the code's steps.
use Prim.Native.Nat.{zero, suc}
use Rattle.std.proofs.Common.{◌≡◌, refl, sym, ap, ◌∙◌, ℕ, ◌-◌, ◌<◌, ◌≤◌, true, false, List, [], ◌∷◌, ◌++◌, map, take, drop, length, nat_lt, arith, append_assoc}
use Rattle.std.proofs.lemmas.Bool.Decides.{nat_tests}
use Rattle.std.proofs.lemmas.List.{map-append, append-nil}
use Rattle.clause_formulas.specs.Statements.{Statement, any_statement}
use Rattle.clause_formulas.specs.Rules.{Proposition}
use Rattle.graph_core.specs.Graphs.{Text}
use Rattle.literal_table.specs.Tables.{Table}
use Rattle.graph_formulas.specs.Facts.{GraphWord}
use Rattle.graph_formulas.specs.Lists.{first_rules, apart_rules, half_length, halves_rule, few_rules}
use Rattle.graph_formulas.specs.Words.{rule_said}
use Rattle.rule_formulas.specs.Terms.{apart_said}

-- an either of equal formulas
pub either-same : (a b c d : Statement) → a ≡ c → b ≡ d → any_statement (a ∷ b ∷ []) ≡ any_statement (c ∷ d ∷ [])
either-same a b c d first second = rw (first, second) refl

module _ {T : Type 0} (path : Text → Text → Statement) (table : Table) (rule : T → Proposition GraphWord) where
  abbrev words : List (Proposition GraphWord) → List Statement
  words rs = map (rule_said path table) rs

  -- an element before none
  pub first_none : (old : List Statement) (x : T) (rest : List T) → length rest ≡ 0 → old ++ words (first_rules rule x rest) ≡ old
  first_none old x [] is = append-nil old
  first_none old x (y ∷ ys) is = absurd (omega (arith, is))

  -- an element before some: none of them beside it
  pub first_some : (old : List Statement) (x : T) (rest : List T) → (length rest ≡ 0 → ⊥)
      → old ++ words (first_rules rule x rest) ≡ old ++ apart_said path table rule x rest ∷ []
  first_some old x [] some = absurd (some refl)
  first_some old x (y ∷ ys) some = refl

  -- one element more
  pub apart_step : (old : List Statement) (x : T) (xs : List T)
      → (old ++ words (first_rules rule x xs)) ++ words (apart_rules rule xs) ≡ old ++ words (apart_rules rule (x ∷ xs))
  apart_step old x xs = append_assoc old (words (first_rules rule x xs)) (words (apart_rules rule xs))
      ∙ ap (λ fs. old ++ fs) (sym (map-append (rule_said path table) (first_rules rule x xs) (apart_rules rule xs)))

  -- a list that may not be halved
  pub few-none : (times : ℕ) (xs : List T) → times ≡ 0 → few_rules times rule xs ≡ apart_rules rule xs
  unfolding few_rules
  few-none times xs e = rw e refl

  -- a short list
  pub few-short : (times : ℕ) (xs : List T) → length xs ≤ 8 → few_rules times rule xs ≡ apart_rules rule xs
  unfolding few_rules
  few-short zero xs le = refl
  few-short (suc times) xs le = let short : nat_lt 8 (length xs) ≡ false = grind (arith, nat_tests) in rw short refl

  few-long : (times : ℕ) (xs : List T) → (times ≡ 0 → ⊥) → 8 < length xs
      → few_rules times rule xs ≡ halves_rule rule (take (half_length xs) xs) (drop (half_length xs) xs)
      ∷ (few_rules (times - 1) rule (take (half_length xs) xs) ++ few_rules (times - 1) rule (drop (half_length xs) xs))
  unfolding few_rules
  few-long zero xs some lt = absurd (some refl)
  few-long (suc times) xs some lt =
      let long : nat_lt 8 (length xs) ≡ true = grind (arith, nat_tests) in
      let less : suc times - 1 ≡ times = omega arith in
      rw (long, less) refl

  -- the halves and what joins them
  pub few-joined : (old one two three : List Statement) (times : ℕ) (xs : List T) (h : Statement) → (times ≡ 0 → ⊥) → 8 < length xs
      → one ≡ old ++ h ∷ [] → h ≡ rule_said path table (halves_rule rule (take (half_length xs) xs) (drop (half_length xs) xs))
      → two ≡ one ++ words (few_rules (times - 1) rule (take (half_length xs) xs))
      → three ≡ two ++ words (few_rules (times - 1) rule (drop (half_length xs) xs))
      → three ≡ old ++ words (few_rules times rule xs)
  few-joined old one two three times xs h some lt pushed halves front back =
      let a = few_rules (times - 1) rule (take (half_length xs) xs) in
      let b = few_rules (times - 1) rule (drop (half_length xs) xs) in
      back ∙ ap (λ fs. fs ++ words b) (front ∙ ap (λ fs. fs ++ words a) pushed)
      ∙ append_assoc (old ++ h ∷ []) (words a) (words b) ∙ append_assoc old (h ∷ []) (words a ++ words b)
      ∙ ap (λ k. old ++ k ∷ (words a ++ words b)) halves
      ∙ ap (λ fs. old ++ rule_said path table (halves_rule rule (take (half_length xs) xs) (drop (half_length xs) xs)) ∷ fs)
      (sym (map-append (rule_said path table) a b))
      ∙ ap (λ rs. old ++ words rs) (sym (few-long times xs some lt))
