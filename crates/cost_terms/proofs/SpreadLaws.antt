-- Terms of weights.
use Prim.Native.Nat.{suc, zero}
use Rattle.std.proofs.Common.{◌≡◌, refl, sym, ap, ◌∙◌, Bool, true, false, ℕ, ◌+◌, ◌*◌, ◌/◌, ◌%◌, ◌^◌, ◌<◌, ◌≤◌, List, [], ◌∷◌, map, Option, Some, None, inl, inr, arith, pow-suc}
use Rattle.std.proofs.Math.Nat.{mul-add, mul_comm, mul_assoc}
use borrow.Author.Tests.{ltb-true}
use Rattle.std.specs.Prelude.{◌==◌, nat_lt, if◌then◌else◌}
use Rattle.std.specs.Option.{option_to_list, option_map}
use Rattle.std.specs.List.{list_any}
use Rattle.std.proofs.lemmas.Bool.{cases_Bool}
use Rattle.std.proofs.lemmas.List.Sums.{sum_by-cons}
use Rattle.keyed_lists.specs.Given.{adds_or_none}
use Rattle.clause_store.specs.declared.Lit.{Lit}
use Rattle.clause_store.specs.Lits.{lit_true}
use Rattle.clause_circuits.specs.Cells.{bit}
use Rattle.clause_circuits.specs.Binary.{size}
use Rattle.clause_circuits.proofs.BinaryLaws.{size-is}
use Rattle.clause_formulas.specs.Statements.{eval, atom}
use Rattle.literal_table.specs.Choices.{Choices, chosen, any_choice, weight_of}
use Rattle.literal_table.proofs.Choices.{any-chosen, one-weighs}
use Rattle.cost_terms.specs.declared.weighted.Weighted.{Weighted}
use Rattle.cost_terms.specs.Weighed.{weight_said, sum_said}
use Rattle.cost_terms.specs.Spread.{weighed_choices, is_odd, half_of, digit_terms, plain_terms, greatest, spread_terms}

digit-sum : (unit n : ℕ) → unit * bit (is_odd n) + 2 * unit * (n / 2) ≡ unit * n
digit-sum unit n =
    let whole : n ≡ 2 * (n / 2) + n % 2 = omega arith in
    omega (
      arith,
      mul-add unit (2 * (n / 2)) (n % 2),
      double unit (n / 2),
      ap (λ m. unit * m) whole,
      ap (λ m. unit * m)
          (odd (n % 2) (omega arith)),
    )
  where
    odd : (r : ℕ) → r < 2 → bit (r == 1) ≡ r
    odd zero h = refl
    odd (suc zero) h = refl
    odd (suc (suc r)) h = absurd (omega arith)

    double : (a b : ℕ) → 2 * a * b ≡ a * (2 * b)
    double a b = rw (mul_comm 2 a) (mul_assoc a 2 b)

module _ (v : ℕ → Bool) where
  -- what is chosen of weights is the weight of what is chosen
  pub chosen-weighed : {T : Type 0} (weight : T → ℕ) (choices : Choices T)
      → chosen v (weighed_choices weight choices) ≡ map weight (chosen v choices)
  chosen-weighed weight [] = refl
  chosen-weighed weight (c ∷ cs) = elim (cases_Bool (lit_true v c.1)) [
    | inl l ↦ rw l (ap (λ ns. weight c.0 ∷ ns) (chosen-weighed weight cs))
    | inr l ↦ rw l (chosen-weighed weight cs)
  ]

  -- the weight of the one that is chosen
  pub one-weighed : {T : Type 0} (weight : T → ℕ) (choices : Choices T) (one : Option T) → chosen v choices ≡ option_to_list one
      → chosen v (weighed_choices weight choices) ≡ option_to_list (option_map weight one)
  one-weighed weight choices one is = chosen-weighed weight choices ∙ ap (map weight) is ∙ mapped one
    where
      mapped : (o : Option _) → map weight (option_to_list o) ≡ option_to_list (option_map weight o)
      mapped None = refl
      mapped (Some x) = refl

  -- one formula more
  pub said-cons : (t : Weighted) (ts : List Weighted) → sum_said v (t ∷ ts) ≡ weight_said v t + sum_said v ts
  said-cons t ts = sum_by-cons (weight_said v) t ts

  digits-none : (more unit : ℕ) (choices : Choices ℕ) → chosen v choices ≡ [] → sum_said v (digit_terms more unit choices) ≡ 0
  digits-none zero unit choices is = refl
  digits-none (suc more) unit choices is =
      let t : Weighted = record { weight = unit; formula = any_choice is_odd choices } in
      let digit : eval v (any_choice is_odd choices) ≡ false = any-chosen v is_odd choices ∙ ap (list_any is_odd) is in
      let rest = digits-none more (2 * unit) (weighed_choices half_of choices) (chosen-weighed half_of choices ∙ ap (map half_of) is) in
      said-cons t (digit_terms more (2 * unit) (weighed_choices half_of choices)) ∙ rw (digit, rest) (omega arith)

  digits-one : (more unit n : ℕ) (choices : Choices ℕ) → chosen v choices ≡ n ∷ [] → n < 2 ^ more
      → sum_said v (digit_terms more unit choices) ≡ unit * n
  digits-one zero unit n choices is h = let z : n ≡ 0 = omega arith in rw z (omega arith)
  digits-one (suc more) unit n choices is h =
      let t : Weighted = record { weight = unit; formula = any_choice is_odd choices } in
      let digit : eval v (any_choice is_odd choices) ≡ is_odd n = any-chosen v is_odd choices ∙ ap (list_any is_odd) is
      ∙ or-false (is_odd n) in
      let less : n / 2 < 2 ^ more = omega (arith, pow-suc 2 more) in
      let rest = digits-one more (2 * unit) (n / 2) (weighed_choices half_of choices) (chosen-weighed half_of choices
      ∙ ap (map half_of) is) less in
      said-cons t (digit_terms more (2 * unit) (weighed_choices half_of choices)) ∙ rw (digit, rest) (digit-sum unit n)
    where
      or-false : (b : Bool) → list_any (λ (c : Bool). c) (b ∷ []) ≡ b
      or-false true = refl
      or-false false = refl

  one-atom : (c : ℕ × Lit) → weight_said v (record { weight = c.0; formula = atom c.1 }) ≡ (if lit_true v c.1 then c.0 else 0)
  one-atom c = elim (cases_Bool (lit_true v c.1)) [ inl l ↦ rw l (omega arith) | inr l ↦ rw l (omega arith) ]

  plain-is : (choices : Choices ℕ) → sum_said v (plain_terms choices) ≡ weight_of (λ n. n) v choices
  plain-is [] = refl
  plain-is (c ∷ cs) = said-cons (record { weight = c.0; formula = atom c.1 }) (plain_terms cs)
      ∙ rw (one-atom c, plain-is cs) (sym (sum_by-cons _ c cs))

  below-greatest : (choices : Choices ℕ) (n : ℕ) → chosen v choices ≡ n ∷ [] → n ≤ greatest choices
  below-greatest [] n is = absurd (cc)
  below-greatest (c ∷ cs) n is = elim (cases_Bool (lit_true v c.1)) [
    | inl l ↦ (let first : c.0 ∷ chosen v cs ≡ n ∷ [] = rw l at is in let same : c.0 ≡ n = cc in omega arith)
    | inr l ↦ (let rest : chosen v cs ≡ n ∷ [] = rw l at is in let low = below-greatest cs n rest in omega arith)
  ]

  -- the digits add up to it
  pub spread-sum : (choices : Choices ℕ) (one : Option ℕ) → chosen v choices ≡ option_to_list one
      → sum_said v (spread_terms choices) ≡ adds_or_none (λ n. n) one
  unfolding spread_terms
  spread-sum choices one is = elim (cases_Bool (nat_lt (greatest choices) (2 ^ 63))) [
    | inl small ↦ rw small (by-digits one is (ltb-true (greatest choices) (2 ^ 63) small))
    | inr large ↦ rw large (plain-is choices ∙ one-weighs v (λ n. n) choices one is)
  ]
    where
      by-digits : (one : Option ℕ) → chosen v choices ≡ option_to_list one → greatest choices < 2 ^ 63
          → sum_said v (digit_terms (size (greatest choices)) 1 choices) ≡ adds_or_none (λ n. n) one
      by-digits None is h = digits-none (size (greatest choices)) 1 choices is
      by-digits (Some n) is h =
          let low = below-greatest choices n is in
          let fits = size-is (greatest choices) h in
          digits-one (size (greatest choices)) 1 n choices is (omega arith) ∙ omega arith

  -- terms of an attribute weigh what the node's weighs
  pub attribute-sum : {N T : Type 0} (weight : T → ℕ) (attribute : N → T) (choices : Choices T) (one : Option N)
      → chosen v choices ≡ option_to_list (option_map attribute one)
      → sum_said v (spread_terms (weighed_choices weight choices)) ≡ adds_or_none (λ node. weight (attribute node)) one
  attribute-sum weight attribute choices one is =
      spread-sum (weighed_choices weight choices) _ (one-weighed weight choices (option_map attribute one) is) ∙ twice one
    where
      twice : (o : Option _) → adds_or_none (λ n. n) (option_map weight (option_map attribute o))
          ≡ adds_or_none (λ node. weight (attribute node)) o
      twice None = refl
      twice (Some x) = refl
