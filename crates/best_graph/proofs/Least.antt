-- What the least bits of an encoding mean for graphs.
use Rattle.std.proofs.Common.{◌≡◌, refl, sym, ap, subst, ◌∙◌, ℕ, ◌+◌, Bool, true, false, List, [], ◌∷◌, length, inl, inr, arith}
use Rattle.std.specs.Ordering.{is_lt, ordering_reverse}
use Rattle.std.specs.declared.cmp.Ordering.{Ordering}
use Rattle.std.specs.declared.cmp.Ordering.TheVariants.{Less, Equal, Greater}
use Rattle.std.proofs.lemmas.Cmp.{nat_list_cmp_total}
use Rattle.clause_store.specs.declared.Lit.{Lit}
use Rattle.clause_store.specs.Clauses.{Clauses}
use Rattle.proof_log.specs.Certificates.{bits_at, IsBelow}
use Rattle.criteria_totals.specs.Spellings.{compare_bits, compare_numbers}
use Rattle.graph_core.specs.Graphs.{Content}
use Rattle.problem.specs.Nodes.{IsWellFormed}
use Rattle.problem.specs.Problems.{Problem}
use Rattle.problem.specs.Demands.{demands}
use Rattle.graph_rules.specs.Valid.{valid, valid_for}
use Rattle.graph_rules.proofs.ValidLaws.{valid-for_any, valid-from_demands}
use Rattle.graph_rules.specs.Costs.{vector}
use Rattle.graph_rules.specs.Optimal.{IsOptimal, HasNoGraph}
use Rattle.optimum_search.specs.Finding.{MeetsAll}
use Rattle.graph_levels.specs.Rules.{asked_among}
use Rattle.graph_levels.specs.Stages.{Decodes}
use Rattle.graph_encoding.specs.Encodings.{asked_demands, IsValid}
use Rattle.problem_encoding.specs.Encodings.{Encodes}

-- ---- orders

-- bits that compare as greater stand above
pub below-of : (xs ys : List Bool) → length xs ≡ length ys → compare_bits xs ys ≡ Greater → IsBelow ys xs
below-of [] [] same e = absurd (cc)
below-of [] (y ∷ ys) same e = absurd (cc)
below-of (x ∷ xs) [] same e = absurd (omega (arith, same))
below-of (false ∷ xs) (false ∷ ys) same e = inr (refl, below-of xs ys (omega (arith, same)) e)
below-of (false ∷ xs) (true ∷ ys) same e = absurd (cc)
below-of (true ∷ xs) (false ∷ ys) same e = inl (refl, refl)
below-of (true ∷ xs) (true ∷ ys) same e = inr (refl, below-of xs ys (omega (arith, same)) e)

bits-long : (v : ℕ → Bool) (bits : List Lit) → length (bits_at v bits) ≡ length bits
bits-long v [] = refl
bits-long v (l ∷ bits) = omega (arith, bits-long v bits)

-- no vector is smaller than one that is greater than none
not-smaller : (xs ys : List ℕ) → (compare_numbers xs ys ≡ Greater → ⊥) → is_lt (compare_numbers ys xs) ≡ false
not-smaller xs ys least = not-smaller-cases (compare_numbers ys xs) (nat_list_cmp_total.antisymm xs ys)
  where
    not-smaller-cases : (o : Ordering) → compare_numbers xs ys ≡ ordering_reverse o → is_lt o ≡ false
    not-smaller-cases Less turned = absurd (least turned)
    not-smaller-cases Equal turned = refl
    not-smaller-cases Greater turned = refl

-- ---- all demands

abbrev pub all : ℕ → Bool
all d = true

all-asked : {D : Type 0} (id : ℕ) (ds : List D) → asked_among all id ds ≡ ds
all-asked {D = D} id [] = refl
all-asked {D = D} id (d ∷ ds) = ap (λ (es : List D). d ∷ es) (all-asked (id + 1) ds)

module _ (problem : Problem) where
  -- a valid graph is valid for all demands
  pub is-valid : (g : Content) → IsWellFormed g → valid problem g ≡ true → IsValid problem all g
  is-valid g formed ok = (formed, valid-for_any problem g (asked_demands problem all) ok)

  -- and the other way
  pub valid-is : (g : Content) → IsValid problem all g → valid problem g ≡ true
  valid-is g ok = valid-from_demands problem g ok.0.is_graph
      (subst (λ ds. valid_for ds problem g ≡ true) (all-asked 0 (demands problem)) ok.1)

-- ---- encodings

module _ (problem : Problem) (s : Clauses) (bits : List Lit) (decode : (ℕ → Bool) → Content) (e : Encodes problem s bits decode) where
  -- a model with the least bits decodes to an optimal graph
  pub optimal : (v : ℕ → Bool) → MeetsAll v s → ((w : ℕ → Bool) → MeetsAll w s → IsBelow (bits_at w bits) (bits_at v bits) → ⊥)
      → IsWellFormed (decode v) × IsOptimal problem (decode v)
  optimal v meets least =
      let right = e.decodes.sound all v meets in
      let best = e.best all v meets (λ w m above.
      least w m (below-of (bits_at v bits) (bits_at w bits) (bits-long v bits ∙ sym (bits-long w bits)) above)) in (
        right.0,
        record {
          is_valid = valid-is problem (decode v) right;
          least = λ other formed ok.
              not-smaller (vector problem (decode v)) (vector problem other) (best other (is-valid problem other formed ok));
        },
      )

-- where no assignment meets the clauses, no graph is valid
pub nothing : (problem : Problem) (s : Clauses) (decode : (ℕ → Bool) → Content) → Decodes s decode (IsValid problem)
    → ((v : ℕ → Bool) → MeetsAll v s → ⊥) → HasNoGraph problem
nothing problem s decode decodes none g formed = nothing-cases (valid problem g) refl
  where
    nothing-cases : (b : Bool) → valid problem g ≡ b → b ≡ false
    nothing-cases true ok = let w = decodes.complete all g (is-valid problem g formed ok) in absurd (none w.0 w.2)
    nothing-cases false ok = refl
