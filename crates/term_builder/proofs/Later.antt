-- Conditions of later definitions.
use Prim.Native.Nat.{zero, suc}
use Rattle.std.proofs.Common.{◌≡◌, refl, sym, ap, ◌∙◌, ℕ, ◌-◌, ◌/◌, ◌<◌, List, [], ◌∷◌, ◌++◌, take, drop, length, nat_lt, map, Bor, arith, append_assoc, true, false}
use Rattle.std.proofs.lemmas.Bool.Decides.{nat_tests}
use Rattle.std.proofs.lemmas.Simd.{map-map}
use Rattle.clause_formulas.specs.Statements.{Statement, both_statements}
use Rattle.graph_core.specs.Graphs.{Text}
use Rattle.std.specs.Str.{bytes_eq}
use Rattle.keyed_lists.specs.Lent.{lent, with_text, IsIndexOf}
use Rattle.keyed_lists.proofs.Lent.{filter_mapped}
use Rattle.cost_terms.specs.Blocks.{any_gated, blocks_of, none_among}
use Rattle.cost_terms.specs.Governing.{Row, of_variant, formulas_of}
use Rattle.term_builder.specs.VariantTerms.{Held, row_said, rows_of, governs}

-- what an index lends for a variant are its definitions
pub run-is : (variant : Text) (held : List Held) (index : List (Text × Held)) (run : List (Bor Text × Bor Held))
    → lent run ≡ with_text variant index → IsIndexOf (λ (h : Held). h.0.name) held index
    → rows_of run ≡ of_variant variant (map row_said held)
run-is variant held index run found is =
    sym (map-map row_said (λ (e : Bor Text × Bor Held). e.1.now) run)
    ∙ ap (map row_said) (sym (map-map (λ (e : Text × Held). e.1) (λ (e : Bor Text × Bor Held). (e.0.now, e.1.now)) run)
    ∙ ap (map (λ (e : Text × Held). e.1)) found ∙ is variant)
    ∙ sym (filter_mapped row_said (λ (r : Row). bytes_eq r.0.name variant) held)

-- a condition that holds, and none of the later definitions' that was gathered, is the formula that
-- governs
pub governs-is : (f said none : Statement) (later : List Row) (start parts : List Statement) → said ≡ f
    → start ≡ [] → parts ≡ start ++ formulas_of later → none ≡ none_among parts → both_statements said none ≡ governs f later
governs-is f said none later start parts s z p n =
    let is : parts ≡ formulas_of later = p ∙ ap (λ ts. ts ++ formulas_of later) z in
    let last : none ≡ none_among (formulas_of later) = n ∙ ap none_among is in
    λ i. both_statements (s i) (last i)

-- no block is cut off
pub blocks-none : (times size : ℕ) (fs : List Statement) → times ≡ 0 → blocks_of times size fs ≡ fs
unfolding blocks_of
blocks-none times size fs e = rw e refl

pub blocks-short : (times size : ℕ) (fs : List Statement) → (times ≡ 0 → ⊥) → length fs < size
    → blocks_of times size fs ≡ blocks_of (times - 1) (size / 2) fs
unfolding blocks_of
blocks-short zero size fs some lt = absurd (some refl)
blocks-short (suc times) size fs some lt =
    let short : nat_lt (length fs) size ≡ true = grind (arith, nat_tests) in
    let less : suc times - 1 ≡ times = omega arith in
    rw (short, less) refl

-- one is
pub blocks-cut : (times size : ℕ) (fs : List Statement) → (times ≡ 0 → ⊥) → (length fs < size → ⊥)
    → blocks_of times size fs ≡ any_gated (drop (length fs - size) fs) ∷ blocks_of (times - 1) (size / 2) (take (length fs - size) fs)
unfolding blocks_of
blocks-cut zero size fs some ge = absurd (some refl)
blocks-cut (suc times) size fs some ge =
    let long : nat_lt (length fs) size ≡ false = grind (arith, nat_tests) in
    let less : suc times - 1 ≡ times = omega arith in
    rw (long, less) refl

-- the block is pushed, and the blocks of what is left stand behind it
pub blocks-joined : (old pushed fs front back : List Statement) (times size : ℕ) (block : Statement) → (times ≡ 0 → ⊥)
    → (length fs < size → ⊥)
    → front ≡ take (length fs - size) fs → back ≡ drop (length fs - size) fs → block ≡ any_gated back → pushed ≡ old ++ block ∷ []
    → pushed ++ blocks_of (times - 1) (size / 2) front ≡ old ++ blocks_of times size fs
blocks-joined old pushed fs front back times size block some ge f b k p =
    ap (λ gs. gs ++ blocks_of (times - 1) (size / 2) front) p
    ∙ append_assoc old (block ∷ []) (blocks_of (times - 1) (size / 2) front)
    ∙ ap (λ gs. old ++ block ∷ blocks_of (times - 1) (size / 2) gs) f
    ∙ ap (λ g. old ++ g ∷ blocks_of (times - 1) (size / 2) (take (length fs - size) fs)) (k ∙ ap any_gated b)
    ∙ ap (λ gs. old ++ gs) (sym (blocks-cut times size fs some ge))
