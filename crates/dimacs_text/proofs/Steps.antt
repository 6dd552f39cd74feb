-- Lines, one clause further.
use Rattle.std.proofs.Common.{◌≡◌, ◌∙◌, ℕ, suc, zero, ◌+◌, List, [], ◌∷◌, ◌++◌, ap, sym, subst, refl, arith, take, slice_get}
use Rattle.std.specs.Option.{option_map}
use Rattle.std.proofs.lemmas.List.{append_assoc, append-nil}
use Rattle.std.proofs.Math.Numerals.{suc-eq-add-one}
use Rattle.clause_store.specs.declared.list.Entry.{Entry}
use Rattle.clause_store.specs.Clauses.{at_id}
use Rattle.problem.specs.Problems.{Problem}
use Rattle.dimacs_text.specs.Clauses.{clause_lines, entry_line, line_at}
use Rattle.dimacs_text.specs.Labels.{label_line, label_at, label_lines}

-- what was written before, with a line that goes on from it
pub goes_on : (new out before lines line all : List ℕ) → new ≡ out ++ line → out ≡ before ++ lines → all ≡ lines ++ line
    → new ≡ before ++ all
goes_on new out before lines line all made known more =
    made ∙ ap (λ t. t ++ line) known ∙ append_assoc before lines line ∙ ap (λ t. before ++ t) (sym more)

module _ where
  clause_more : (es : List Entry) (k : ℕ) → clause_lines (take (suc k) es) ≡ clause_lines (take k es) ++ line_at (slice_get es k)
  clause_more [] zero = refl
  clause_more [] (suc k) = refl
  clause_more (e ∷ es) zero = append-nil (entry_line e)
  clause_more (e ∷ es) (suc k) = ap (λ t. entry_line e ++ t) (clause_more es k) ∙ sym (append_assoc (entry_line e) _ _)

  label_more : (p : Problem) (id : ℕ) (es : List Entry) (k : ℕ)
      → label_lines p id (take (suc k) es) ≡ label_lines p id (take k es)
      ++ label_at p (id + k) (option_map (λ e. e.label) (slice_get es k))
  label_more p id [] zero = refl
  label_more p id [] (suc k) = refl
  label_more p id (e ∷ es) zero =
      let here : id ≡ id + 0 = omega arith in
      append-nil (label_line p id e.label) ∙ ap (λ i. label_line p i e.label) here
  label_more p id (e ∷ es) (suc k) =
      let there : id + 1 + k ≡ id + suc k = omega arith in
      ap (λ t. label_line p id e.label ++ t) (label_more p (id + 1) es k
      ∙ ap (λ i. label_lines p (id + 1) (take k es) ++ label_at p i (option_map (λ e. e.label) (slice_get es k))) there)
      ∙ sym (append_assoc (label_line p id e.label) _ _)

-- the lines of one clause more are those before, and the next one's
pub next_clause : (es : List Entry) (k : ℕ) → clause_lines (take (k + 1) es) ≡ clause_lines (take k es) ++ line_at (at_id es (k + 1))
next_clause es k = subst (λ n. clause_lines (take n es) ≡ clause_lines (take k es) ++ line_at (at_id es n)) (suc-eq-add-one k)
    (clause_more es k)

-- likewise of labels, where ids count from 1
pub next_label : (p : Problem) (es : List Entry) (k : ℕ)
    → label_lines p 1 (take (k + 1) es) ≡ label_lines p 1 (take k es) ++ label_at p (k + 1) (option_map (λ e. e.label) (at_id es (k + 1)))
next_label p es k =
    let place : 1 + k ≡ k + 1 = omega arith in
    subst (λ n. label_lines p 1 (take n es) ≡ label_lines p 1 (take k es) ++ label_at p (k + 1) (option_map (λ e. e.label) (at_id es n)))
    (suc-eq-add-one k)
    (label_more p 1 es k ∙ ap (λ i. label_lines p 1 (take k es) ++ label_at p i (option_map (λ e. e.label) (slice_get es k))) place)
