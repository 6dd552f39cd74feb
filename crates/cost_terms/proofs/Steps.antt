-- The code of terms, step by step.
use Rattle.std.proofs.Common.{◌≡◌, ℕ, zero, suc, ◌+◌, ◌≤◌, ◌<◌, List, [], ◌∷◌, ◌++◌, sym, ap, subst, ◌∙◌, arith, Option, append_assoc, get_or, drop, length}
use Rattle.std.specs.Option.{option_to_list}
use Rattle.std.specs.Result.{IfOk}
use Rattle.std.proofs.Common.{Result, Ok, Err}
use Rattle.std.proofs.Common.{add-one}
use Rattle.std.proofs.Math.Seq.{drop-cons}
use Rattle.clause_store.specs.declared.Lit.{Lit}
use Rattle.clause_store.specs.Clauses.{Clauses}
use Rattle.clause_formulas.specs.declared.defined.Defined.{Defined}
use Rattle.clause_formulas.specs.Gated.{Gated, Gate, gated}
use Rattle.clause_formulas.specs.Built.{Grown, Shared, define_in}
use Rattle.cost_terms.specs.declared.weighted.Weighted.{Weighted}
use Rattle.cost_terms.specs.Weighed.{WeighedBelow, AllWeighedBelow, term_on, one_in, terms_in, lists_in, lists_on, AreTotals}
use Rattle.cost_terms.proofs.TermLaws.{WeighedBelow-le, DefinesLists, lists_is}
use Rattle.clause_formulas.specs.Statements.{SaidBelow}
use Rattle.clause_formulas.proofs.DraftLaws.{SaidBelow-le}
use Rattle.clause_circuits.proofs.Composed.{Defines-trans, MeetsSince-parts}
use Rattle.clause_circuits.specs.Steps.{plan_at}
use Rattle.clause_circuits.specs.Built.{IsBuilt}
use Rattle.criteria_totals.specs.Totals.{tops, totals_on, IsTotals}
use Rattle.cost_terms.specs.Built.{sums_on, define_totals_on}

-- terms after those that were made
abbrev pub after : {A : Type 0} → List A → Shared (List A) → Shared (List A)
after ts m = record { state = m.state; answer = ts ++ m.answer }

-- what is left begins with the next one
pub rest-at : {A : Type 0} (xs : List A) (i : ℕ) (x : A) → i < length xs → x ≡ get_or xs i x → drop i xs ≡ x ∷ drop (i + 1) xs
rest-at xs i x h e = rw add-one (drop-cons xs i x h ∙ ap (λ y. y ∷ drop (suc i) xs) (sym e))

pub one-step : (s : Gated) (t u : Clauses) (gs : List Gate) (w : Weighted) (d : Defined) (r : Option (ℕ × Lit))
    → define_in s w.formula ≡ record { state = gated t gs; answer = d }
    → term_on t w.weight d ≡ record { list = u; answer = r } → one_in s w ≡ record { state = gated u gs; answer = r }
unfolding one_in
one-step s t u gs w d r e f =
    ap (λ (m : Shared Defined).
    let n = term_on m.state.list w.weight m.answer in
    let made : Shared (Option (ℕ × Lit)) = record { state = gated n.list m.state.gates; answer = n.answer } in made) e
    ∙ ap (λ (n : Grown (Option (ℕ × Lit))).
    let made : Shared (Option (ℕ × Lit)) = record { state = gated n.list gs; answer = n.answer } in made) f

pub weighed-at : (m n : ℕ) (ts : List Weighted) (i : ℕ) (t : Weighted) → m ≤ n → i < length ts → t ≡ get_or ts i t → WeighedBelow m ts
    → SaidBelow n t.formula
weighed-at m n ts i t h k e b = subst (λ (u : Weighted). SaidBelow n u.formula) (sym e) (part m n ts i t h k b)
  where
    part : (m n : ℕ) (ts : List Weighted) (i : ℕ) (d : Weighted) → m ≤ n → i < length ts → WeighedBelow m ts
        → SaidBelow n (get_or ts i d).formula
    part m n [] i d h k b = absurd (omega (arith, k))
    part m n (t ∷ ts) zero d h k b = SaidBelow-le m n t.formula h b.0
    part m n (t ∷ ts) (suc i) d h k b = part m n ts i d h (omega (arith, k)) b.1

pub all-weighed-at : (m n : ℕ) (lists : List (List Weighted)) (i : ℕ) (ts : List Weighted) → m ≤ n → i < length lists
    → ts ≡ get_or lists i ts
    → AllWeighedBelow m lists → WeighedBelow n ts
all-weighed-at m n lists i ts h k e b = subst (WeighedBelow n) (sym e) (part m n lists i ts h k b)
  where
    part : (m n : ℕ) (lists : List (List Weighted)) (i : ℕ) (d : List Weighted) → m ≤ n → i < length lists → AllWeighedBelow m lists
        → WeighedBelow n (get_or lists i d)
    part m n [] i d h k b = absurd (omega (arith, k))
    part m n (ts ∷ lists) zero d h k b = WeighedBelow-le m n ts h b.0
    part m n (ts ∷ lists) (suc i) d h k b = part m n lists i d h (omega (arith, k)) b.1

pub lists_at : (s t : Clauses) (lists : List (List Weighted)) (terms : List (List (ℕ × Lit))) → AllWeighedBelow s.vars lists
    → lists_on s lists ≡ record { list = t; answer = terms } → DefinesLists s t terms lists
lists_at s t lists terms b q = let P : Grown (List (List (ℕ × Lit))) → Type 0 = λ m. DefinesLists s m.list m.answer lists in
    subst P q (lists_is s lists b)

-- bits of the terms are bits of the formulas
pub are-totals : (s t u : Clauses) (lists : List (List Weighted)) (terms : List (List (ℕ × Lit))) (bits : List Lit) (most : List ℕ)
    → DefinesLists s t terms lists → IsTotals t u bits terms → most ≡ tops terms → AreTotals s u bits most lists
are-totals s t u lists terms bits most x y e =
    let grows = x.defines.says.grows in
    let more = y.defines.says.grows in record {
      defines = Defines-trans s t u x.defines y.defines;
      below = y.below;
      found = λ asked v m. let p = MeetsSince-parts asked v s t u grows more m in
          rw (e, ← x.weigh asked v p.0) (y.found asked v p.1);
      order = λ asked v w m n.
          let p = MeetsSince-parts asked v s t u grows more m in
          let q = MeetsSince-parts asked w s t u grows more n in
          rw (← x.weigh asked v p.0, ← x.weigh asked w q.0) (y.order asked v w p.1 q.1);
      equal = λ asked v w m n same.
          let p = MeetsSince-parts asked v s t u grows more m in
          let q = MeetsSince-parts asked w s t u grows more n in
          sym (x.weigh asked v p.0) ∙ y.equal asked v w p.1 q.1 same ∙ x.weigh asked w q.0;
    }

-- one formula more
pub term-step : (s t : Gated) (ws : List Weighted) (i : ℕ) (w : Weighted) (r : Option (ℕ × Lit)) (ts us : List (ℕ × Lit))
    (whole : Shared (List (ℕ × Lit))) → i < length ws → w ≡ get_or ws i w → one_in s w ≡ record { state = t; answer = r }
    → us ≡ ts ++ option_to_list r → after ts (terms_in s (drop i ws)) ≡ whole → after us (terms_in t (drop (i + 1) ws)) ≡ whole
term-step s t ws i w r ts us whole h e f g k =
    rw g (ap (λ (made : List (ℕ × Lit)). let n = terms_in t (drop (i + 1) ws) in record { state = n.state; answer = made })
    (append_assoc ts (option_to_list r) _)
    ∙ ap (λ (m : Shared (Option (ℕ × Lit))). let n = terms_in m.state (drop (i + 1) ws) in
    record { state = n.state; answer = ts ++ (option_to_list m.answer ++ n.answer) }) (sym f)
    ∙ ap (λ rest. after ts (terms_in s rest)) (sym (rest-at ws i w h e)) ∙ k)

-- one list more
pub list-step : (s t : Gated) (lists : List (List Weighted)) (i : ℕ) (ws : List Weighted) (r : List (ℕ × Lit))
    (ts us : List (List (ℕ × Lit)))
    (whole : Shared (List (List (ℕ × Lit)))) → i < length lists → ws ≡ get_or lists i ws → terms_in s ws ≡ record { state = t; answer = r }
    → us ≡ ts ++ r ∷ [] → after ts (lists_in s (drop i lists)) ≡ whole → after us (lists_in t (drop (i + 1) lists)) ≡ whole
list-step s t lists i ws r ts us whole h e f g k =
    rw g (ap (λ (made : List (List (ℕ × Lit))). let n = lists_in t (drop (i + 1) lists) in record { state = n.state; answer = made })
    (append_assoc ts (r ∷ []) _)
    ∙ ap (λ (m : Shared (List (ℕ × Lit))). let n = lists_in m.state (drop (i + 1) lists) in
    record { state = n.state; answer = ts ++ (m.answer ∷ n.answer) }) (sym f)
    ∙ ap (λ rest. after ts (lists_in s rest)) (sym (rest-at lists i ws h e)) ∙ k)

-- all lists, over gates of their own
pub lists-alone : (s t : Clauses) (gs hs : List Gate) (lists : List (List Weighted)) (terms : List (List (ℕ × Lit))) → gs ≡ []
    → lists_in (gated s gs) lists ≡ record { state = gated t hs; answer = terms } → lists_on s lists ≡ record { list = t; answer = terms }
lists-alone s t gs hs lists terms e q =
    ap (λ (m : Shared (List (List (ℕ × Lit)))). let made : Grown (List (List (ℕ × Lit))) =
    record { list = m.state.list; answer = m.answer } in made)
    (ap (λ ks. lists_in (gated s ks) lists) (sym e) ∙ q)

-- the bits that were built are those of the definition
pub built-at : (s t u : Clauses) (lists : List (List Weighted)) (terms : List (List (ℕ × Lit))) (bits : List Lit) (most : List ℕ)
    → lists_on s lists ≡ record { list = t; answer = terms } → IsBuilt t u (totals_on (plan_at t) terms) bits → most ≡ tops terms
    → define_totals_on s lists ≡ record { list = u; answer = record { lits = bits; tops = most } }
unfolding define_totals_on
built-at s t u lists terms bits most e b h =
    ap (λ (m : Grown (List (List (ℕ × Lit)))). sums_on m.list m.answer) e
    ∙ λ i. record { list = sym b.0 i; answer = record { lits = sym b.1 i; tops = sym h i } }

-- two facts of what a call answers
pub both-ok : {X E : Type 0} (r : Result X E) (P Q R : X → Type 0) → ((x : X) → P x → Q x → R x) → IfOk r P → IfOk r Q → IfOk r R
both-ok (Ok x) P Q R f p q = f x p q
both-ok (Err e) P Q R f p q = tt
