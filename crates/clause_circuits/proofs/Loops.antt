-- The loops over the lists of a gate and the gates of a plan.
use Rattle.std.proofs.Common.{◌≡◌, ℕ, ◌+◌, ◌<◌, List, [], ◌∷◌, ◌++◌, length, get_or, take, drop, map, reverse, append_assoc, refl, sym, ap, ◌∙◌, subst, inl, inr, arith}
use Rattle.std.proofs.lemmas.List.{take_more, append-nil, reverse-append, take-append-drop, map-append}
use Rattle.clause_store.specs.declared.Lit.{Lit}
use Rattle.clause_store.specs.declared.list.Entry.{Entry}
use Rattle.clause_store.specs.Clauses.{Clauses}
use Rattle.clause_store.specs.declared.Label.TheVariants.{Structure}
use Rattle.clause_store.proofs.Entries.{Meets-parts}
use Rattle.clause_circuits.specs.Growth.{Grows, Extends, Defines}
use Rattle.clause_circuits.specs.Gates.{Sides, Planned, kept_clauses, clauses_from, labelled, with_defined, with_gates, Partial, InOrder, IsSound, AllClausesBelow, gate_rules, lit_of}
use Rattle.clause_circuits.proofs.KeptClauses.{labelled-in_range, AllClausesBelow-take}
use Rattle.clause_circuits.proofs.Composed.{since, since-from, whole, Grows-from, Grows-trans}
use Rattle.clause_circuits.proofs.Plans.{step-below, step-rules-below, gates-grow, plan_defines}

pub clauses_from-append : (rs ss : List (List Lit)) → clauses_from (rs ++ ss) ≡ clauses_from rs ++ clauses_from ss
clauses_from-append [] ss = refl
clauses_from-append (r ∷ rs) ss = ap (λ cs. kept_clauses r ++ cs) (clauses_from-append rs ss)
    ∙ sym (append_assoc (kept_clauses r) (clauses_from rs) (clauses_from ss))

reverse-more : {A : Type 0} (gs : List A) (i : ℕ) (d : A) → i < length gs → reverse (take (i + 1) gs) ≡ get_or gs i d ∷ reverse (take i gs)
reverse-more gs i d h = ap reverse (take_more gs i d h) ∙ reverse-append (take i gs) (get_or gs i d ∷ [])

turned : {A : Type 0} (gs : List A) (i : ℕ) (d : A) → i < length gs → reverse gs ≡ reverse (drop (i + 1) gs)
    ++ get_or gs i d ∷ reverse (take i gs)
turned gs i d h = ap reverse (sym (take-append-drop (i + 1) gs)) ∙ reverse-append (take (i + 1) gs) (drop (i + 1) gs)
    ∙ ap (λ hs. reverse (drop (i + 1) gs) ++ hs) (reverse-more gs i d h)

-- the clauses of one more gate
pub with_gates-more : (s cur new : Clauses) (gs : List Sides) (i : ℕ) (d : Sides) → i < length gs → cur ≡ with_gates s (reverse (take i gs))
    → new ≡ with_defined cur (clauses_from (gate_rules (lit_of cur.vars) (get_or gs i d))) → new ≡ with_gates s (reverse (take (i + 1) gs))
with_gates-more s cur new gs i d h e f = f ∙ ap (λ c. with_defined c (clauses_from (gate_rules (lit_of c.vars) (get_or gs i d)))) e
    ∙ ap (with_gates s) (sym (reverse-more gs i d h))

-- the second list begins with the first
abbrev Begins : Clauses → Clauses → Type 0
Begins a b = (es : List Entry) × (b.entries ≡ a.entries ++ es)

Begins-trans : (a b c : Clauses) → Begins a b → Begins b c → Begins a c
Begins-trans a b c p q = (p.0 ++ q.0, q.1 ∙ ap (λ es. es ++ q.0) p.1 ∙ append_assoc a.entries p.0 q.0)

gates-begin : (s : Clauses) (hs gs : List Sides) → Begins (with_gates s gs) (with_gates s (hs ++ gs))
gates-begin s [] gs = ([], sym (append-nil (with_gates s gs).entries))
gates-begin s (h ∷ hs) gs = Begins-trans (with_gates s gs) (with_gates s (hs ++ gs)) (with_gates s (h ∷ hs ++ gs))
    (gates-begin s hs gs) (_, refl)

InOrder-back : (n : ℕ) (hs gs : List Sides) → InOrder n (hs ++ gs) → InOrder n gs
InOrder-back n [] gs o = o
InOrder-back n (h ∷ hs) gs o = InOrder-back n hs gs o.2

front-extends : (s b c : Clauses) → Extends s c → Grows s b → Begins b c → Extends s b
front-extends s b c e g p = record {
  grows = g;
  only = λ asked v m. refl;
  each = λ asked v h. let w = e.each asked v h in (
    w.0,
    w.1,
    (Meets-parts asked w.0 (since s b) p.0
        (rw (since-from s c (since s b ++ p.0) (p.1 ∙ ap (λ es. es ++ p.0) (whole s b g) ∙ append_assoc s.entries (since s b) p.0)) at
        w.2)).0,
  );
}

module _ (p : Planned) (s : Clauses) (gs : List Sides) (sound : IsSound p) (first : p.first ≡ s.vars) (same : reverse gs ≡ p.gates) where
  sound_here : IsSound (record { first = s.vars; gates = reverse gs })
  sound_here = rw (← first, same) sound

  all : Defines s (with_gates s (reverse gs))
  all = plan_defines s (reverse gs) sound_here

  in_order_at : (i : ℕ) (d : Sides) → i < length gs → InOrder s.vars (get_or gs i d ∷ reverse (take i gs))
  in_order_at i d h = InOrder-back s.vars (reverse (drop (i + 1) gs)) (get_or gs i d ∷ reverse (take i gs))
      (subst (InOrder s.vars) (turned gs i d h) sound_here.in_order)

  pub define-below : (cur : Clauses) (i : ℕ) (d g : Sides) → i < length gs → cur ≡ with_gates s (reverse (take i gs)) → g ≡ get_or gs i d
      → AllClausesBelow (cur.vars + 1) (gate_rules (lit_of cur.vars) g)
  define-below cur i d g h e q = rw (q, e) (step-rules-below s (get_or gs i d) (reverse (take i gs)) (in_order_at i d h))

  -- where it stopped on the way, each assignment of the old variables goes on
  pub stopped : (cur new : Clauses) (i : ℕ) (d : Sides) (cs : List (List Lit)) → i < length gs → cur ≡ with_gates s (reverse (take i gs))
      → cs ≡ clauses_from (gate_rules (lit_of cur.vars) (get_or gs i d)) → Partial cur new cs → Extends s new
  stopped cur new i d cs h e f part =
      let g = get_or gs i d in
      let front = reverse (take i gs) in
      let o = in_order_at i d h in
      let c : Clauses = with_gates s front in
      let rs = clauses_from (gate_rules (lit_of c.vars) g) in
      let ext : Extends s (with_gates s (reverse gs)) = all.says in
      let rest : Begins (with_gates s (g ∷ front)) (with_gates s (reverse gs)) =
      subst (λ (hs : List Sides). Begins (with_gates s (g ∷ front)) (with_gates s hs)) (sym (turned gs i d h))
      (gates-begin s (reverse (drop (i + 1) gs)) (g ∷ front)) in
      let grown : Grows s c = gates-grow s front o.2 in
      elim part [
        | inl q ↦ rw (q ∙ e) (front-extends s c (with_gates s (reverse gs)) ext grown
            (Begins-trans c (with_gates s (g ∷ front)) (with_gates s (reverse gs)) (_, refl) rest))
        | inr q ↦
            let k = q.0 in
            let b : Clauses = with_defined c (take k rs) in
            let new_is : new ≡ b = q.1 ∙ rw (f, e) refl in
            let more : Grows c b = Grows-from c b (map (labelled Structure) (take k rs)) refl (omega arith)
            (labelled-in_range _ Structure _ (AllClausesBelow-take _ k rs (step-below s g front o))) in
            let within : Begins b (with_gates s (g ∷ front)) = (
              map (labelled Structure) (drop k rs),
              ap (λ xs. c.entries ++ map (labelled Structure) xs) (sym (take-append-drop k rs))
                  ∙ ap (λ es. c.entries ++ es) (map-append (labelled Structure) (take k rs) (drop k rs))
                  ∙ sym (append_assoc c.entries _ _),
            ) in
            rw new_is (front-extends s b (with_gates s (reverse gs)) ext (Grows-trans s c b grown more)
            (Begins-trans b (with_gates s (g ∷ front)) (with_gates s (reverse gs)) within rest))
      ]

  -- the clauses of the whole plan extend
  pub finished : (new : Clauses) → new ≡ with_gates s p.gates → Extends s new
  finished new e = rw (e ∙ ap (with_gates s) (sym same)) (all.says)

-- the rules of an equal gate at an equal literal
pub rules-at : (cs : List (List Lit)) (x y : Lit) (g h : Sides) → cs ≡ clauses_from (gate_rules x g) → x ≡ y → g ≡ h
    → cs ≡ clauses_from (gate_rules y h)
rules-at cs x y g h e f k = e ∙ rw (f, k) refl
