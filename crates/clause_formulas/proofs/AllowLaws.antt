-- What a longer list leaves open, step after step.
use Rattle.std.proofs.Common.{◌≡◌, ℕ, zero, suc, ◌+◌, ◌<◌, Bool, true, false, not, ◌||◌, List, [], ◌∷◌, length, get_or, Result, Ok, Err, OnOk, OnErr, refl, sym, ap, subst, ◌∙◌, arith, zero-add}
use Rattle.std.proofs.lemmas.Bool.{and_parts}
use Rattle.clause_store.specs.declared.Label.{Label}
use Rattle.clause_store.specs.declared.Label.TheVariants.{Demand}
use Rattle.clause_store.specs.Clauses.{Clauses, counts}
use Rattle.clause_circuits.specs.Growth.{Agree, where_asked}
use Rattle.clause_circuits.proofs.Composed.{Grows-refl, Grows-trans, Extends-refl, Agree-trans, MeetsSince-parts, MeetsSince-join, Meets-agree, since}
use Rattle.clause_formulas.specs.Statements.{Statement, eval, any_statement, SaidBelow}
use Rattle.clause_formulas.specs.Gated.{Gated, gated, GatesBelow, Keeps}
use Rattle.clause_formulas.specs.Built.{assert_in, demand_in, claimed, demands_true}
use Rattle.clause_formulas.specs.Allowed.{Allows, AllowsIn}
use Rattle.clause_formulas.proofs.DraftLaws.{eval-agree}
use Rattle.clause_formulas.proofs.GateLaws.{Fits-agree, Keeps-refl}
use Rattle.clause_formulas.proofs.Laws.{assert_in_is, demand_is}

-- which assignments keep a rule, where some clauses are asked for
abbrev pub Rule : Type 1
Rule = (ℕ → Bool) → (ℕ → Bool) → Type 0

pub AllowsIn-keeps : (s t : Gated) (p : Rule) → Keeps s t → AllowsIn s t p
AllowsIn-keeps s t p d = record {
  grows = d.extends.grows;
  below = d.below;
  fits = d.fits;
  each = λ asked v k h. d.extends.each asked v refl;
}

pub AllowsIn-refl : (s : Gated) (p : Rule) → GatesBelow s.list.vars s.gates → AllowsIn s s p
AllowsIn-refl s p i = AllowsIn-keeps s s p (Keeps-refl s i)

-- two steps one after the other
pub AllowsIn-then : (a b c : Gated) (p q : Rule) → GatesBelow a.list.vars a.gates → AllowsIn a b p → AllowsIn b c q
    → ((asked v w : ℕ → Bool) → Agree a.list.vars v w → p asked v → q asked w) → AllowsIn a c p
AllowsIn-then a b c p q i d e link = record {
  grows = Grows-trans a.list b.list c.list d.grows e.grows;
  below = e.below;
  fits = λ asked v k m.
      let t = MeetsSince-parts asked v a.list b.list c.list d.grows e.grows m in
      e.fits asked v (d.fits asked v k t.0) t.1;
  each = λ asked v k h.
      let x = d.each asked v k h in
      let f = d.fits asked x.0 (Fits-agree a.list.vars v x.0 x.1 a.gates i k) x.2 in
      let y = e.each asked x.0 f (link asked v x.0 x.1 h) in (
        y.0,
        Agree-trans a.list.vars b.list.vars v x.0 y.0 d.grows.more x.1 y.1,
        MeetsSince-join asked y.0 a.list b.list c.list d.grows e.grows
            (Meets-agree asked b.list.vars x.0 y.0 y.1 (since a.list b.list) d.grows.in_range x.2) y.2,
      );
}

-- a call that came to its end, or left the list as it found it
pub AllowsIn-called : {T E : Type 0} (r : Result T E) (s t v : Gated) (u : Clauses) (p : Rule) → AllowsIn s v p → Keeps s t
    → OnOk r (v ≡ gated u t.gates) → OnErr r (u ≡ t.list) → AllowsIn s (gated u t.gates) p
AllowsIn-called (Ok x) s t v u p d e f g = subst (λ l. AllowsIn s l p) f d
AllowsIn-called (Err x) s t v u p d e f g = subst (λ l. AllowsIn s (gated l t.gates) p) (sym g) (AllowsIn-keeps s t p e)

-- over no gates
pub Allows-refl : (s : Clauses) (p : Rule) → Allows s s p
Allows-refl s p = record { grows = Grows-refl s; each = λ asked v h. (Extends-refl s).each asked v refl }

-- what allows a rule in two steps allows it
pub Allows-then : (a b c : Clauses) (p q : Rule) → Allows a b p → Allows b c q
    → ((asked v w : ℕ → Bool) → Agree a.vars v w → p asked v → q asked w) → Allows a c p
Allows-then a b c p q d e link = record {
  grows = Grows-trans a b c d.grows e.grows;
  each = λ asked v h.
      let x = d.each asked v h in
      let y = e.each asked x.0 (link asked v x.0 x.1 h) in (
        y.0,
        Agree-trans a.vars b.vars v x.0 y.0 d.grows.more x.1 y.1,
        MeetsSince-join asked y.0 a b c d.grows e.grows (Meets-agree asked b.vars x.0 y.0 y.1 (since a b) d.grows.in_range x.2) y.2,
      );
}

-- what is claimed of a formula, where the label is asked for
abbrev pub claims : Label → Bool → Statement → Rule
claims label sign f = λ asked v. where_asked label (λ w. claimed sign (eval w f)) asked v ≡ true

-- a part was asserted, or the code stopped in it
pub claim-called : {T E : Type 0} (r : Result T E) (s t : Gated) (u : Clauses) (label : Label) (sign : Bool) (f : Statement)
    → GatesBelow s.list.vars s.gates → SaidBelow s.list.vars f → Keeps s t → OnOk r (assert_in label s sign f ≡ gated u t.gates)
    → OnErr r (u ≡ t.list) → AllowsIn s (gated u t.gates) (claims label sign f)
claim-called r s t u label sign f i b e p q = AllowsIn-called r s t (assert_in label s sign f) u (claims label sign f)
    (assert_in_is label f sign s i b).allows e p q

-- a demand was stated, or the code stopped in it
pub demand-called : {T E : Type 0} (r : Result T E) (s t : Gated) (u : Clauses) (f : Statement) (id : ℕ)
    → GatesBelow s.list.vars s.gates → SaidBelow s.list.vars f → Keeps s t → OnOk r (demand_in s f id ≡ gated u t.gates)
    → OnErr r (u ≡ t.list) → AllowsIn s (gated u t.gates) (λ asked v. where_asked (Demand id) (λ w. eval w f) asked v ≡ true)
demand-called r s t u f id i b e p q =
    AllowsIn-called r s t (demand_in s f id) u (λ asked v. where_asked (Demand id) (λ w. eval w f) asked v ≡ true)
    (demand_is s f id i b).allows e p q

-- where none of a list is true, no part is
none-part : (c a b : Bool) → (c || not (a || b)) ≡ true → ((c || not a) ≡ true) × ((c || not b) ≡ true)
none-part true a b h = (refl, refl)
none-part false true b h = absurd (cc)
none-part false false true h = absurd (cc)
none-part false false false h = (refl, refl)

none-at : (label : Label) (n : ℕ) (fs : List Statement) (i : ℕ) (d : Statement) → i < length fs → SaidBelow n (any_statement fs)
    → (asked v w : ℕ → Bool) → Agree n v w → claims label false (any_statement fs) asked v → claims label false (get_or fs i d) asked w
none-at label n [] i d h b asked v w a k = absurd (omega arith)
none-at label n (f ∷ fs) zero d h b asked v w a k =
    ap (λ x. not (counts asked label) || not x) (sym (eval-agree n v w a f b.0))
    ∙ (none-part (not (counts asked label)) (eval v f) (eval v (any_statement fs)) k).0
none-at label n (f ∷ fs) (suc i) d h b asked v w a k =
    none-at label n fs i d (omega arith) b.1 asked v w a (none-part (not (counts asked label)) (eval v f) (eval v (any_statement fs)) k).1

-- of parts that none is claimed of, none holds
pub none-claimed : (label : Label) (n : ℕ) (fs : List Statement) (i : ℕ) (f : Statement) → i < length fs → f ≡ get_or fs i f
    → SaidBelow n (any_statement fs) → (asked v w : ℕ → Bool) → Agree n v w → claims label false (any_statement fs) asked v
    → claims label false f asked w
none-claimed label n fs i f h e b asked v w a k =
    subst (λ g. claims label false g asked w) (sym e) (none-at label n fs i f h b asked v w a k)

-- the demand at a place
demanded-at : (n id : ℕ) (fs : List Statement) (i : ℕ) (d : Statement) → i < length fs → SaidBelow n (any_statement fs)
    → (asked v w : ℕ → Bool) → Agree n v w → demands_true asked v id fs ≡ true
    → where_asked (Demand (id + i)) (λ u. eval u (get_or fs i d)) asked w ≡ true
demanded-at n id [] i d h b asked v w a k = absurd (omega arith)
demanded-at n id (f ∷ fs) zero d h b asked v w a k =
    let e : id + 0 ≡ id = omega arith in
    rw e (ap (λ x. not (asked id) || x) (sym (eval-agree n v w a f b.0))
    ∙ (and_parts (not (asked id) || eval v f) (demands_true asked v (id + 1) fs) k).0)
demanded-at n id (f ∷ fs) (suc i) d h b asked v w a k =
    let e : id + suc i ≡ id + 1 + i = omega arith in
    rw e (demanded-at n (id + 1) fs i d (omega arith) b.1 asked v w a
    (and_parts (not (asked id) || eval v f) (demands_true asked v (id + 1) fs) k).1)

-- of demanded formulas each one is
pub demanded : (n : ℕ) (fs : List Statement) (i : ℕ) (f : Statement) → i < length fs → f ≡ get_or fs i f → SaidBelow n (any_statement fs)
    → (asked v w : ℕ → Bool) → Agree n v w → demands_true asked v 0 fs ≡ true
    → where_asked (Demand i) (λ u. eval u f) asked w ≡ true
demanded n fs i f h e b asked v w a k =
    subst (λ g. where_asked (Demand i) (λ u. eval u g) asked w ≡ true) (sym e)
    (subst (λ id. where_asked (Demand id) (λ u. eval u (get_or fs i f)) asked w ≡ true) (zero-add i)
    (demanded-at n 0 fs i f h b asked v w a k))
