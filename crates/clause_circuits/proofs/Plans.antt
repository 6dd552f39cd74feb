-- What the clauses of a plan say.
use Rattle.std.proofs.Common.{◌≡◌, ℕ, ◌+◌, ◌<◌, ◌≤◌, Bool, true, false, cond, eqb, not, ◌&&◌, ◌||◌, List, [], ◌∷◌, ◌++◌, length, refl, sym, ap, ◌∙◌, inl, inr, arith}
use Rattle.std.proofs.lemmas.Bool.{cases_lt, eq-eqb, ne_eqb}
use Rattle.std.proofs.Math.Seq.{drop-length}
use Rattle.clause_store.specs.declared.Lit.{Lit}
use Rattle.clause_store.specs.Lits.{var_of, negation, lit_true, clause_true}
use Rattle.clause_store.specs.declared.Label.TheVariants.{Structure}
use Rattle.clause_store.specs.Clauses.{Clauses}
use Rattle.clause_store.proofs.Range.{AllBelow-le}
use Rattle.clause_circuits.specs.Growth.{Agree, MeetsSince, Grows, Defines}
use Rattle.clause_circuits.specs.Gates.{Sides, rules_true, value_of, Agrees, lit_of, Follows, AllAgree, AllClausesBelow, InOrder, IsSound, clauses_from, headed, gate_rules, with_gates}
use Rattle.clause_store.proofs.Meaning.{lit_true-negation}
use Rattle.clause_circuits.proofs.KeptClauses.{clauses_from-below, labelled-in_range, rules-true, true-rules, AllClausesBelow-append}
use Rattle.clause_circuits.proofs.Composed.{clause_true-agree, Grows-from, Grows-refl, Grows-trans, since-from, MeetsSince-parts, MeetsSince-join}

-- rules rest on the values of their variables alone
pub rules_true-agree : (n : ℕ) (v w : ℕ → Bool) → Agree n v w → (cs : List (List Lit)) → AllClausesBelow n cs
    → rules_true v cs ≡ rules_true w cs
rules_true-agree n v w a [] b = refl
rules_true-agree n v w a (c ∷ cs) b = rw (clause_true-agree n v w a c b.0, rules_true-agree n v w a cs b.1) refl

pub rules_true-append : (v : ℕ → Bool) (cs ds : List (List Lit)) → rules_true v (cs ++ ds) ≡ (rules_true v cs && rules_true v ds)
rules_true-append v [] ds = refl
rules_true-append v (c ∷ cs) ds = rw (rules_true-append v cs ds) (and-turn (clause_true v c) (rules_true v cs) (rules_true v ds))
  where
    and-turn : (a b c : Bool) → (a && (b && c)) ≡ ((a && b) && c)
    and-turn true b c = refl
    and-turn false b c = refl

-- rules with a literal more hold where it is true, or they do
pub headed-true : (v : ℕ → Bool) (x : Lit) (cs : List (List Lit)) → rules_true v (headed x cs) ≡ (lit_true v x || rules_true v cs)
headed-true v x [] = sym (or-true (lit_true v x))
  where
    or-true : (a : Bool) → (a || true) ≡ true
    or-true true = refl
    or-true false = refl
headed-true v x (c ∷ cs) = rw (headed-true v x cs) (or-both (lit_true v x) (clause_true v c) (rules_true v cs))
  where
    or-both : (t a b : Bool) → ((t || a) && (t || b)) ≡ (t || (a && b))
    or-both true a b = refl
    or-both false a b = refl

headed-below : (n : ℕ) (x : Lit) (cs : List (List Lit)) → var_of x < n → AllClausesBelow n cs → AllClausesBelow n (headed x cs)
headed-below n x [] h b = tt
headed-below n x (c ∷ cs) h b = ((h, b.0), headed-below n x cs h b.1)

pub AllClausesBelow-le : (m n : ℕ) (cs : List (List Lit)) → m ≤ n → AllClausesBelow m cs → AllClausesBelow n cs
AllClausesBelow-le m n [] h b = tt
AllClausesBelow-le m n (c ∷ cs) h b = (AllBelow-le m n c h b.0, AllClausesBelow-le m n cs h b.1)

-- the rules of a gate whose sides agree say that the literal has the gate's value
gate-says : (v : ℕ → Bool) (x : Lit) (g : Sides) → Agrees v g → rules_true v (gate_rules x g) ≡ true → lit_true v x ≡ value_of v g
gate-says v x g a t = says (lit_true v x) (rules_true v g.on) (rules_true v g.off) a (sym (split v x g) ∙ t)
  where
    split : (v : ℕ → Bool) (x : Lit) (g : Sides)
        → rules_true v (gate_rules x g) ≡ ((lit_true v x || rules_true v g.on) && (not (lit_true v x) || rules_true v g.off))
    split v x g = rules_true-append v (headed x g.on) (headed (negation x) g.off)
        ∙ rw (headed-true v x g.on, headed-true v (negation x) g.off, lit_true-negation v x) refl

    says : (t a b : Bool) → a ≡ not b → ((t || a) && (not t || b)) ≡ true → t ≡ b
    says true a b h e = sym e
    says false true false h e = refl
    says false true true h e = sym h
    says false false b h e = absurd (cc)

says-gate : (v : ℕ → Bool) (x : Lit) (g : Sides) → Agrees v g → lit_true v x ≡ value_of v g → rules_true v (gate_rules x g) ≡ true
says-gate v x g a t = rules_true-append v (headed x g.on) (headed (negation x) g.off)
    ∙ rw (headed-true v x g.on, headed-true v (negation x) g.off, lit_true-negation v x, t, a) (holds (rules_true v g.off))
  where
    holds : (b : Bool) → ((b || not b) && (not b || b)) ≡ true
    holds true = refl
    holds false = refl

-- a plan takes one variable for each gate
pub vars_are : (s : Clauses) (gs : List Sides) → (with_gates s gs).vars ≡ s.vars + length gs
vars_are s [] = omega arith
vars_are s (g ∷ gs) = omega (arith, vars_are s gs)

rules-below : (n : ℕ) (g : Sides) → AllClausesBelow n g.on → AllClausesBelow n g.off → AllClausesBelow (n + 1) (gate_rules (lit_of n) g)
rules-below n g a b =
    let h : n ≤ n + 1 = omega arith in
    let k : n < n + 1 = omega arith in
    AllClausesBelow-append (n + 1) (headed (lit_of n) g.on) (headed (negation (lit_of n)) g.off)
    (headed-below (n + 1) (lit_of n) g.on k (AllClausesBelow-le n (n + 1) g.on h a))
    (headed-below (n + 1) (negation (lit_of n)) g.off k (AllClausesBelow-le n (n + 1) g.off h b))

pub step-rules-below : (s : Clauses) (g : Sides) (gs : List Sides) → InOrder s.vars (g ∷ gs)
    → AllClausesBelow ((with_gates s gs).vars + 1) (gate_rules (lit_of (with_gates s gs).vars) g)
step-rules-below s g gs o = rw (vars_are s gs) (rules-below (s.vars + length gs) g o.0 o.1)

pub step-below : (s : Clauses) (g : Sides) (gs : List Sides) → InOrder s.vars (g ∷ gs)
    → AllClausesBelow ((with_gates s gs).vars + 1) (clauses_from (gate_rules (lit_of (with_gates s gs).vars) g))
step-below s g gs o = clauses_from-below _ _ (step-rules-below s g gs o)

step-grows : (s : Clauses) (g : Sides) (gs : List Sides) → InOrder s.vars (g ∷ gs) → Grows (with_gates s gs) (with_gates s (g ∷ gs))
step-grows s g gs o = Grows-from (with_gates s gs) (with_gates s (g ∷ gs)) _ refl (omega arith)
    (labelled-in_range _ Structure _ (step-below s g gs o))

-- its clauses only make the list longer
pub gates-grow : (s : Clauses) (gs : List Sides) → InOrder s.vars gs → Grows s (with_gates s gs)
gates-grow s [] o = Grows-refl s
gates-grow s (g ∷ gs) o = Grows-trans s (with_gates s gs) (with_gates s (g ∷ gs)) (gates-grow s gs o.2) (step-grows s g gs o)

step-meets : (asked v : ℕ → Bool) (s : Clauses) (g : Sides) (gs : List Sides) → MeetsSince asked v (with_gates s gs) (with_gates s (g ∷ gs))
    → rules_true v (gate_rules (lit_of (s.vars + length gs)) g) ≡ true
step-meets asked v s g gs m =
    rw (← vars_are s gs) (rules-true asked v (gate_rules (lit_of (with_gates s gs).vars) g)
    (rw (since-from (with_gates s gs) (with_gates s (g ∷ gs)) _ refl) at m))

meets-step : (asked v : ℕ → Bool) (s : Clauses) (g : Sides) (gs : List Sides)
    → rules_true v (gate_rules (lit_of (s.vars + length gs)) g) ≡ true → MeetsSince asked v (with_gates s gs) (with_gates s (g ∷ gs))
meets-step asked v s g gs t =
    rw (since-from (with_gates s gs) (with_gates s (g ∷ gs)) _ refl)
    (true-rules asked v (gate_rules (lit_of (with_gates s gs).vars) g) (rw (vars_are s gs) t))

-- an assignment that follows a plan whose sides agree meets its clauses
pub follows-meets : (asked v : ℕ → Bool) (s : Clauses) (gs : List Sides) → InOrder s.vars gs → AllAgree v gs → Follows v s.vars gs
    → MeetsSince asked v s (with_gates s gs)
follows-meets asked v s [] o a f = rw (drop-length s.entries) tt
follows-meets asked v s (g ∷ gs) o a f =
    MeetsSince-join asked v s (with_gates s gs) (with_gates s (g ∷ gs)) (gates-grow s gs o.2) (step-grows s g gs o)
    (follows-meets asked v s gs o.2 a.1 f.1)
    (meets-step asked v s g gs (says-gate v (lit_of (s.vars + length gs)) g a.0 f.0))

-- an assignment that meets the clauses follows the plan, as another one does with which it agrees before
pub meets-follows : (asked u v : ℕ → Bool) (s : Clauses) (gs : List Sides) → InOrder s.vars gs → Follows u s.vars gs → AllAgree u gs
    → Agree s.vars u v → MeetsSince asked v s (with_gates s gs) → Agree (s.vars + length gs) u v × Follows v s.vars gs
meets-follows asked u v s [] o f a h m = ((λ k l. h k (omega arith)), tt)
meets-follows asked u v s (g ∷ gs) o f a h m =
    let p = MeetsSince-parts asked v s (with_gates s gs) (with_gates s (g ∷ gs)) (gates-grow s gs o.2) (step-grows s g gs o) m in
    let r = meets-follows asked u v s gs o.2 f.1 a.1 h p.0 in
    let n = s.vars + length gs in
    let on : rules_true u g.on ≡ rules_true v g.on = rules_true-agree n u v r.0 g.on o.0 in
    let off : rules_true u g.off ≡ rules_true v g.off = rules_true-agree n u v r.0 g.off o.1 in
    let agrees : Agrees v g = sym on ∙ a.0 ∙ ap not off in
    let x : v n ≡ value_of v g = gate-says v (lit_of n) g agrees (step-meets asked v s g gs p.1) in
    let same : u n ≡ v n = f.0 ∙ off ∙ sym x in
    ((λ k l. elim (cases_lt k n) [ inl lt ↦ r.0 k lt | inr ge ↦ let e : k ≡ n = omega arith in rw e same ]), (x, r.1))

-- an assignment with one value changed
abbrev at_var : (ℕ → Bool) → ℕ → Bool → ℕ → Bool
at_var v x b k = cond (eqb k x) b (v k)

at_var-same : (v : ℕ → Bool) (x : ℕ) (b : Bool) → at_var v x b x ≡ b
at_var-same v x b = rw (eq-eqb x x refl) refl

at_var-below : (v : ℕ → Bool) (x : ℕ) (b : Bool) → Agree x v (at_var v x b)
at_var-below v x b k h = rw (ne_eqb k x (omega arith)) refl

-- to follow a plan rests on the values of its variables alone
pub Follows-agree : (v w : ℕ → Bool) (n : ℕ) (gs : List Sides) → InOrder n gs → Agree (n + length gs) v w → Follows v n gs → Follows w n gs
Follows-agree v w n [] o a f = tt
Follows-agree v w n (g ∷ gs) o a f =
    let below : Agree (n + length gs) v w = λ k h. a k (omega arith) in (
      sym (a (n + length gs) (omega arith)) ∙ f.0
          ∙ rules_true-agree (n + length gs) v w below g.off o.1,
      Follows-agree v w n gs o.2 below f.1,
    )

-- each assignment of the variables before a plan goes on to one that follows it
follow : (v : ℕ → Bool) (n : ℕ) (gs : List Sides) → InOrder n gs → (w : ℕ → Bool) × Agree n v w × Follows w n gs
follow v n [] o = (v, (λ k h. refl), tt)
follow v n (g ∷ gs) o =
    let p = follow v n gs o.2 in
    let x = n + length gs in
    let b = value_of p.0 g in
    let w : ℕ → Bool = at_var p.0 x b in
    let a : Agree x p.0 w = at_var-below p.0 x b in (
      w,
      (λ k h. p.1 k h ∙ a k (omega arith)),
      (
        at_var-same p.0 x b
            ∙ rules_true-agree x p.0 w a g.off o.1,
        Follows-agree p.0 w n gs o.2 a p.2,
      ),
    )

module _ (s : Clauses) (gs : List Sides) (d : IsSound (record { first = s.vars; gates = gs })) where
  -- the clauses of a sound plan define its variables
  pub plan_defines : Defines s (with_gates s gs)
  plan_defines =
      let meets : (asked v : ℕ → Bool) → (w : ℕ → Bool) × Agree s.vars v w × Follows w s.vars gs
      × MeetsSince asked w s (with_gates s gs) = λ asked v.
      let p = follow v s.vars gs d.in_order in (p.0, p.1, p.2, follows-meets asked p.0 s gs d.in_order (d.agrees p.0 p.2) p.2) in record {
        says = record {
          grows = gates-grow s gs d.in_order;
          only = λ asked v m. refl;
          each = λ asked v h. let p = meets asked v in (p.0, p.1, p.3);
        };
        once = λ asked v w a m n k h.
            let p = meets asked v in
            let back : Agree s.vars p.0 v = λ j l. sym (p.1 j l) in
            let over : Agree s.vars p.0 w = λ j l. sym (p.1 j l) ∙ a j l in
            let x = meets-follows asked p.0 v s gs d.in_order p.2 (d.agrees p.0 p.2) back m in
            let y = meets-follows asked p.0 w s gs d.in_order p.2 (d.agrees p.0 p.2) over n in
            let lt : k < s.vars + length gs = omega (arith, vars_are s gs) in
            sym (x.0 k lt) ∙ y.0 k lt;
      }

  -- and an assignment that meets them follows the plan
  pub plan-follows : (asked v : ℕ → Bool) → MeetsSince asked v s (with_gates s gs) → Follows v s.vars gs
  plan-follows asked v m =
      let p = follow v s.vars gs d.in_order in
      (meets-follows asked p.0 v s gs d.in_order p.2 (d.agrees p.0 p.2) (λ j l. sym (p.1 j l)) m).1
