-- What the clauses of a formula that is asked for say.
use Rattle.std.proofs.Common.{◌≡◌, ℕ, Bool, true, false, not, ◌||◌, List, [], ◌∷◌, Option, Some, None, refl, sym, ap, ◌∙◌, arith}
use Rattle.clause_store.specs.declared.Lit.{Lit}
use Rattle.clause_store.specs.declared.Label.{Label}
use Rattle.clause_store.specs.Lits.{lit_true, clause_true, clause_of, AllBelow}
use Rattle.clause_store.specs.Clauses.{Clauses, counts}
use Rattle.clause_store.proofs.Range.{AllBelow-le}
use Rattle.clause_store.proofs.Meaning.{clause_of-Some, clause_of-None, AllBelow-clause_of}
use Rattle.clause_circuits.specs.Growth.{Agree, MeetsSince, Extends, where_asked}
use Rattle.clause_circuits.specs.Gates.{clauses_from, lit_of}
use Rattle.clause_circuits.specs.Shapes.{cover_rules, with_cover}
use Rattle.clause_circuits.proofs.Composed.{Grows-refl, Grows-trans, Extends-refl, MeetsSince-parts, MeetsSince-join, Meets-agree, clause_true-agree, since, Agree-trans}
use Rattle.clause_circuits.proofs.Cover.{cover-gate}
use Rattle.clause_formulas.specs.declared.defined.Defined.{Defined}
use Rattle.clause_formulas.specs.declared.defined.Defined.TheVariants.{Known, By}
use Rattle.clause_formulas.specs.Statements.{Statement, atom, never, or, no, eval, SaidBelow}
use Rattle.clause_formulas.specs.Drafts.{ClauseDraft, empty, draft_true, draft_with, defined_true, DefinedBelow, reverse_of}
use Rattle.clause_formulas.specs.Gated.{Gated, gated, Fits, GatesBelow, Keeps}
use Rattle.clause_formulas.specs.Values.{CoversValue}
use Rattle.clause_formulas.specs.Allowed.{SaysIn}
use Rattle.clause_formulas.specs.Built.{cover_on, by_cover, covered_on, ask_in, spread_in, with_draft, drafted}
use Rattle.clause_formulas.proofs.DraftLaws.{eval-agree, SaidBelow-le, or-false, or-assoc, with_defined-true, with_defined-below, reverse-true, reverse-below}
use Rattle.clause_formulas.proofs.GateLaws.{Fits-agree, GatesBelow-le, Keeps-refl, Keeps-trans, Keeps-extends}
use Rattle.clause_formulas.proofs.SpreadLaws.{Spreads, spread_is, draft_says}

-- a value that is one already
same_cover : (s : Clauses) (x : Defined) (f : (ℕ → Bool) → Bool) → DefinedBelow s.vars x → ((v : ℕ → Bool) → defined_true v x ≡ f v)
    → CoversValue s s x f
same_cover s x f b e = record {
  grows = Grows-refl s;
  below = b;
  covers = λ asked v m t. e v ∙ t;
  each = λ asked v. let w = (Extends-refl s).each asked v refl in (w.0, w.1, w.2, e w.0);
}

cover_as : (s t : Clauses) (x : Defined) (f g : (ℕ → Bool) → Bool) → CoversValue s t x f → ((v : ℕ → Bool) → f v ≡ g v)
    → CoversValue s t x g
cover_as s t x f g d e = record {
  grows = d.grows;
  below = d.below;
  covers = λ asked v m h. d.covers asked v m (e v ∙ h);
  each = λ asked v. let w = d.each asked v in (w.0, w.1, w.2, w.3 ∙ e w.0);
}

cover_is : (s : Clauses) (ls : List Lit) → AllBelow s.vars ls
    → CoversValue s (cover_on s ls).list (By (cover_on s ls).answer) (λ v. clause_true v ls)
unfolding cover_on
cover_is s ls b =
    let g = cover-gate s ls b (clauses_from (cover_rules (lit_of s.vars) ls)) (lit_of s.vars) refl refl (with_cover s ls) refl in
    record { grows = g.grows; below = g.below; covers = g.covers; each = g.each }

-- the code made the definition's literal
pub cover-built : (s t : Clauses) (ls : List Lit) (l : Lit) → l ≡ lit_of s.vars → t ≡ with_cover s ls
    → cover_on s ls ≡ record { list = t; answer = l }
unfolding cover_on
cover-built s t ls l e f = rw (e, f) refl

by_cover_is : (s : Clauses) (ls : List Lit) (o : Option (List Lit)) → AllBelow s.vars ls → clause_of ls ≡ o
    → CoversValue s (by_cover s o).list (by_cover s o).answer (λ v. clause_true v ls)
by_cover_is s ls None b e = same_cover s (Known true) (λ v. clause_true v ls) tt (λ v. sym (clause_of-None v ls e))
by_cover_is s ls (Some []) b e = same_cover s (Known false) (λ v. clause_true v ls) tt (λ v. clause_of-Some v ls [] e)
by_cover_is s ls (Some (l ∷ [])) b e =
    same_cover s (By l) (λ v. clause_true v ls) (AllBelow-clause_of s.vars ls (l ∷ []) b e).0 (λ v. sym (or-false (lit_true v l))
    ∙ clause_of-Some v ls (l ∷ []) e)
by_cover_is s ls (Some (l ∷ k ∷ c)) b e =
    cover_as s _ _ (λ v. clause_true v (l ∷ k ∷ c)) (λ v. clause_true v ls)
    (cover_is s (l ∷ k ∷ c) (AllBelow-clause_of s.vars ls (l ∷ k ∷ c) b e)) (λ v. clause_of-Some v ls (l ∷ k ∷ c) e)

covered_parts : (s : Clauses) (ls : List Lit) (always : Bool) → AllBelow s.vars ls
    → CoversValue s (covered_on s (record { lits = ls; always = always })).list
    (covered_on s (record { lits = ls; always = always })).answer (λ v. always || clause_true v ls)
unfolding covered_on
covered_parts s ls true b = same_cover s (Known true) (λ v. true) tt (λ v. refl)
covered_parts s ls false b = by_cover_is s ls (clause_of ls) b refl

covered_is : (s : Clauses) (d : ClauseDraft) → AllBelow s.vars d.lits
    → CoversValue s (covered_on s d).list (covered_on s d).answer (λ v. draft_true v d)
covered_is s d b = covered_parts s d.lits d.always b

draft_true-agree : (n : ℕ) (v w : ℕ → Bool) → Agree n v w → (d : ClauseDraft) → AllBelow n d.lits → draft_true v d ≡ draft_true w d
draft_true-agree n v w a d b = ap (λ x. d.always || x) (clause_true-agree n v w a d.lits b)

-- a cover leaves each old assignment open
CoversValue-extends : (s t : Clauses) (x : Defined) (f : (ℕ → Bool) → Bool) → CoversValue s t x f → Extends s t
CoversValue-extends s t x f d = record {
  grows = d.grows;
  only = λ asked v m. refl;
  each = λ asked v h. let w = d.each asked v in (w.0, w.1, w.2);
}

-- a draft got literals of which none is true unless the formula is
pub record Asks (s : Gated) (d : ClauseDraft) (t : Gated) (e : ClauseDraft) (f : Statement) : Type 0 where
  pub keeps : Keeps s t
  pub below : AllBelow t.list.vars e.lits
  pub only : (asked v : ℕ → Bool) → Fits v s.gates → MeetsSince asked v s.list t.list → draft_true v e ≡ true
      → (draft_true v d || eval v f) ≡ true
  pub each : (asked v : ℕ → Bool) → Fits v s.gates → (w : ℕ → Bool) × Agree s.list.vars v w × MeetsSince asked w s.list t.list
      × (draft_true w e ≡ (draft_true w d || eval w f))

Asks-same : (s : Gated) (d e : ClauseDraft) (f : Statement) → GatesBelow s.list.vars s.gates → AllBelow s.list.vars e.lits
    → ((v : ℕ → Bool) → draft_true v e ≡ (draft_true v d || eval v f)) → Asks s d s e f
Asks-same s d e f k b h = record {
  keeps = Keeps-refl s k;
  below = b;
  only = λ asked v q m t. sym (h v) ∙ t;
  each = λ asked v q. let w = (Extends-refl s.list).each asked v refl in (w.0, w.1, w.2, h w.0);
}

or-then : (a b c : Bool) → ((a || c) ≡ true) → (a ≡ true → b ≡ true) → (b || c) ≡ true
or-then true b c t h = ap (λ x. x || c) (h refl)
or-then false true c t h = refl
or-then false false c t h = t

Asks-or : (s t u : Gated) (d e k : ClauseDraft) (f g : Statement) → GatesBelow s.list.vars s.gates → AllBelow s.list.vars d.lits
    → SaidBelow s.list.vars f → Asks s d t e f → Asks t e u k g → Asks s d u k (or f g)
Asks-or s t u d e k f g i h l a b =
    let first = a.keeps.extends.grows in
    let second = b.keeps.extends.grows in
    record {
      keeps = Keeps-trans s t u a.keeps b.keeps;
      below = b.below;
      only = λ asked v q m y.
          let p = MeetsSince-parts asked v s.list t.list u.list first second m in
          sym (or-assoc (draft_true v d) (eval v f) (eval v g))
          ∙ or-then (draft_true v e) (draft_true v d || eval v f) (eval v g) (b.only asked v (a.keeps.fits asked v q p.0) p.1 y)
          (a.only asked v q p.0);
      each = λ asked v q.
          let x = a.each asked v q in
          let y = b.each asked x.0 (a.keeps.fits asked x.0 (Fits-agree s.list.vars v x.0 x.1 s.gates i q) x.2) in
          let near : Agree s.list.vars x.0 y.0 = λ j lt. y.1 j (omega (arith, lt, first.more)) in
          let same : (draft_true x.0 d || eval x.0 f) ≡ (draft_true y.0 d || eval y.0 f) =
          rw (draft_true-agree s.list.vars x.0 y.0 near d h, eval-agree s.list.vars x.0 y.0 near f l) refl in (
            y.0,
            Agree-trans s.list.vars t.list.vars v x.0 y.0 first.more x.1 y.1,
            MeetsSince-join asked y.0 s.list t.list u.list first second
                (Meets-agree asked t.list.vars x.0 y.0 y.1 (since s.list t.list) first.in_range x.2) y.2,
            y.3 ∙ ap (λ z. z || eval y.0 g) (sym (draft_true-agree t.list.vars x.0 y.0 y.1 e a.below) ∙ x.3 ∙ same)
                ∙ or-assoc (draft_true y.0 d) (eval y.0 f) (eval y.0 g),
          );
    }

-- what is not covered is false
or-uncovered : (d x e : Bool) → (d || not x) ≡ true → (e ≡ true → x ≡ true) → (d || not e) ≡ true
or-uncovered true x e t h = refl
or-uncovered false true e t h = absurd (cc)
or-uncovered false false true t h = h refl
or-uncovered false false false t h = refl

Asks-no : (s t : Gated) (u : Clauses) (d e : ClauseDraft) (x : Defined) (f : Statement) → GatesBelow s.list.vars s.gates
    → AllBelow s.list.vars d.lits → Spreads s empty t e f → CoversValue t.list u x (λ v. draft_true v e)
    → Asks s d (gated u t.gates) (draft_with d (reverse_of x)) (no f)
Asks-no s t u d e x f i h a b =
    let first = a.defines.says in
    record {
      keeps = Keeps-trans s t (gated u t.gates) a.keeps
          (Keeps-extends t.list u t.gates a.keeps.below (CoversValue-extends t.list u x (λ v. draft_true v e) b));
      below = with_defined-below u.vars d (reverse_of x)
          (AllBelow-le s.list.vars u.vars d.lits (omega (arith, first.grows.more, b.grows.more)) h) (reverse-below u.vars x b.below);
      only = λ asked v q m y.
          let p = MeetsSince-parts asked v s.list t.list u first.grows b.grows m in
          or-uncovered (draft_true v d) (defined_true v x) (eval v f) (ap (λ z. draft_true v d || z) (sym (reverse-true v x))
          ∙ sym (with_defined-true v d (reverse_of x)) ∙ y) (λ r. b.covers asked v p.1 (a.says asked v q p.0 ∙ r));
      each = λ asked v q.
          let w = first.each asked v refl in
          let y = b.each asked w.0 in
          let m = Meets-agree asked t.list.vars w.0 y.0 y.1 (since s.list t.list) first.grows.in_range w.2 in
          let near = Agree-trans s.list.vars t.list.vars v w.0 y.0 first.grows.more w.1 y.1 in (
            y.0,
            near,
            MeetsSince-join asked y.0 s.list t.list u first.grows b.grows m y.2,
            with_defined-true y.0 d (reverse_of x) ∙ ap (λ z. draft_true y.0 d || z) (reverse-true y.0 x
                ∙ ap not (y.3 ∙ a.says asked y.0 (Fits-agree s.list.vars v y.0 near s.gates i q) m)),
          );
    }

-- a formula that is asked for is spread into a draft, with one side of its parts
pub ask_is : (f : Statement) (s : Gated) (d : ClauseDraft) → AllBelow s.list.vars d.lits → GatesBelow s.list.vars s.gates
    → SaidBelow s.list.vars f → Asks s d (ask_in s d f).state (ask_in s d f).answer f
ask_is (atom l) s d h i b = Asks-same s d (draft_with d (By l)) (atom l) i (with_defined-below s.list.vars d (By l) h b)
    (λ v. with_defined-true v d (By l))
ask_is never s d h i b = Asks-same s d d never i h (λ v. sym (or-false (draft_true v d)))
ask_is (or f g) s d h i b =
    let m = ask_in s d f in
    let x = ask_is f s d h i b.0 in
    Asks-or s m.state _ d m.answer _ f g i h b.0 x (ask_is g m.state m.answer x.below x.keeps.below
    (SaidBelow-le s.list.vars m.state.list.vars g x.keeps.extends.grows.more b.1))
ask_is (no f) s d h i b =
    let m = spread_in s empty f in
    let x = spread_is f s empty tt i b in
    Asks-no s m.state _ d m.answer _ f i h x (covered_is m.state.list m.answer x.below)

-- the clause of what was asked
asked-only : (c e f : Bool) → (not c || e) ≡ true → (e ≡ true → f ≡ true) → (not c || f) ≡ true
asked-only true e f t h = h t
asked-only false e f t h = refl

-- the clause of such a draft asks for the formula, and for nothing else
pub asked_says : (s : Gated) (label : Label) (f : Statement) → GatesBelow s.list.vars s.gates → SaidBelow s.list.vars f
    → SaysIn s (drafted (ask_in s empty f).state label (ask_in s empty f).answer) (where_asked label (λ v. eval v f))
asked_says s label f i b =
    let m = ask_in s empty f in
    let t = m.state.list in
    let x = ask_is f s empty tt i b in
    let y = draft_says t label m.answer x.below in
    let u = with_draft t label m.answer in
    let first = x.keeps.extends.grows in
    record {
      allows = record {
        grows = Grows-trans s.list t u first y.grows;
        below = GatesBelow-le t.vars u.vars m.state.gates y.grows.more x.keeps.below;
        fits = λ asked v q h. x.keeps.fits asked v q (MeetsSince-parts asked v s.list t u first y.grows h).0;
        each = λ asked v q h.
            let w = x.each asked v q in
            let same : eval v f ≡ draft_true w.0 m.answer = eval-agree s.list.vars v w.0 w.1 f b ∙ sym w.3 in
            let z = y.each asked w.0 (ap (λ e. not (counts asked label) || e) (sym same) ∙ h) in (
              z.0,
              Agree-trans s.list.vars t.vars v w.0 z.0 first.more w.1 z.1,
              MeetsSince-join asked z.0 s.list t u first y.grows
                  (Meets-agree asked t.vars w.0 z.0 z.1 (since s.list t) first.in_range w.2) z.2,
            );
      };
      only = λ asked v q h.
          let p = MeetsSince-parts asked v s.list t u first y.grows h in
          asked-only (counts asked label) (draft_true v m.answer) (eval v f) (y.only asked v p.1) (x.only asked v q p.0);
    }
