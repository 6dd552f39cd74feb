-- What the clauses of a draft say.
use Rattle.std.proofs.Common.{◌≡◌, ℕ, Bool, true, false, not, ◌||◌, List, [], ◌∷◌, map, Option, Some, None, refl, sym, ap, ◌∙◌, arith}
use Rattle.clause_store.specs.declared.Lit.{Lit}
use Rattle.clause_store.specs.declared.Label.{Label}
use Rattle.clause_store.specs.Lits.{lit_true, clause_true, clause_of, AllBelow}
use Rattle.clause_store.specs.Clauses.{Clauses, counts}
use Rattle.clause_store.proofs.Range.{AllBelow-le}
use Rattle.clause_formulas.specs.declared.defined.Defined.{Defined}
use Rattle.clause_formulas.specs.declared.defined.Defined.TheVariants.{Known, By}
use Rattle.clause_formulas.specs.Statements.{Statement, atom, never, or, no, eval, SaidBelow}
use Rattle.clause_formulas.specs.Drafts.{ClauseDraft, empty, draft_true, draft_with, defined_true, DefinedBelow, reverse_of}
use Rattle.clause_circuits.specs.Growth.{MeetsSince, Says, Defines, where_asked}
use Rattle.clause_formulas.specs.Gated.{Gated, Fits, GatesBelow, Keeps}
use Rattle.clause_formulas.specs.Values.{DefinesIn}
use Rattle.clause_circuits.specs.Gates.{kept_clauses, labelled}
use Rattle.clause_formulas.specs.Built.{with_kept}
use Rattle.clause_formulas.specs.Built.{by_clause, named_in, spread_in, with_draft}
use Rattle.clause_store.proofs.Meaning.{clause_of-Some, clause_of-None, AllBelow-clause_of}
use Rattle.clause_circuits.proofs.KeptClauses.{kept-below, labelled-in_range, kept-true, true-kept}
use Rattle.clause_circuits.proofs.Composed.{Grows-from, since-from, Says-as, Extends-refl, Defines-refl, Defines-trans, MeetsSince-parts}
use Rattle.clause_formulas.proofs.GateLaws.{Keeps-refl, Keeps-trans}
use Rattle.clause_formulas.proofs.ValueLaws.{or_in_is}
use Rattle.clause_formulas.proofs.DraftLaws.{SaidBelow-le, or-false, or-assoc, with_defined-true, with_defined-below, reverse-true, reverse-below}

DefinesIn-as : (s t : Gated) (x : Defined) (f g : (ℕ → Bool) → Bool) → DefinesIn s t x f → ((v : ℕ → Bool) → f v ≡ g v)
    → DefinesIn s t x g
DefinesIn-as s t x f g d e = record {
  defines = d.defines;
  keeps = d.keeps;
  means = record { below = d.means.below; value = λ asked v k m. d.means.value asked v k m ∙ e v };
}

same_value : (s : Gated) (x : Defined) (f : (ℕ → Bool) → Bool) → GatesBelow s.list.vars s.gates → DefinedBelow s.list.vars x
    → ((v : ℕ → Bool) → defined_true v x ≡ f v) → DefinesIn s s x f
same_value s x f k b e = record {
  defines = Defines-refl s.list;
  keeps = Keeps-refl s k;
  means = record { below = b; value = λ asked v h m. e v };
}

by_clause_is : (s : Gated) (ls : List Lit) (o : Option (List Lit)) → AllBelow s.list.vars ls → GatesBelow s.list.vars s.gates
    → clause_of ls ≡ o → DefinesIn s (by_clause s o).state (by_clause s o).answer (λ v. clause_true v ls)
by_clause_is s ls None b k e = same_value s (Known true) (λ v. clause_true v ls) k tt (λ v. sym (clause_of-None v ls e))
by_clause_is s ls (Some []) b k e = same_value s (Known false) (λ v. clause_true v ls) k tt (λ v. clause_of-Some v ls [] e)
by_clause_is s ls (Some (l ∷ [])) b k e =
    same_value s (By l) (λ v. clause_true v ls) k (AllBelow-clause_of s.list.vars ls (l ∷ []) b e).0 (λ v. sym (or-false (lit_true v l))
    ∙ clause_of-Some v ls (l ∷ []) e)
by_clause_is s ls (Some (l ∷ m ∷ c)) b k e =
    DefinesIn-as s _ _ (λ v. clause_true v (l ∷ m ∷ c)) (λ v. clause_true v ls)
    (or_in_is s (l ∷ m ∷ c) (AllBelow-clause_of s.list.vars ls (l ∷ m ∷ c) b e) k) (λ v. clause_of-Some v ls (l ∷ m ∷ c) e)

named_parts : (s : Gated) (ls : List Lit) (always : Bool) → AllBelow s.list.vars ls → GatesBelow s.list.vars s.gates
    → DefinesIn s (named_in s (record { lits = ls; always = always })).state (named_in s (record { lits = ls; always = always })).answer
    (λ v. always || clause_true v ls)
unfolding named_in
named_parts s ls true b k = same_value s (Known true) (λ v. true) k tt (λ v. refl)
named_parts s ls false b k = by_clause_is s ls (clause_of ls) b k refl

-- the value of a draft means that some part of it is true
pub named_is : (s : Gated) (d : ClauseDraft) → AllBelow s.list.vars d.lits → GatesBelow s.list.vars s.gates
    → DefinesIn s (named_in s d).state (named_in s d).answer (λ v. draft_true v d)
named_is s d b k = named_parts s d.lits d.always b k

-- a draft got the literals that make a formula true
pub record Spreads (s : Gated) (d : ClauseDraft) (t : Gated) (e : ClauseDraft) (f : Statement) : Type 0 where
  pub defines : Defines s.list t.list
  pub keeps : Keeps s t
  pub below : AllBelow t.list.vars e.lits
  pub says : (asked v : ℕ → Bool) → Fits v s.gates → MeetsSince asked v s.list t.list → draft_true v e ≡ (draft_true v d || eval v f)

Spreads-or : (s t u : Gated) (d e k : ClauseDraft) (f g : Statement) → Spreads s d t e f → Spreads t e u k g → Spreads s d u k (or f g)
Spreads-or s t u d e k f g a b = record {
  defines = Defines-trans s.list t.list u.list a.defines b.defines;
  keeps = Keeps-trans s t u a.keeps b.keeps;
  below = b.below;
  says = λ asked v h m.
      let p = MeetsSince-parts asked v s.list t.list u.list a.defines.says.grows b.defines.says.grows m in
      b.says asked v (a.keeps.fits asked v h p.0) p.1 ∙ ap (λ x. x || eval v g) (a.says asked v h p.0)
      ∙ or-assoc (draft_true v d) (eval v f) (eval v g);
}

Spreads-no : (s t u : Gated) (d e : ClauseDraft) (x : Defined) (f : Statement) → AllBelow s.list.vars d.lits → Spreads s empty t e f
    → DefinesIn t u x (λ v. draft_true v e) → Spreads s d u (draft_with d (reverse_of x)) (no f)
Spreads-no s t u d e x f h a b = record {
  defines = Defines-trans s.list t.list u.list a.defines b.defines;
  keeps = Keeps-trans s t u a.keeps b.keeps;
  below = with_defined-below u.list.vars d (reverse_of x)
      (AllBelow-le s.list.vars u.list.vars d.lits (omega (arith, a.defines.says.grows.more, b.defines.says.grows.more)) h)
      (reverse-below u.list.vars x b.means.below);
  says = λ asked v k m.
      let p = MeetsSince-parts asked v s.list t.list u.list a.defines.says.grows b.defines.says.grows m in
      with_defined-true v d (reverse_of x) ∙ ap (λ y. draft_true v d || y) (reverse-true v x
      ∙ ap not (b.means.value asked v (a.keeps.fits asked v k p.0) p.1 ∙ a.says asked v k p.0));
}

-- a formula is spread into the literals of one clause
pub spread_is : (f : Statement) (s : Gated) (d : ClauseDraft) → AllBelow s.list.vars d.lits → GatesBelow s.list.vars s.gates
    → SaidBelow s.list.vars f → Spreads s d (spread_in s d f).state (spread_in s d f).answer f
spread_is (atom l) s d h k b = record {
  defines = Defines-refl s.list;
  keeps = Keeps-refl s k;
  below = with_defined-below s.list.vars d (By l) h b;
  says =
      λ asked v q m. with_defined-true v d (By l);
}
spread_is never s d h k b = record {
  defines = Defines-refl s.list;
  keeps = Keeps-refl s k;
  below = h;
  says = λ asked v q m. sym (or-false (draft_true v d));
}
spread_is (or f g) s d h k b =
    let m = spread_in s d f in
    let x = spread_is f s d h k b.0 in
    Spreads-or s m.state _ d m.answer _ f g x (spread_is g m.state m.answer x.below x.keeps.below
    (SaidBelow-le s.list.vars m.state.list.vars g x.defines.says.grows.more b.1))
spread_is (no f) s d h k b =
    let m = spread_in s empty f in
    let x = spread_is f s empty tt k b in
    Spreads-no s m.state _ d m.answer _ f h x (named_is m.state m.answer x.below x.keeps.below)

kept_says : (s : Clauses) (label : Label) (ls : List Lit) → AllBelow s.vars ls
    → Says s (with_kept s label ls) (where_asked label (λ v. clause_true v ls))
kept_says s label ls b = record {
  grows = Grows-from s (with_kept s label ls) (map (labelled label) (kept_clauses ls)) refl (omega arith)
      (labelled-in_range s.vars label (kept_clauses ls) (kept-below s.vars ls b));
  only = λ asked v m. kept-true asked v label ls
      (rw (since-from s (with_kept s label ls) (map (labelled label) (kept_clauses ls)) refl) at m);
  each = λ asked v h. (
    v,
    (λ k l. refl),
    rw (since-from s (with_kept s label ls) (map (labelled label) (kept_clauses ls)) refl)
        (true-kept asked v label ls h),
  );
}

pub or-true : (a : Bool) → (a || true) ≡ true
or-true true = refl
or-true false = refl

draft_parts : (s : Clauses) (label : Label) (ls : List Lit) (always : Bool) → AllBelow s.vars ls
    → Says s (with_draft s label (record { lits = ls; always = always })) (where_asked label (λ v. always || clause_true v ls))
unfolding with_draft
draft_parts s label ls true b = Says-as s s (λ asked v. true) (where_asked label (λ v. true)) (Extends-refl s)
    (λ asked v. sym (or-true (not (counts asked label))))
draft_parts s label ls false b = kept_says s label ls b

-- the clause of a draft asks for some part of it, and for nothing else
pub draft_says : (s : Clauses) (label : Label) (d : ClauseDraft) → AllBelow s.vars d.lits
    → Says s (with_draft s label d) (where_asked label (λ v. draft_true v d))
draft_says s label d b = draft_parts s label d.lits d.always b
