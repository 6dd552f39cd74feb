-- A formula that was defined is defined again by nothing.
use Rattle.std.proofs.Common.{◌≡◌, Bool, true, false, cond, ◌||◌, List, [], ◌∷◌, ◌++◌, Option, Some, None, refl, sym, ap, ◌∙◌, append_assoc}
use Rattle.std.specs.Cmp.Lexicographic.{pointwise, pointwise_decides}
use Rattle.std.proofs.lemmas.List.{append-nil}
use Rattle.std.proofs.lemmas.Option.{none-some}
use Rattle.clause_store.specs.declared.Lit.{Lit}
use Rattle.clause_store.specs.Lits.{lit_eq, clause_of}
use Rattle.clause_formulas.specs.declared.defined.Defined.{Defined}
use Rattle.clause_formulas.specs.declared.defined.Defined.TheVariants.{Known, By}
use Rattle.clause_formulas.specs.Statements.{Statement, atom, never, or, no}
use Rattle.clause_formulas.specs.Drafts.{ClauseDraft, empty, draft_with, reverse_of}
use Rattle.clause_formulas.specs.Gated.{Gate, Gated, gate_of}
use Rattle.clause_formulas.specs.Built.{Shared, or_on, or_in, found_or, by_clause, named_in, spread_in, define_in}
use Rattle.clause_formulas.proofs.DraftLaws.{or-false, or-assoc}
use Rattle.clause_formulas.proofs.GateLaws.{lit-decides}

-- what the one table finds, the other finds too
abbrev pub Later : Gated → Gated → Type 0
Later s t = (ls : List Lit) (l : Lit) → gate_of s.gates ls ≡ Some l → gate_of t.gates ls ≡ Some l

Later-refl : (s : Gated) → Later s s
Later-refl s ls l e = e

Later-trans : (s t u : Gated) → Later s t → Later t u → Later s u
Later-trans s t u a b ls l e = b ls l (a ls l e)

-- one gate more
last-later : (gs : List Gate) (g : Gate) (ls : List Lit) (l : Lit) → gate_of gs ls ≡ Some l → gate_of (gs ++ g ∷ []) ls ≡ Some l
last-later [] g ls l e = absurd (none-some l e)
last-later (h ∷ hs) g ls l e = by-bool (pointwise lit_eq ls h.0) e (last-later hs g ls l)
  where
    by-bool : (q : Bool) → cond q (Some h.1) (gate_of hs ls) ≡ Some l → (gate_of hs ls ≡ Some l → gate_of (hs ++ g ∷ []) ls ≡ Some l)
        → cond q (Some h.1) (gate_of (hs ++ g ∷ []) ls) ≡ Some l
    by-bool true e later = e
    by-bool false e later = later e

last-found : (gs : List Gate) (ls : List Lit) (l : Lit) → gate_of gs ls ≡ None → gate_of (gs ++ (ls, l) ∷ []) ls ≡ Some l
last-found [] ls l e = ap (λ q. cond q (Some l) None) ((pointwise_decides lit-decides ls ls).1 refl)
last-found (h ∷ hs) ls l e = by-bool (pointwise lit_eq ls h.0) e (last-found hs ls l)
  where
    by-bool : (q : Bool) → cond q (Some h.1) (gate_of hs ls) ≡ None → (gate_of hs ls ≡ None → gate_of (hs ++ (ls, l) ∷ []) ls ≡ Some l)
        → cond q (Some h.1) (gate_of (hs ++ (ls, l) ∷ []) ls) ≡ Some l
    by-bool true e later = absurd (none-some h.1 (sym e))
    by-bool false e later = later e

module _ (s : Gated) (ls : List Lit) where
  found-later : (o : Option Lit) → Later s (found_or s ls o).state
  found-later (Some l) = Later-refl s
  found-later None = last-later s.gates (ls, (or_on s.list ls).answer)

  found-kept : (o : Option Lit) → gate_of s.gates ls ≡ o → gate_of (found_or s ls o).state.gates ls ≡ Some (found_or s ls o).answer
  found-kept (Some l) e = e
  found-kept None e = last-found s.gates ls (or_on s.list ls).answer e

  or-later : Later s (or_in s ls).state
  unfolding or_in
  or-later = found-later (gate_of s.gates ls)

  or-kept : gate_of (or_in s ls).state.gates ls ≡ Some (or_in s ls).answer
  unfolding or_in
  or-kept = found-kept (gate_of s.gates ls) refl

or-again : (s t : Gated) (ls : List Lit) → Later (or_in s ls).state t → or_in t ls ≡ record { state = t; answer = (or_in s ls).answer }
unfolding or_in
or-again s t ls h = ap (found_or t ls) (h ls (or_in s ls).answer (or-kept s ls))

-- the value of a draft
by_clause-later : (s : Gated) (o : Option (List Lit)) → Later s (by_clause s o).state
by_clause-later s None = Later-refl s
by_clause-later s (Some []) = Later-refl s
by_clause-later s (Some (l ∷ [])) = Later-refl s
by_clause-later s (Some (l ∷ k ∷ c)) = or-later s (l ∷ k ∷ c)

by_clause-again : (s t : Gated) (o : Option (List Lit)) → Later (by_clause s o).state t
    → by_clause t o ≡ record { state = t; answer = (by_clause s o).answer }
by_clause-again s t None h = refl
by_clause-again s t (Some []) h = refl
by_clause-again s t (Some (l ∷ [])) h = refl
by_clause-again s t (Some (l ∷ k ∷ c)) h =
    ap (λ (m : Shared Lit). let made : Shared Defined = record { state = m.state; answer = By m.answer } in
    made) (or-again s t (l ∷ k ∷ c) h)

named_parts-later : (s : Gated) (ls : List Lit) (always : Bool) → Later s (named_in s (record { lits = ls; always = always })).state
unfolding named_in
named_parts-later s ls true = Later-refl s
named_parts-later s ls false = by_clause-later s (clause_of ls)

named_parts-again : (s t : Gated) (ls : List Lit) (always : Bool) → Later (named_in s (record { lits = ls; always = always })).state t
    → named_in t (record { lits = ls; always = always })
    ≡ record { state = t; answer = (named_in s (record { lits = ls; always = always })).answer }
unfolding named_in
named_parts-again s t ls true h = refl
named_parts-again s t ls false h = by_clause-again s t (clause_of ls) h

named-later : (s : Gated) (d : ClauseDraft) → Later s (named_in s d).state
named-later s d = named_parts-later s d.lits d.always

named-again : (s t : Gated) (d : ClauseDraft) → Later (named_in s d).state t
    → named_in t d ≡ record { state = t; answer = (named_in s d).answer }
named-again s t d h = named_parts-again s t d.lits d.always h

-- a draft with the literals of another
abbrev joined : ClauseDraft → ClauseDraft → ClauseDraft
joined d k = record { lits = d.lits ++ k.lits; always = d.always || k.always }

joined-empty : (d : ClauseDraft) → d ≡ joined d empty
joined-empty d = λ i. record { lits = sym (append-nil d.lits) i; always = sym (or-false d.always) i }

empty-joined : (d : ClauseDraft) → joined empty d ≡ d
empty-joined d = refl

joined-assoc : (d k j : ClauseDraft) → joined (joined d k) j ≡ joined d (joined k j)
joined-assoc d k j = λ i. record { lits = append_assoc d.lits k.lits j.lits i; always = or-assoc d.always k.always j.always i }

-- what a value adds
abbrev adds : Defined → ClauseDraft
adds (Known b) = record { lits = []; always = b }
adds (By l) = record { lits = l ∷ []; always = false }

with-adds : (d : ClauseDraft) (x : Defined) → draft_with d x ≡ joined d (adds x)
with-adds d (Known b) = λ i. record { lits = sym (append-nil d.lits) i; always = d.always || b }
with-adds d (By l) = λ i. record { lits = d.lits ++ l ∷ []; always = sym (or-false d.always) i }

-- two runs of one formula add the same; the later one finds all gates
record Again (s t : Gated) (d e : ClauseDraft) (f : Statement) : Type 0 where
  more : ClauseDraft
  first : (spread_in s d f).answer ≡ joined d more
  second : spread_in t e f ≡ record { state = t; answer = joined e more }

-- gates are only added to
pub spread-later : (f : Statement) (s : Gated) (d : ClauseDraft) → Later s (spread_in s d f).state
spread-later (atom l) s d = Later-refl s
spread-later never s d = Later-refl s
spread-later (or f g) s d =
    let m = spread_in s d f in
    Later-trans s m.state (spread_in m.state m.answer g).state (spread-later f s d) (spread-later g m.state m.answer)
spread-later (no f) s d =
    let m = spread_in s empty f in
    Later-trans s m.state (named_in m.state m.answer).state (spread-later f s empty) (named-later m.state m.answer)

spread-again : (f : Statement) (s t : Gated) (d e : ClauseDraft) → Later (spread_in s d f).state t → Again s t d e f
spread-again (atom l) s t d e h = record {
  more = adds (By l);
  first = with-adds d (By l);
  second = ap (λ (k : ClauseDraft). let made : Shared ClauseDraft = record { state = t; answer = k } in made) (with-adds e (By l));
}
spread-again never s t d e h = record {
  more = empty;
  first = joined-empty d;
  second = ap (λ (k : ClauseDraft). let made : Shared ClauseDraft = record { state = t; answer = k } in made) (joined-empty e);
}
spread-again (or f g) s t d e h =
    let m = spread_in s d f in
    let n = spread_in m.state m.answer g in
    let a = spread-again f s t d e (Later-trans m.state n.state t (spread-later g m.state m.answer) h) in
    let b = spread-again g m.state t m.answer (joined e a.more) h in
    record {
      more = joined a.more b.more;
      first = b.first ∙ ap (λ k. joined k b.more) a.first ∙ joined-assoc d a.more b.more;
      second = ap (λ (k : Shared ClauseDraft). spread_in k.state k.answer g) a.second ∙ b.second
          ∙ ap (λ (k : ClauseDraft). let made : Shared ClauseDraft = record { state = t; answer = k } in
          made) (joined-assoc e a.more b.more);
    }
spread-again (no f) s t d e h =
    let m = spread_in s empty f in
    let n = named_in m.state m.answer in
    let a = spread-again f s t empty empty (Later-trans m.state n.state t (named-later m.state m.answer) h) in
    let x = reverse_of n.answer in
    record {
      more = adds x;
      first = with-adds d x;
      second = ap (λ (k : Shared ClauseDraft). let p = named_in k.state k.answer in
          let made : Shared ClauseDraft = record { state = p.state; answer = draft_with e (reverse_of p.answer) } in made)
          (a.second ∙ ap (λ (k : ClauseDraft). let made : Shared ClauseDraft = record { state = t; answer = k } in made) (sym a.first))
          ∙ ap (λ (p : Shared Defined). let made : Shared ClauseDraft =
          record { state = p.state; answer = draft_with e (reverse_of p.answer) } in made)
          (named-again m.state t m.answer h)
          ∙ ap (λ (k : ClauseDraft). let made : Shared ClauseDraft = record { state = t; answer = k } in made) (with-adds e x);
    }

-- ---- values

define-later : (s : Gated) (f : Statement) → Later s (define_in s f).state
unfolding define_in
define-later s f =
    let m = spread_in s empty f in
    Later-trans s m.state (named_in m.state m.answer).state (spread-later f s empty) (named-later m.state m.answer)

define-found : (s t : Gated) (f : Statement) → Later (define_in s f).state t
    → define_in t f ≡ record { state = t; answer = (define_in s f).answer }
unfolding define_in
define-found s t f h =
    let m = spread_in s empty f in
    let a = spread-again f s t empty empty (Later-trans m.state (named_in m.state m.answer).state t (named-later m.state m.answer) h) in
    ap (λ (k : Shared ClauseDraft). named_in k.state k.answer)
    (a.second ∙ ap (λ (k : ClauseDraft). let made : Shared ClauseDraft = record { state = t; answer = k } in made) (sym a.first))
    ∙ named-again m.state t m.answer h

-- a formula that was defined has its value again, and adds nothing
pub define-again : (s : Gated) (f g : Statement) → define_in (define_in (define_in s f).state g).state f
    ≡ record { state = (define_in (define_in s f).state g).state; answer = (define_in s f).answer }
define-again s f g =
    let t = (define_in s f).state in
    define-found s (define_in t g).state f (define-later t g)
