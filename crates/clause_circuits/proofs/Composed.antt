-- Steps one after the other.
use Rattle.std.proofs.Common.{◌≡◌, ℕ, ◌<◌, ◌≤◌, Bool, true, false, not, ◌&&◌, ◌||◌, List, [], ◌∷◌, ◌++◌, length, take, drop, refl, sym, ap, ◌∙◌, arith, append_assoc}
use Rattle.std.proofs.lemmas.Bool.{and_parts, and_from}
use Rattle.std.proofs.lemmas.List.{take-append-drop, append-nil}
use Rattle.std.proofs.Math.Seq.{drop-append_seam, drop-length}
use Rattle.clause_store.specs.declared.Lit.{Lit}
use Rattle.clause_store.specs.declared.list.Entry.{Entry}
use Rattle.clause_store.specs.Lits.{var_of, lit_true, clause_true, AllBelow}
use Rattle.clause_store.specs.Clauses.{Clauses, AllInRange, Meets, counts}
use Rattle.clause_store.proofs.Range.{AllInRange-le, AllInRange-append}
use Rattle.clause_circuits.specs.Growth.{Agree, MeetsSince, Grows, Says, Extends, Defines}
use Rattle.clause_store.proofs.Entries.{Meets-append, Meets-parts}

-- assignments that agree on the variables of a literal, a clause, a list of clauses
pub lit_true-agree : (n : ℕ) (v w : ℕ → Bool) → Agree n v w → (l : Lit) → var_of l < n → lit_true v l ≡ lit_true w l
lit_true-agree n v w a l h = rw (a (var_of l) h) refl

-- a clause rests on the values of its variables alone
pub clause_true-agree : (n : ℕ) (v w : ℕ → Bool) → Agree n v w → (ls : List Lit) → AllBelow n ls → clause_true v ls ≡ clause_true w ls
clause_true-agree n v w a [] b = refl
clause_true-agree n v w a (l ∷ ls) b = rw (lit_true-agree n v w a l b.0, clause_true-agree n v w a ls b.1) refl

-- so does meeting the clauses of a list
pub Meets-agree : (asked : ℕ → Bool) (n : ℕ) (v w : ℕ → Bool) → Agree n v w → (es : List Entry) → AllInRange n es → Meets asked v es
    → Meets asked w es
Meets-agree asked n v w a [] r m = tt
Meets-agree asked n v w a (e ∷ es) r m =
    (ap (λ b. not (counts asked e.label) || b) (sym (clause_true-agree n v w a e.clause r.0)) ∙ m.0, Meets-agree asked n v w a es r.1 m.1)

-- what the longer list has beyond the shorter
abbrev pub since : Clauses → Clauses → List Entry
since old new = drop (length old.entries) new.entries

-- the longer list is the shorter one and what was added since
pub whole : (a b : Clauses) → Grows a b → b.entries ≡ a.entries ++ since a b
whole a b g = sym (take-append-drop (length a.entries) b.entries) ∙ ap (λ es. es ++ since a b) g.keeps

take-seam : {A : Type 0} (xs ys : List A) → take (length xs) (xs ++ ys) ≡ xs
take-seam [] ys = refl
take-seam (x ∷ xs) ys = ap (λ zs. x ∷ zs) (take-seam xs ys)

-- a list that is another one with more at its end
pub Grows-from : (a b : Clauses) (es : List Entry) → b.entries ≡ a.entries ++ es → a.vars ≤ b.vars → AllInRange b.vars es → Grows a b
Grows-from a b es e m r = record {
  keeps = rw e (take-seam a.entries es);
  more = m;
  in_range = rw (e, drop-append_seam a.entries es) r;
}

-- what was added behind the shorter list is what was added since
pub since-from : (a b : Clauses) (es : List Entry) → b.entries ≡ a.entries ++ es → since a b ≡ es
since-from a b es e = rw e (drop-append_seam a.entries es)

since-parts : (a b c : Clauses) → Grows a b → Grows b c → since a c ≡ since a b ++ since b c
since-parts a b c g h = since-from a c (since a b ++ since b c) (whole b c h ∙ ap (λ es. es ++ since b c) (whole a b g)
    ∙ append_assoc a.entries (since a b) (since b c))

pub Grows-refl : (a : Clauses) → Grows a a
Grows-refl a = Grows-from a a [] (sym (append-nil a.entries)) (omega arith) tt

pub Grows-trans : (a b c : Clauses) → Grows a b → Grows b c → Grows a c
Grows-trans a b c g h =
    Grows-from a c (since a b ++ since b c)
    (whole b c h ∙ ap (λ es. es ++ since b c) (whole a b g) ∙ append_assoc a.entries (since a b) (since b c))
    (omega (arith, g.more, h.more))
    (AllInRange-append c.vars (since a b) (since b c) (AllInRange-le b.vars c.vars (since a b) h.more g.in_range) h.in_range)

-- what was added in two steps is met in both
pub MeetsSince-parts : (asked v : ℕ → Bool) (a b c : Clauses) → Grows a b → Grows b c → MeetsSince asked v a c → MeetsSince asked v a b
    × MeetsSince asked v b c
MeetsSince-parts asked v a b c g h m = Meets-parts asked v (since a b) (since b c) (rw (since-parts a b c g h) at m)

-- and the other way round
pub MeetsSince-join : (asked v : ℕ → Bool) (a b c : Clauses) → Grows a b → Grows b c → MeetsSince asked v a b → MeetsSince asked v b c
    → MeetsSince asked v a c
MeetsSince-join asked v a b c g h m n = rw (since-parts a b c g h) (Meets-append asked v (since a b) (since b c) m n)

pub Agree-trans : (m n : ℕ) (u v w : ℕ → Bool) → m ≤ n → Agree m u v → Agree n v w → Agree m u w
Agree-trans m n u v w h a b k l = a k l ∙ b k (omega arith)

-- two rules one after the other, where the second speaks of what the first defined
pub Says-then : (a b c : Clauses) (r p q : (ℕ → Bool) → (ℕ → Bool) → Bool) → Says a b r → Says b c p →
    ((asked v : ℕ → Bool) → MeetsSince asked v a b → p asked v ≡ q asked v) →
    ((asked v w : ℕ → Bool) → Agree a.vars v w → q asked v ≡ q asked w) →
    Says a c (λ asked v. r asked v && q asked v)
Says-then a b c r p q d e link local = record {
  grows = Grows-trans a b c d.grows e.grows;
  only = λ asked v m.
      let t = MeetsSince-parts asked v a b c d.grows e.grows m in
      and_from (r asked v) (q asked v) (d.only asked v t.0) (sym (link asked v t.0) ∙ e.only asked v t.1);
  each = λ asked v h.
      let t = and_parts (r asked v) (q asked v) h in
      let x = d.each asked v t.0 in
      let y = e.each asked x.0 (link asked x.0 x.2 ∙ sym (local asked v x.0 x.1) ∙ t.1) in (
        y.0,
        Agree-trans a.vars b.vars v x.0 y.0 d.grows.more x.1 y.1,
        MeetsSince-join asked y.0 a b c d.grows e.grows (Meets-agree asked b.vars x.0 y.0 y.1 (since a b) d.grows.in_range x.2) y.2,
      );
}

-- the same rule in other words
pub Says-as : (a b : Clauses) (r q : (ℕ → Bool) → (ℕ → Bool) → Bool) → Says a b r
    → ((asked v : ℕ → Bool) → r asked v ≡ q asked v) → Says a b q
Says-as a b r q d e = record {
  grows = d.grows;
  only = λ asked v m. sym (e asked v) ∙ d.only asked v m;
  each = λ asked v h. d.each asked v (e asked v ∙ h);
}

pub Extends-refl : (a : Clauses) → Extends a a
Extends-refl a = record {
  grows = Grows-refl a;
  only = λ asked v m. refl;
  each = λ asked v h. (v, (λ k l. refl), rw (drop-length a.entries) tt);
}

pub Extends-trans : (a b c : Clauses) → Extends a b → Extends b c → Extends a c
Extends-trans a b c d e = Says-then a b c (λ asked v. true) (λ asked v. true) (λ asked v. true) d e (λ asked v m. refl)
    (λ asked v w g. refl)

-- definitions after a rule
pub Says-extends : (a b c : Clauses) (r : (ℕ → Bool) → (ℕ → Bool) → Bool) → Says a b r → Extends b c → Says a c r
Says-extends a b c r d e =
    Says-as a c _ r (Says-then a b c r (λ asked v. true) (λ asked v. true) d e (λ asked v m. refl) (λ asked v w g. refl))
    (λ asked v. and-true (r asked v))
  where
    and-true : (x : Bool) → (x && true) ≡ x
    and-true true = refl
    and-true false = refl

pub Defines-refl : (a : Clauses) → Defines a a
Defines-refl a = record { says = Extends-refl a; once = λ asked v w g m n. g }

pub Defines-trans : (a b c : Clauses) → Defines a b → Defines b c → Defines a c
Defines-trans a b c d e = record {
  says = Extends-trans a b c d.says e.says;
  once = λ asked v w g m n.
      let p = MeetsSince-parts asked v a b c d.says.grows e.says.grows m in
      let q = MeetsSince-parts asked w a b c d.says.grows e.says.grows n in
      e.once asked v w (d.once asked v w g p.0 q.0) p.1 q.1;
}

-- what is defined extends
pub Extends-from : (a b : Clauses) → Defines a b → Extends a b
Extends-from a b d = d.says

pub ruleset growth = (Extends-refl, Extends-from)
