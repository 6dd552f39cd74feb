-- Stages one after the other.
use Rattle.std.proofs.Common.{◌≡◌, ℕ, ◌≤◌, Bool, sym, subst, arith}
use Rattle.clause_store.specs.Clauses.{Clauses, Meets, AllInRange}
use Rattle.clause_store.proofs.Entries.{Meets-append, Meets-parts}
use Rattle.clause_store.proofs.Range.{AllInRange-le, AllInRange-append}
use Rattle.clause_circuits.specs.Growth.{Agree, Grows, MeetsSince}
use Rattle.clause_circuits.proofs.Composed.{since, whole, Grows-trans, MeetsSince-parts, MeetsSince-join, Meets-agree, Agree-trans}
use Rattle.graph_levels.specs.Stages.{Both, IsLocal, Models, Stage, Decodes}

-- what is asked for of a longer list
pub meets-parts : (a b : Clauses) (asked v : ℕ → Bool) → Grows a b → Meets asked v b.entries → Meets asked v a.entries
    × MeetsSince asked v a b
meets-parts a b asked v g m = Meets-parts asked v a.entries (since a b) (rw (whole a b g) at m)

-- a list is met where its front is and what was added
pub meets-join : (a b : Clauses) (asked v : ℕ → Bool) → Grows a b → Meets asked v a.entries → MeetsSince asked v a b
    → Meets asked v b.entries
meets-join a b asked v g m n = rw (whole a b g) (Meets-append asked v a.entries (since a b) m n)

agree-le : (m n : ℕ) (v w : ℕ → Bool) → m ≤ n → Agree n v w → Agree m v w
agree-le m n v w h a k l = a k (omega arith)

-- what rests on fewer variables rests on more
pub local-le : {X : Type 0} (m n : ℕ) (S : (ℕ → Bool) → X → Type 0) → m ≤ n → IsLocal m S → IsLocal n S
local-le m n S h l v w x a s = l v w x (agree-le m n v w h a) s

-- both rest on them
pub local-both : {X : Type 0} (n : ℕ) (S M : (ℕ → Bool) → X → Type 0) → IsLocal n S → IsLocal n M → IsLocal n (Both S M)
local-both n S M l k v w x a s = (l v w x a s.0, k v w x a s.1)

-- clauses that are added are in range
pub in-range : (a b : Clauses) → Grows a b → AllInRange a.vars a.entries → AllInRange b.vars b.entries
in-range a b g r = subst (AllInRange b.vars) (sym (whole a b g))
    (AllInRange-append b.vars a.entries (since a b) (AllInRange-le a.vars b.vars a.entries g.more r) g.in_range)

module _ {X : Type 0} where
  -- a list with a stage more
  pub added : (a b : Clauses) (S M R Q : (ℕ → Bool) → X → Type 0) → Models a S R → Stage a b S M R Q → Models b (Both S M) (Both R Q)
  added a b S M R Q old stage = record {
    in_range = in-range a b stage.grows old.in_range;
    local = local-both b.vars S M (local-le a.vars b.vars S stage.grows.more old.local) stage.local;
    sound = λ asked v m.
        let p = meets-parts a b asked v stage.grows m in
        let t = old.sound asked v p.0 in
        (t.0, (t.1, stage.more asked v t.0 t.1 t.2 p.1), (t.2, stage.only asked v t.0 t.1 t.2 p.1));
    complete = λ asked x h.
        let t = old.complete asked x h.0 in
        let e = stage.each asked t.0 x t.1 h.0 h.1 in
        let s : S e.0 x = old.local t.0 e.0 x e.1 t.1 in (
          e.0,
          (s, stage.more asked e.0 x s h.0 e.2),
          meets-join a b asked e.0 stage.grows (Meets-agree asked a.vars t.0 e.0 e.1 a.entries old.in_range t.2) e.2,
        );
  }

  -- two stages are one
  pub joined : (a b c : Clauses) (S M N R Q P : (ℕ → Bool) → X → Type 0) → IsLocal a.vars S → Stage a b S M R Q
      → Stage b c (Both S M) N (Both R Q) P → Stage a c S (Both M N) R (Both Q P)
  joined a b c S M N R Q P local first second = record {
    grows = Grows-trans a b c first.grows second.grows;
    local = local-both c.vars M N (local-le b.vars c.vars M second.grows.more first.local) second.local;
    more = λ asked v x s r m.
        let p = MeetsSince-parts asked v a b c first.grows second.grows m in
        let more = first.more asked v x s r p.0 in
        (more, second.more asked v x (s, more) (r, first.only asked v x s r p.0) p.1);
    only = λ asked v x s r m.
        let p = MeetsSince-parts asked v a b c first.grows second.grows m in
        let rule = first.only asked v x s r p.0 in
        (rule, second.only asked v x (s, first.more asked v x s r p.0) (r, rule) p.1);
    each = λ asked v x s r q.
        let t = first.each asked v x s r q.0 in
        let spells : S t.0 x = local v t.0 x t.1 s in
        let u = second.each asked t.0 x (spells, first.more asked t.0 x spells r t.2) (r, q.0) q.1 in (
          u.0,
          Agree-trans a.vars b.vars v t.0 u.0 first.grows.more t.1 u.1,
          MeetsSince-join asked u.0 a b c first.grows second.grows
              (Meets-agree asked b.vars t.0 u.0 u.1 (since a b) first.grows.in_range t.2) u.2,
        );
  }

  -- a stage under more, or in other words
  pub restated : (a b : Clauses) (S M R Q S' R' : (ℕ → Bool) → X → Type 0) → ((asked v : ℕ → Bool) (x : X) → S' v x → R' asked x → S v x)
      → ((asked v : ℕ → Bool) (x : X) → S' v x → R' asked x → R asked x) → Stage a b S M R Q → Stage a b S' M R' Q
  restated a b S M R Q S' R' f g stage = record {
    grows = stage.grows;
    local = stage.local;
    more = λ asked v x s r. stage.more asked v x (f asked v x s r) (g asked v x s r);
    only = λ asked v x s r. stage.only asked v x (f asked v x s r) (g asked v x s r);
    each = λ asked v x s r. stage.each asked v x (f asked v x s r) (g asked v x s r);
  }

  -- models in other words
  pub named : (a : Clauses) (S R S' R' : (ℕ → Bool) → X → Type 0) → IsLocal a.vars S' → ((v : ℕ → Bool) (x : X) → S v x → S' v x)
      → ((asked : ℕ → Bool) (x : X) → R asked x → R' asked x) → ((asked : ℕ → Bool) (x : X) → R' asked x → R asked x)
      → Models a S R → Models a S' R'
  named a S R S' R' local f g h old = record {
    in_range = old.in_range;
    local = local;
    sound = λ asked v m. let t = old.sound asked v m in (t.0, f v t.0 t.1, g asked t.0 t.2);
    complete = λ asked x r. let t = old.complete asked x (h asked x r) in (t.0, f t.0 x t.1, t.2);
  }

  -- what is spelled is what is decoded
  pub decodes : (a : Clauses) (S R : (ℕ → Bool) → X → Type 0) (decode : (ℕ → Bool) → X) → ((v : ℕ → Bool) (x : X) → S v x → decode v ≡ x)
      → Models a S R → Decodes a decode R
  decodes a S R decode f old = record {
    sound = λ asked v m. let t = old.sound asked v m in subst (R asked) (sym (f v t.0 t.1)) t.2;
    complete = λ asked x r. let t = old.complete asked x r in (t.0, f t.0 x t.1, t.2);
  }
