-- What a longer list with its gates says, step after step.
use Rattle.std.proofs.Common.{◌≡◌, ℕ, Bool, true, ◌&&◌, sym, ◌∙◌}
use Rattle.std.proofs.lemmas.Bool.{and_parts, and_from}
use Rattle.clause_store.specs.Clauses.{Clauses}
use Rattle.clause_circuits.specs.Growth.{Agree, MeetsSince, Says}
use Rattle.clause_circuits.proofs.Composed.{Grows-trans, Extends-refl, Agree-trans, MeetsSince-parts, MeetsSince-join, Meets-agree, since}
use Rattle.clause_formulas.specs.Gated.{Gated, gated, bare, Fits, GatesBelow, Keeps}
use Rattle.clause_formulas.specs.Allowed.{SaysIn}
use Rattle.clause_formulas.proofs.GateLaws.{Fits-agree, GatesBelow-le}

-- a rule that the gates have no part in
pub SaysIn-from : (s : Gated) (t : Clauses) (r : (ℕ → Bool) → (ℕ → Bool) → Bool) → GatesBelow s.list.vars s.gates → Says s.list t r
    → SaysIn s (gated t s.gates) r
SaysIn-from s t r i d = record {
  allows = record {
    grows = d.grows;
    below = GatesBelow-le s.list.vars t.vars s.gates d.grows.more i;
    fits = λ asked v q m. q;
    each = λ asked v q h. d.each asked v h;
  };
  only = λ asked v q m. d.only asked v m;
}

-- no rule, and nothing new
pub SaysIn-refl : (s : Gated) → GatesBelow s.list.vars s.gates → SaysIn s s (λ asked v. true)
SaysIn-refl s i = SaysIn-from s s.list (λ asked v. true) i (Extends-refl s.list)

-- a rule over no gates
pub SaysIn-alone : (s : Clauses) (t : Gated) (r : (ℕ → Bool) → (ℕ → Bool) → Bool) → SaysIn (bare s) t r → Says s t.list r
SaysIn-alone s t r d = record {
  grows = d.allows.grows;
  only = λ asked v m. d.only asked v tt m;
  each = λ asked v h. d.allows.each asked v tt h;
}

-- the same rule in other words
pub SaysIn-as : (s t : Gated) (r q : (ℕ → Bool) → (ℕ → Bool) → Bool) → SaysIn s t r → ((asked v : ℕ → Bool) → r asked v ≡ q asked v)
    → SaysIn s t q
SaysIn-as s t r q d e = record {
  allows = record {
    grows = d.allows.grows;
    below = d.allows.below;
    fits = d.allows.fits;
    each = λ asked v k h. d.allows.each asked v k (e asked v ∙ h);
  };
  only = λ asked v k m. sym (e asked v) ∙ d.only asked v k m;
}

-- two rules one after the other, where the second speaks of what the first defined
pub SaysIn-then : (a b c : Gated) (r p q : (ℕ → Bool) → (ℕ → Bool) → Bool) → GatesBelow a.list.vars a.gates → SaysIn a b r → SaysIn b c p
    → ((asked v : ℕ → Bool) → Fits v a.gates → MeetsSince asked v a.list b.list → p asked v ≡ q asked v)
    → ((asked v w : ℕ → Bool) → Agree a.list.vars v w → q asked v ≡ q asked w) → SaysIn a c (λ asked v. r asked v && q asked v)
SaysIn-then a b c r p q i d e link local =
    let first = d.allows.grows in
    let second = e.allows.grows in
    record {
      allows = record {
        grows = Grows-trans a.list b.list c.list first second;
        below = e.allows.below;
        fits = λ asked v k m.
            let t = MeetsSince-parts asked v a.list b.list c.list first second m in
            e.allows.fits asked v (d.allows.fits asked v k t.0) t.1;
        each = λ asked v k h.
            let t = and_parts (r asked v) (q asked v) h in
            let x = d.allows.each asked v k t.0 in
            let f = Fits-agree a.list.vars v x.0 x.1 a.gates i k in
            let y = e.allows.each asked x.0 (d.allows.fits asked x.0 f x.2)
            (link asked x.0 f x.2 ∙ sym (local asked v x.0 x.1) ∙ t.1) in (
              y.0,
              Agree-trans a.list.vars b.list.vars v x.0 y.0 first.more x.1 y.1,
              MeetsSince-join asked y.0 a.list b.list c.list first second
                  (Meets-agree asked b.list.vars x.0 y.0 y.1 (since a.list b.list) first.in_range x.2) y.2,
            );
      };
      only = λ asked v k m.
          let t = MeetsSince-parts asked v a.list b.list c.list first second m in
          and_from (r asked v) (q asked v) (d.only asked v k t.0)
          (sym (link asked v k t.0) ∙ e.only asked v (d.allows.fits asked v k t.0) t.1);
    }

-- definitions ask for nothing
pub SaysIn-keeps : (s t : Gated) → Keeps s t → SaysIn s t (λ asked v. true)
SaysIn-keeps s t d = record {
  allows = record {
    grows = d.extends.grows;
    below = d.below;
    fits = d.fits;
    each = λ asked v k h. d.extends.each asked v h;
  };
  only = λ asked v k m. d.extends.only asked v m;
}
