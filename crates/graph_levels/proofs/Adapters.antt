-- What the calls that add clauses promise, as stages.
use Rattle.std.proofs.Common.{◌≡◌, ℕ, ◌+◌, ◌≤◌, Bool, true, false, List, [], ◌∷◌, map, refl, sym, ap, ◌∙◌}
use Rattle.std.specs.List.{list_all}
use Rattle.std.proofs.lemmas.List.{append-nil}
use Rattle.std.proofs.Math.Seq.{drop-length}
use Rattle.clause_store.specs.declared.Label.TheVariants.{Structure}
use Rattle.clause_store.specs.Clauses.{Clauses}
use Rattle.clause_circuits.specs.Growth.{Grows, MeetsSince, Says as ClausesSay, where_asked}
use Rattle.clause_circuits.proofs.Composed.{Grows-from}
use Rattle.clause_formulas.specs.Statements.{Statement, eval}
use Rattle.clause_formulas.specs.declared.defined.Defined.{Defined}
use Rattle.clause_formulas.specs.Drafts.{statement_at, part_at}
use Rattle.clause_formulas.specs.Gated.{Gated, Fits}
use Rattle.clause_formulas.specs.Values.{DefinesValues}
use Rattle.clause_formulas.specs.Allowed.{SaysIn}
use Rattle.clause_formulas.specs.Built.{demands_true}
use Rattle.clause_formulas.proofs.DraftLaws.{eval-agree}
use Rattle.clause_formulas.proofs.GateLaws.{Fits-agree}
use Rattle.clause_formulas.proofs.Words.{value-said, value-below}
use Rattle.graph_levels.proofs.Growing.{meets-parts, meets-join, local-le, in-range}
use Rattle.graph_levels.specs.Stages.{Nothing, Both, IsLocal, Models, Stage}
use Rattle.graph_levels.specs.Rules.{Tells, Says, Holds, FitsGates, ValuesSay, asked_among, KeepsAsked}

module _ {X : Type 0} (a b : Gated) (S R : (ℕ → Bool) → X → Type 0) (fit : (v : ℕ → Bool) (x : X) → S v x → Fits v a.gates) where
  -- clauses that say a rule
  pub said : (rule : (ℕ → Bool) → (ℕ → Bool) → Bool) (Q : (ℕ → Bool) → X → Type 0) → SaysIn a b rule → Tells S R rule Q
      → Stage a.list b.list S (FitsGates b.gates) R Q
  said rule Q says tells = record {
    grows = says.allows.grows;
    local = λ v w x g s. Fits-agree b.list.vars v w g b.gates says.allows.below s;
    more = λ asked v x s r m. says.allows.fits asked v (fit v x s) m;
    only = λ asked v x s r m. (tells asked v x s r).0 (says.only asked v (fit v x s) m);
    each = λ asked v x s r q. says.allows.each asked v (fit v x s) ((tells asked v x s r).1 q);
  }

  -- a formula of the structure
  pub asserted : (f : Statement) (test : X → Bool) → SaysIn a b (where_asked Structure (λ v. eval v f)) → Says S R f test
      → Stage a.list b.list S (FitsGates b.gates) R (Holds test)
  asserted f test says tells = said _ (Holds test) says (λ asked v x s r. (
    (λ e. sym (tells asked v x s r) ∙ e),
    (λ e. tells asked v x s r ∙ e),
  ))

  -- values of formulas
  pub defined : (ds : List Defined) (fs : List Statement) (test : ℕ → X → Bool) → DefinesValues a b ds fs
      → ((k : ℕ) → Says S R (part_at fs k) (test k)) → Stage a.list b.list S (Both (ValuesSay ds test) (FitsGates b.gates)) R Nothing
  defined ds fs test values tells = record {
    grows = values.defines.says.grows;
    local = λ v w x g s. (
      (λ k. sym (eval-agree b.list.vars v w g (statement_at ds k) (value-below a b ds fs values.means k)) ∙ s.0 k),
      Fits-agree b.list.vars v w g b.gates values.keeps.below s.1,
    );
    more = λ asked v x s r m. (
      (λ k. value-said a b asked v (fit v x s) m ds fs values.means k ∙ tells k asked v x s r),
      values.keeps.fits asked v (fit v x s) m,
    );
    only = λ asked v x s r m. tt;
    each = λ asked v x s r q. values.defines.says.each asked v refl;
  }

  -- demands in the order of their numbers
  pub demanded : {D : Type 0} (ds : List D) (f : D → Statement) (keeps : X → D → Bool)
      → SaysIn a b (λ asked v. demands_true asked v 0 (map f ds)) → ((d : D) → Says S R (f d) (λ x. keeps x d))
      → Stage a.list b.list S (FitsGates b.gates) R (KeepsAsked keeps ds)
  demanded {D} ds f keeps says tells = said _ (KeepsAsked keeps ds) says (λ asked v x s r. (
    (λ e. sym (same asked v x s r 0 ds) ∙ e),
    (λ e. same asked v x s r 0 ds ∙ e),
  ))
    where
      demanded-cases : (asked v : ℕ → Bool) (x : X) → S v x → R asked x → (id : ℕ) (d : D) (ds : List D)
          → demands_true asked v (id + 1) (map f ds) ≡ list_all (keeps x) (asked_among asked (id + 1) ds)
          → (q : Bool) → asked id ≡ q → demands_true asked v id (map f (d ∷ ds)) ≡ list_all (keeps x) (asked_among asked id (d ∷ ds))
      demanded-cases asked v x s r id d ds rest true e = rw (e, tells d asked v x s r, rest) refl
      demanded-cases asked v x s r id d ds rest false e = rw (e, rest) refl

      same : (asked v : ℕ → Bool) (x : X) → S v x → R asked x → (id : ℕ) (ds : List D)
          → demands_true asked v id (map f ds) ≡ list_all (keeps x) (asked_among asked id ds)
      same asked v x s r id [] = refl
      same asked v x s r id (d ∷ ds) = demanded-cases asked v x s r id d ds (same asked v x s r (id + 1) ds) (asked id) refl

module _ {X : Type 0} (a b : Clauses) (S R : (ℕ → Bool) → X → Type 0) where
  -- more variables
  pub varied : (n : ℕ) → a.vars ≤ n → b ≡ record a { vars = n } → Stage a b S Nothing R Nothing
  varied n h e = record {
    grows = grown;
    local = λ v w x g s. tt;
    more = λ asked v x s r m. tt;
    only = λ asked v x s r m. tt;
    each = λ asked v x s r q. (v, (λ k l. refl), none asked v);
  }
    where
      grown : Grows a b
      grown = Grows-from a b [] (ap (λ t. t.entries) e ∙ sym (append-nil a.entries)) (rw (ap (λ t. t.vars) e) h) tt

      none : (asked v : ℕ → Bool) → MeetsSince asked v a b
      none asked v = rw (ap (λ t. t.entries) e, drop-length a.entries) tt

-- the first clauses: they are met exactly where a right thing is spelled
pub begun : {X : Type 0} (a b : Clauses) (S R : (ℕ → Bool) → X → Type 0) (rule : (ℕ → Bool) → (ℕ → Bool) → Bool) → a.entries ≡ []
    → IsLocal a.vars S → ClausesSay a b rule → ((asked v : ℕ → Bool) → rule asked v ≡ true → (x : X) × S v x × R asked x)
    → ((asked : ℕ → Bool) (x : X) → R asked x → (v : ℕ → Bool) × S v x × (rule asked v ≡ true)) → Models b S R
begun a b S R rule none local says reads spelled = record {
  in_range = in-range a b says.grows (rw none tt);
  local = local-le a.vars b.vars S says.grows.more local;
  sound = λ asked v m. reads asked v (says.only asked v (meets-parts a b asked v says.grows m).1);
  complete = λ asked x r.
      let t = spelled asked x r in
      let e = says.each asked t.0 t.2 in
      (e.0, local t.0 e.0 x e.1 t.1, meets-join a b asked e.0 says.grows (rw none tt) e.2);
}
