-- Bits behind an encoding.
use Rattle.std.proofs.Common.{◌≡◌, refl, sym, ap, subst, ◌∙◌, Bool, true, ℕ, List}
use Rattle.std.specs.List.{list_all}
use Rattle.clause_store.specs.declared.Lit.{Lit}
use Rattle.clause_formulas.specs.Statements.{eval}
use Rattle.clause_store.specs.Clauses.{Clauses, Meets}
use Rattle.clause_circuits.specs.Growth.{MeetsSince}
use Rattle.criteria_totals.specs.Spellings.{compare_bits, compare_numbers}
use Rattle.criteria_totals.specs.Totals.{values_at}
use Rattle.graph_core.specs.Graphs.{Text, Content}
use Rattle.problem.specs.Nodes.{IsWellFormed}
use Rattle.problem.specs.Problems.{Problem}
use Rattle.literal_table.specs.Tables.{Table}
use Rattle.graph_levels.specs.Stages.{Nothing, Models, Stage, Decodes}
use Rattle.graph_levels.proofs.Growing.{added, meets-parts}
use Rattle.graph_encoding.specs.Formulas.{Formulas, IsRightTable, AreRightFormulas}
use Rattle.graph_encoding.specs.Encodings.{encode_on, rules_on, levels_made, edges_made, told_in, IsValid}
use Rattle.graph_encoding.specs.Best.{SaysAll, OrdersBits, RanksGraphs}
use Rattle.graph_encoding.proofs.Joining.{S5, R5, whole, whole-models, whole-decodes, is-valid, valid-is}

module _ (problem : Problem) (t : Table) (n : ℕ) (f : Formulas) (decode : (ℕ → Bool) → Content) (right : IsRightTable problem t n f decode)
    (targets : List Text) (holds : ℕ → Content → Bool) (says : AreRightFormulas problem t n f (told_in t targets) holds) where
  abbrev pub list : Clauses
  list = whole problem t n f decode right targets holds says

  abbrev pub S : (ℕ → Bool) → Content → Type 0
  S = S5 problem t n f decode right targets holds says

  abbrev pub R : (ℕ → Bool) → Content → Type 0
  R = R5 problem t n f decode right targets holds says

  models : Models list S R
  models = whole-models problem t n f decode right targets holds says

  valid : (asked : ℕ → Bool) (g : Content) → R asked g → IsValid problem asked g
  valid = is-valid problem t n f decode right targets holds says

  -- an assignment that meets the clauses says all of the graph that it decodes to
  pub all-said : (asked v : ℕ → Bool) → Meets asked v list.entries → S v (decode v) × IsValid problem asked (decode v)
  all-said asked v m =
      let w = models.sound asked v m in
      let ok = valid asked w.0 w.2 in
      let same : decode v ≡ w.0 = right.decoded v w.0 w.1.0.0.0.0.0 ok.0 in
      (subst (S v) (sym same) w.1, subst (IsValid problem asked) (sym same) ok)

  -- and meets the structure
  pub structured : (asked v : ℕ → Bool) → Meets asked v (encode_on problem t n f targets).entries → list_all (eval v) f.structure ≡ true
  unfolding encode_on rules_on levels_made edges_made
  structured asked v m = let w = all-said asked v m in right.fits v (decode v) w.0.0.0.0.0.0 w.1.0

  says-all : (v : ℕ → Bool) (g : Content) → S v g → SaysAll problem t n f targets holds v g
  unfolding levels_made edges_made
  says-all v g s = record {
    spells = s.0.0.0.0.0;
    edges = s.0.0.0.0.1;
    paths = s.0.0.0.1;
    conditions = s.0.0.1.0;
  }

  module _ (new : Clauses) (bits : List Lit) (sums : (ℕ → Bool) → List ℕ) (numbers : Content → List ℕ)
      (orders : OrdersBits list new bits sums)
      (same : (v : ℕ → Bool) (g : Content) → SaysAll problem t n f targets holds v g → IsWellFormed g → sums v ≡ numbers g) where
    bits-stage : Stage list new S Nothing R Nothing
    bits-stage = record {
      grows = orders.defines.says.grows;
      local = λ v w x g s. tt;
      more = λ asked v x s r m. tt;
      only = λ asked v x s r m. tt;
      each = λ asked v x s r q. orders.defines.says.each asked v refl;
    }

    parts : (asked v : ℕ → Bool) → Meets asked v new.entries → Meets asked v list.entries × MeetsSince asked v list new
    parts asked v m = meets-parts list new asked v orders.defines.says.grows m

    sums-are : (asked v : ℕ → Bool) → Meets asked v new.entries → sums v ≡ numbers (decode v)
    sums-are asked v m = let w = all-said asked v (parts asked v m).0 in same v (decode v) (says-all v (decode v) w.0) w.1.0

    new-decodes : Decodes new decode (IsValid problem)
    new-decodes =
        let old = whole-decodes problem t n f decode right targets holds says in
        let made = added list new S Nothing R Nothing models bits-stage in record {
          sound = λ asked v m. old.sound asked v (parts asked v m).0;
          complete = λ asked g ok.
              let w = made.complete asked g (valid-is problem t n f decode right targets holds says asked g ok, tt) in
              (w.0, right.decoded w.0 g w.1.0.0.0.0.0.0 ok.0, w.2);
        }

    new-order : (asked v w : ℕ → Bool) → Meets asked v new.entries → Meets asked w new.entries
        → compare_bits (values_at v bits) (values_at w bits) ≡ compare_numbers (numbers (decode v)) (numbers (decode w))
    new-order asked v w m k = orders.order asked v w (parts asked v m).1 (parts asked w k).1
        ∙ ap (λ x. compare_numbers x (sums w)) (sums-are asked v m) ∙ ap (compare_numbers (numbers (decode v))) (sums-are asked w k)

    -- bits that compare as numbers rank the graphs
    pub ranks : RanksGraphs new decode (IsValid problem) bits numbers
    ranks = record {
      decodes = new-decodes;
      order = new-order;
      equal = λ asked v w m k e. sym (sums-are asked v m) ∙ orders.equal asked v w (parts asked v m).1 (parts asked w k).1 e
          ∙ sums-are asked w k;
      best = λ asked v m small g ok more.
          let w = new-decodes.complete asked g ok in
          small w.0 w.2 (new-order asked v w.0 m w.2 ∙ ap (λ h. compare_numbers (numbers (decode v)) (numbers h)) w.1 ∙ more);
    }

-- so do bits of sums behind an encoding
pub ranked : (problem : Problem) (t : Table) (n : ℕ) (f : Formulas) (decode : (ℕ → Bool) → Content)
    (right : IsRightTable problem t n f decode)
    (targets : List Text) (holds : ℕ → Content → Bool) (says : AreRightFormulas problem t n f (told_in t targets) holds) (new : Clauses)
    (bits : List Lit) (sums : (ℕ → Bool) → List ℕ) (numbers : Content → List ℕ) → OrdersBits (encode_on problem t n f targets) new bits sums
    → ((v : ℕ → Bool) (g : Content) → SaysAll problem t n f targets holds v g → IsWellFormed g → sums v ≡ numbers g)
    → RanksGraphs new decode (IsValid problem) bits numbers
unfolding encode_on rules_on levels_made edges_made
ranked problem t n f decode right targets holds says new bits sums numbers orders same =
    ranks problem t n f decode right targets holds says new bits sums numbers orders same
