-- Arcs that can begin no path add no clause, and ask for nothing.
use Rattle.std.proofs.Common.{◌≡◌, ℕ, Bool, true, false, cond, not, eqb, ◌&&◌, ◌||◌, List, [], ◌∷◌, map, refl, sym, ap, ◌∙◌, Option, Some, None}
use Rattle.std.specs.List.{filter, list_all}
use Rattle.std.proofs.lemmas.Bool.{false≢true}
use Rattle.clause_store.specs.declared.Lit.{Lit}
use Rattle.clause_store.specs.declared.Label.TheVariants.{Structure}
use Rattle.clause_store.specs.Clauses.{Clauses}
use Rattle.clause_store.specs.Lits.{negation, lit_true}
use Rattle.clause_formulas.specs.Statements.{Statement, atom, never, or, eval, opposite, any_statement, both_statements, implication_of}
use Rattle.clause_formulas.specs.Drafts.{ClauseDraft, empty}
use Rattle.clause_formulas.specs.Gated.{Gated, bare}
use Rattle.clause_formulas.specs.Built.{Shared, ask_in, assert_on, covered_on, drafted, named_in, with_draft}
use Rattle.level_encoding.specs.declared.input.Arc.{Arc}
use Rattle.level_encoding.specs.Asserted.{assert_all}
use Rattle.level_encoding.specs.Input.{LevelData, literal_at}
use Rattle.level_encoding.specs.Encoding.{leads, way, path, begins_path, way_rules, arcs_leaving}
use Rattle.level_encoding.specs.Towards.{may_begin, arcs_towards, way_rules_over}

-- what such an arc says: its literal, and a path that there is not
abbrev idle : Lit → Statement
idle l = both_statements (atom l) never

begins-idle : (s : LevelData) (q : ℕ) (a : Arc) → may_begin s q a ≡ false → begins_path s q a ≡ idle a.lit
unfolding may_begin begins_path way
begins-idle s q a h = by-tests (eqb a.child q) (leads s q a.child) _ h
  where
    by-tests : (b c : Bool) (l : Lit) → (b || c) ≡ false
        → cond b (atom a.lit) (both_statements (atom a.lit) (literal_at (cond c (Some l) None))) ≡ idle a.lit
    by-tests true c l h = absurd (false≢true (sym h))
    by-tests false true l h = absurd (false≢true (sym h))
    by-tests false false l h = refl

-- ---- clauses

or_false : (b : Bool) → (b || false) ≡ b
or_false true = refl
or_false false = refl

abbrev asked : Gated → ClauseDraft → Shared ClauseDraft
asked g d = record { state = g; answer = d }

-- it adds no literal to a clause
ask-idle : (g : Gated) (d : ClauseDraft) (l : Lit) → ask_in g d (idle l) ≡ asked g d
unfolding named_in covered_on
ask-idle g d l = ap (λ (b : Bool). asked g (record d { always = b })) (or_false d.always)

-- its own rule always holds
rule-idle : (list : Clauses) (l : Lit) (o : Option Lit) → assert_on Structure list true (implication_of (idle l) (literal_at o)) ≡ list
unfolding named_in covered_on with_draft
rule-idle list l None = refl
rule-idle list l (Some k) = refl

module _ (s : LevelData) (q : ℕ) where
  abbrev begun : List Arc → Statement
  begun arcs = any_statement (map (begins_path s q) arcs)

  ask-few : (arcs : List Arc) (g : Gated) (d : ClauseDraft) → ask_in g d (begun arcs) ≡ ask_in g d (begun (filter (may_begin s q) arcs))
  ask-few [] g d = refl
  ask-few (a ∷ arcs) g d = by-test (may_begin s q a) refl (ask-few arcs)
    where
      by-test : (b : Bool) → may_begin s q a ≡ b
          → ((g : Gated) (d : ClauseDraft) → ask_in g d (begun arcs) ≡ ask_in g d (begun (filter (may_begin s q) arcs)))
          → ask_in g d (begun (a ∷ arcs)) ≡ ask_in g d (begun (cond b (a ∷ filter (may_begin s q) arcs) (filter (may_begin s q) arcs)))
      by-test true is rest = rest (ask_in g d (begins_path s q a)).state (ask_in g d (begins_path s q a)).answer
      by-test false is rest =
          ap (λ f. ask_in g d (or f (begun arcs))) (begins-idle s q a is)
          ∙ ap (λ (m : Shared ClauseDraft). ask_in m.state m.answer (begun arcs)) (ask-idle g d a.lit)
          ∙ rest g d

  eval-idle : (v : ℕ → Bool) (l : Lit) → eval v (idle l) ≡ false
  eval-idle v l = by-value (lit_true v (negation l))
    where
      by-value : (b : Bool) → not (b || true) ≡ false
      by-value true = refl
      by-value false = refl

  eval-few : (v : ℕ → Bool) (arcs : List Arc) → eval v (begun arcs) ≡ eval v (begun (filter (may_begin s q) arcs))
  eval-few v [] = refl
  eval-few v (a ∷ arcs) = by-test (may_begin s q a) refl (eval-few v arcs)
    where
      by-test : (b : Bool) → may_begin s q a ≡ b → eval v (begun arcs) ≡ eval v (begun (filter (may_begin s q) arcs))
          → eval v (begun (a ∷ arcs)) ≡ eval v (begun (cond b (a ∷ filter (may_begin s q) arcs) (filter (may_begin s q) arcs)))
      by-test true is rest = ap (λ b. eval v (begins_path s q a) || b) rest
      by-test false is rest =
          ap (λ f. eval v f || eval v (begun arcs)) (begins-idle s q a is)
          ∙ ap (λ b. b || eval v (begun arcs)) (eval-idle v a.lit)
          ∙ rest

  module _ (p : ℕ) where
    abbrev rule : Arc → Statement
    rule a = implication_of (begins_path s q a) (path s p q)

    rules-few : (arcs : List Arc) (list : Clauses) → assert_all list (map rule arcs) ≡ assert_all list (map rule (filter (may_begin s q) arcs))
    unfolding assert_all
    rules-few [] list = refl
    rules-few (a ∷ arcs) list = by-test (may_begin s q a) refl (rules-few arcs)
      where
        by-test : (b : Bool) → may_begin s q a ≡ b
            → ((list : Clauses) → assert_all list (map rule arcs) ≡ assert_all list (map rule (filter (may_begin s q) arcs)))
            → assert_all (assert_on Structure list true (rule a)) (map rule arcs)
            ≡ assert_all list (map rule (cond b (a ∷ filter (may_begin s q) arcs) (filter (may_begin s q) arcs)))
        by-test true is rest = rest (assert_on Structure list true (rule a))
        by-test false is rest =
            ap (λ t. assert_all t (map rule arcs))
            (ap (λ f. assert_on Structure list true (implication_of f (path s p q))) (begins-idle s q a is)
            ∙ rule-idle list a.lit (way s q p))
            ∙ rest list

    -- the clauses are those of all arcs
    pub way-few : (list : Clauses) → assert_all list (way_rules_over s q p (arcs_towards s q p)) ≡ assert_all list (way_rules s q p)
    unfolding way_rules way_rules_over assert_all
    way-few list =
        let arcs = arcs_leaving s p in
        let few = filter (may_begin s q) arcs in
        let first = λ (arcs : List Arc). assert_on Structure list true (or (opposite (path s p q)) (begun arcs)) in
        let m = ask_in (bare list) empty (opposite (path s p q)) in
        sym (rules-few arcs (first arcs)
        ∙ ap (λ (n : Shared ClauseDraft). assert_all (drafted n.state Structure n.answer).list (map rule few)) (ask-few arcs m.state m.answer))

    rule-holds : (v : ℕ → Bool) (l : Lit) (f : Statement) → eval v (implication_of (idle l) f) ≡ true
    rule-holds v l f = by-value (lit_true v (negation l)) (eval v f || false)
      where
        by-value : (b c : Bool) → ((b || true) || c) ≡ true
        by-value true c = refl
        by-value false c = refl

    hold-few : (v : ℕ → Bool) (arcs : List Arc) → list_all (eval v) (map rule arcs) ≡ list_all (eval v) (map rule (filter (may_begin s q) arcs))
    hold-few v [] = refl
    hold-few v (a ∷ arcs) = by-test (may_begin s q a) refl (hold-few v arcs)
      where
        by-test : (b : Bool) → may_begin s q a ≡ b
            → list_all (eval v) (map rule arcs) ≡ list_all (eval v) (map rule (filter (may_begin s q) arcs))
            → list_all (eval v) (map rule (a ∷ arcs))
            ≡ list_all (eval v) (map rule (cond b (a ∷ filter (may_begin s q) arcs) (filter (may_begin s q) arcs)))
        by-test true is rest = ap (λ b. eval v (rule a) && b) rest
        by-test false is rest =
            ap (λ f. eval v (implication_of f (path s p q)) && list_all (eval v) (map rule arcs)) (begins-idle s q a is)
            ∙ ap (λ b. b && list_all (eval v) (map rule arcs)) (rule-holds v a.lit (path s p q))
            ∙ rest

    -- and hold where those do
    pub meets-few : (v : ℕ → Bool) → list_all (eval v) (way_rules_over s q p (arcs_towards s q p)) ≡ list_all (eval v) (way_rules s q p)
    unfolding way_rules way_rules_over
    meets-few v = sym (λ i. (eval v (opposite (path s p q)) || eval-few v (arcs_leaving s p) i) && hold-few v (arcs_leaving s p) i)
