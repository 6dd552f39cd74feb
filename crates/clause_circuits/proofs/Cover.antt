-- One side of the gate for some literal of a list.
use Rattle.std.proofs.Common.{◌≡◌, ℕ, ◌+◌, Bool, true, false, not, ◌&&◌, ◌||◌, List, [], ◌∷◌, ◌++◌, length, take, map, refl, sym, ap, ◌∙◌, inl, inr, arith}
use Rattle.std.proofs.lemmas.Bool.{cases_lt}
use Rattle.std.proofs.lemmas.List.{take-append-le, take_all, map-append}
use Rattle.std.proofs.Math.Seq.{take-append_seam}
use Rattle.clause_store.specs.declared.Lit.{Lit}
use Rattle.clause_store.specs.declared.Label.TheVariants.{Structure}
use Rattle.clause_store.specs.Lits.{negation, lit_true, clause_true, AllBelow}
use Rattle.clause_store.specs.Clauses.{Clauses, with_var}
use Rattle.clause_store.proofs.Entries.{Meets-parts}
use Rattle.clause_store.proofs.Meaning.{lit_true-negation}
use Rattle.clause_circuits.specs.Growth.{Extends, DefinesLit, CoversLit, MeetsSince}
use Rattle.clause_circuits.specs.Gates.{Partial, AllClausesBelow, clauses_from, gate_rules, labelled, lit_of, rules_true, with_defined}
use Rattle.clause_circuits.specs.Shapes.{any_of, singles, cover_rules, with_cover}
use Rattle.clause_circuits.proofs.Composed.{Grows-from, since-from}
use Rattle.clause_circuits.proofs.KeptClauses.{AllClausesBelow-take, labelled-in_range, rules-true}
use Rattle.clause_circuits.proofs.Plans.{headed-true}
use Rattle.clause_circuits.proofs.Loops.{clauses_from-append}
use Rattle.clause_circuits.proofs.OneGate.{any-below, any-rules-below, any-stopped, any-gate}
use Rattle.clause_circuits.proofs.Added.{first-below}

-- each literal of a list is false, or the list is true
negated-true : (v : ℕ → Bool) (ls : List Lit) → rules_true v (singles (map negation ls)) ≡ not (clause_true v ls)
negated-true v [] = refl
negated-true v (l ∷ ls) = rw (lit_true-negation v l, negated-true v ls) (neither (lit_true v l) (clause_true v ls))
  where
    neither : (a b : Bool) → ((not a || false) && not b) ≡ not (a || b)
    neither true b = refl
    neither false b = refl

covered : (x c : Bool) → (x || not c) ≡ true → c ≡ true → x ≡ true
covered true c h e = refl
covered false true h e = h
covered false false h e = e

-- from the clauses that the code made for the next variable
module _ (s : Clauses) (ls : List Lit) (b : AllBelow s.vars ls) (cs : List (List Lit)) (x : Lit) (e : cs ≡ clauses_from (cover_rules x ls))
    (h : x ≡ lit_of s.vars) where
  abbrev all : List (List Lit)
  all = clauses_from (gate_rules x (any_of ls))

  abbrev rest : List (List Lit)
  rest = clauses_from ((negation x ∷ ls) ∷ [])

  all-is : all ≡ cs ++ rest
  all-is = clauses_from-append (cover_rules x ls) ((negation x ∷ ls) ∷ []) ∙ ap (λ (ds : List (List Lit)). ds ++ rest) (sym e)

  -- the clauses are over the old variables and the new one
  pub cover-below : AllClausesBelow (s.vars + 1) cs
  cover-below =
      let below = AllClausesBelow-take (s.vars + 1) (length cs) all (any-below s ls b all x refl h) in
      rw (all-is, take-append_seam cs rest) at below

  -- so are the rules that they come from
  pub cover-rules-below : (cur : Clauses) → cur ≡ with_var s → AllClausesBelow cur.vars (cover_rules x ls)
  cover-rules-below cur q = first-below cur.vars (gate_rules x (any_of ls)) (cover_rules x ls) ((negation x ∷ ls) ∷ []) refl
      (any-rules-below s ls b all x refl h cur q)

  front : (k : ℕ) → (j : ℕ) × (take k cs ≡ take j all)
  front k = elim (cases_lt k (length cs)) [
    | inl lt ↦ (k, rw all-is (sym (take-append-le k cs rest (omega arith))))
    | inr le ↦ (length cs, take_all k cs le ∙ rw all-is (sym (take-append_seam cs rest)))
  ]

  -- where the code stopped on the way, each old assignment still extends
  pub cover-stopped : (new : Clauses) → Partial s new cs → Extends s new
  cover-stopped new p = any-stopped s ls b all x refl h new (elim p [
    | inl q ↦ inl q
    | inr q ↦ let f = front q.0 in inr (f.0, q.1 ∙ ap (with_defined s) f.1)
  ])

  -- the code made the definition's clauses
  pub cover-built : (new : Clauses) → new ≡ with_defined s cs → new ≡ with_cover s ls
  cover-built new q = q ∙ ap (with_defined s) (e ∙ ap (λ y. clauses_from (cover_rules y ls)) h)

  module _ (new : Clauses) (q : new ≡ with_defined s cs) where
    entries : new.entries ≡ s.entries ++ map (labelled Structure) cs
    entries = ap (λ (c : Clauses). c.entries) q

    vars : new.vars ≡ s.vars + 1
    vars = ap (λ (c : Clauses). c.vars) q

    whole_gate : DefinesLit s (with_defined s all) x (λ v. clause_true v ls)
    whole_gate = any-gate s ls b all x refl h (with_defined s all) refl

    front-met : (asked w : ℕ → Bool) → MeetsSince asked w s (with_defined s all) → MeetsSince asked w s new
    front-met asked w m =
        let n = rw (since-from s (with_defined s all) (map (labelled Structure) all) refl, all-is, map-append (labelled Structure) cs rest)
        at m in
        rw (since-from s new (map (labelled Structure) cs) entries)
        (Meets-parts asked w (map (labelled Structure) cs) (map (labelled Structure) rest) n).0

    pub cover-gate : CoversLit s new x (λ v. clause_true v ls)
    cover-gate = record {
      grows = Grows-from s new (map (labelled Structure) cs) entries (omega (arith, vars))
          (labelled-in_range new.vars Structure cs (rw vars cover-below));
      below = rw vars whole_gate.below;
      covers = λ asked v m t.
          let r = rules-true asked v (cover_rules x ls) (rw (since-from s new (map (labelled Structure) cs) entries, e) at m) in
          covered (lit_true v x) (clause_true v ls) (sym (headed-true v x (singles (map negation ls))
          ∙ ap (λ y. lit_true v x || y) (negated-true v ls)) ∙ r) t;
      each = λ asked v.
          let y = whole_gate.defines.says.each asked v refl in
          (y.0, y.1, front-met asked y.0 y.2, whole_gate.means asked y.0 y.2);
    }
