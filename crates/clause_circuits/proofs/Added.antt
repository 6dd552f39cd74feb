-- Rules added one after the other.
use Rattle.std.proofs.Common.{◌≡◌, ℕ, ◌+◌, ◌<◌, List, [], ◌∷◌, ◌++◌, length, get_or, take, drop, map, append_assoc, Option, Some, None, refl, sym, ap, ◌∙◌, subst, inr}
use Rattle.std.proofs.lemmas.List.{take_more, append-nil, take-append-drop, at_drop_more}
use Rattle.std.proofs.Math.Seq.{take-append_seam}
use Rattle.clause_store.specs.declared.Lit.{Lit}
use Rattle.clause_store.specs.declared.Label.TheVariants.{Structure}
use Rattle.clause_store.specs.Lits.{negation, clause_of}
use Rattle.clause_store.specs.Clauses.{Clauses, with_var, with_structure}
use Rattle.clause_circuits.specs.Gates.{AllClausesBelow, Partial, Partly, Sides, lit_of, gate_rules, kept_clauses, clauses_from, headed, labelled, with_defined, with_rules}
use Rattle.clause_circuits.specs.Shapes.{cover_rules}
use Rattle.clause_circuits.proofs.Loops.{clauses_from-append}

with_rules-append : (s : Clauses) (rs ss : List (List Lit)) → with_rules s (rs ++ ss) ≡ with_rules (with_rules s rs) ss
with_rules-append s [] ss = refl
with_rules-append s (r ∷ rs) ss = with_rules-append (with_structure s (clause_of r)) rs ss

structure-vars : (s : Clauses) (o : Option (List Lit)) → (with_structure s o).vars ≡ s.vars
structure-vars s None = refl
structure-vars s (Some c) = refl

rules-vars : (s : Clauses) (rs : List (List Lit)) → (with_rules s rs).vars ≡ s.vars
rules-vars s [] = refl
rules-vars s (r ∷ rs) = rules-vars (with_structure s (clause_of r)) rs ∙ structure-vars s (clause_of r)

below-front : (n : ℕ) (rs ss : List (List Lit)) → AllClausesBelow n (rs ++ ss) → AllClausesBelow n rs
below-front n [] ss b = tt
below-front n (r ∷ rs) ss b = (b.0, below-front n rs ss b.1)

below-back : (n : ℕ) (rs ss : List (List Lit)) → AllClausesBelow n (rs ++ ss) → AllClausesBelow n ss
below-back n [] ss b = b
below-back n (r ∷ rs) ss b = below-back n rs ss b.1

-- with the first rules added, the next ones are over the variables
pub rest-below : (s cur : Clauses) (all front back : List (List Lit)) → all ≡ front ++ back → cur ≡ with_rules s front
    → AllClausesBelow s.vars all → AllClausesBelow cur.vars back
rest-below s cur all front back e f b =
    subst (λ n. AllClausesBelow n back) (sym (rules-vars s front) ∙ ap (λ (c : Clauses). c.vars) (sym f))
    (below-back s.vars front back (subst (AllClausesBelow s.vars) e b))

-- so the first ones are
pub first-below : (n : ℕ) (all front back : List (List Lit)) → all ≡ front ++ back → AllClausesBelow n all → AllClausesBelow n front
first-below n all front back e b = below-front n front back (subst (AllClausesBelow n) e b)

-- more rules behind the first ones
pub more-rules : (s cur new : Clauses) (all front back : List (List Lit)) → all ≡ front ++ back → cur ≡ with_rules s front
    → new ≡ with_rules cur back → new ≡ with_rules s all
more-rules s cur new all front back e f g =
    g ∙ ap (λ c. with_rules c back) f ∙ sym (with_rules-append s front back) ∙ ap (with_rules s) (sym e)

-- one more, whose head is equal to a given literal
pub one-more : (s cur new : Clauses) (k m : Lit) (ls : List Lit) (front : List (List Lit)) → cur ≡ with_rules s front → k ≡ m
    → new ≡ with_structure cur (clause_of (k ∷ ls)) → new ≡ with_rules s (front ++ (m ∷ ls) ∷ [])
one-more s cur new k m ls front e f g =
    more-rules s cur new (front ++ (m ∷ ls) ∷ []) front ((m ∷ ls) ∷ []) refl e (g ∙ ap (λ x. with_structure cur (clause_of (x ∷ ls))) f)

-- some of them
pub more-partly : (s cur new : Clauses) (all front back : List (List Lit)) → all ≡ front ++ back → cur ≡ with_rules s front
    → Partly cur new back → Partly s new all
more-partly s cur new all front back e f p = (
  front ++ p.0,
  p.1,
  e ∙ ap (λ rs. front ++ rs) p.2 ∙ sym (append_assoc front p.0 p.1),
  more-rules s cur new (front ++ p.0) front p.0 refl f p.3,
)

-- where it stopped, the first ones were added
pub stopped-partly : (s cur new : Clauses) (all front back : List (List Lit)) → all ≡ front ++ back → cur ≡ with_rules s front
    → new ≡ cur → Partly s new all
stopped-partly s cur new all front back e f g = (front, back, e, g ∙ f)

with_rules-is : (s : Clauses) (rs : List (List Lit))
    → with_rules s rs ≡ record { entries = s.entries ++ map (labelled Structure) (clauses_from rs); vars = s.vars }
unfolding kept_clauses
with_rules-is s [] = ap (λ es. record { entries = es; vars = s.vars }) (sym (append-nil s.entries))
with_rules-is s (r ∷ rs) = with_rules-is (with_structure s (clause_of r)) rs ∙ by-option (clause_of r) refl
  where
    by-option : (o : Option (List Lit)) → clause_of r ≡ o → ◌≡◌ {A = Clauses}
        (record {
          entries = (with_structure s (clause_of r)).entries ++ map (labelled Structure) (clauses_from rs);
          vars = (with_structure s (clause_of r)).vars;
        })
        (record { entries = s.entries ++ map (labelled Structure) (clauses_from (r ∷ rs)); vars = s.vars })
    by-option None e = rw e refl
    by-option (Some c) e =
        rw e (ap (λ es. record { entries = es; vars = s.vars })
        (append_assoc s.entries (labelled Structure c ∷ []) (map (labelled Structure) (clauses_from rs))))

-- the next variable and some rules of it
pub rules-defined : (s cur new : Clauses) (rs : List (List Lit)) → cur ≡ with_var s → new ≡ with_rules cur rs
    → new ≡ with_defined s (clauses_from rs)
rules-defined s cur new rs e f = f ∙ ap (λ c. with_rules c rs) e ∙ with_rules-is (with_var s) rs

-- a variable and a front of them define no more than the gate
pub partly-defined : (s cur new : Clauses) (rs : List (List Lit)) → cur ≡ with_var s → Partly cur new rs
    → Partial s new (clauses_from rs)
partly-defined s cur new rs e p =
    let cs = clauses_from p.0 in
    let first : cs ≡ take (length cs) (clauses_from rs) =
    sym (ap (λ ss. take (length cs) (clauses_from ss)) p.2
    ∙ ap (take (length cs)) (clauses_from-append p.0 p.1) ∙ take-append_seam cs (clauses_from p.1)) in
    inr (length cs, rules-defined s cur new p.0 e p.3 ∙ ap (with_defined s) first)

headed-append : (x : Lit) (cs ds : List (List Lit)) → headed x (cs ++ ds) ≡ headed x cs ++ headed x ds
headed-append x [] ds = refl
headed-append x (c ∷ cs) ds = ap (λ rs. (x ∷ c) ∷ rs) (headed-append x cs ds)

-- the rules of a side are those before a place, that at it, and those behind it
pub side-parts : (x : Lit) (cs : List (List Lit)) (i : ℕ) (d : List Lit) → i < length cs
    → headed x cs ≡ headed x (take i cs) ++ (x ∷ get_or cs i d) ∷ headed x (drop (i + 1) cs)
side-parts x cs i d h = ap (headed x) (sym (take-append-drop i cs)) ∙ headed-append x (take i cs) (drop i cs)
    ∙ ap (λ rs. headed x (take i cs) ++ rs) (at_drop_more (headed x) cs i d h)

-- the clause of one side at a place
pub side-at : (x : Lit) (cs : List (List Lit)) (i : ℕ) (d : List Lit) → i < length cs
    → headed x (take (i + 1) cs) ≡ headed x (take i cs) ++ (x ∷ get_or cs i d) ∷ []
side-at x cs i d h = ap (headed x) (take_more cs i d h) ∙ headed-append x (take i cs) (get_or cs i d ∷ [])

cover-append : (x : Lit) (ks ls : List Lit) → cover_rules x (ks ++ ls) ≡ cover_rules x ks ++ cover_rules x ls
cover-append x [] ls = refl
cover-append x (k ∷ ks) ls = ap (λ rs. (x ∷ negation k ∷ []) ∷ rs) (cover-append x ks ls)

-- the clauses of a cover, cut at a place
pub cover-parts : (x : Lit) (ls : List Lit) (i : ℕ) (d : Lit) → i < length ls
    → cover_rules x ls ≡ cover_rules x (take i ls) ++ (x ∷ negation (get_or ls i d) ∷ []) ∷ cover_rules x (drop (i + 1) ls)
cover-parts x ls i d h = ap (cover_rules x) (sym (take-append-drop i ls)) ∙ cover-append x (take i ls) (drop i ls)
    ∙ ap (λ rs. cover_rules x (take i ls) ++ rs) (at_drop_more (cover_rules x) ls i d h)

-- the clause of a cover at a place
pub cover-at : (x : Lit) (ls : List Lit) (i : ℕ) (d : Lit) → i < length ls
    → cover_rules x (take (i + 1) ls) ≡ cover_rules x (take i ls) ++ (x ∷ negation (get_or ls i d) ∷ []) ∷ []
cover-at x ls i d h = ap (cover_rules x) (take_more ls i d h) ∙ cover-append x (take i ls) (get_or ls i d ∷ [])

-- the rules of the next variable are over it and the old ones
pub gate-below : (s cur : Clauses) (x : Lit) (g : Sides) → cur ≡ with_var s → x ≡ lit_of s.vars
    → AllClausesBelow (s.vars + 1) (gate_rules (lit_of s.vars) g) → AllClausesBelow cur.vars (gate_rules x g)
gate-below s cur x g e h b =
    subst (λ (c : Clauses). AllClausesBelow c.vars (gate_rules x g)) (sym e)
    (subst (λ y. AllClausesBelow (s.vars + 1) (gate_rules y g)) (sym h) b)
