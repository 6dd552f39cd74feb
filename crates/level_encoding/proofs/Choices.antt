-- Arcs, what an assignment chooses of them, and the first steps of paths.
use Rattle.std.proofs.Common.{◌≡◌, ℕ, zero, suc, length, ◌<◌, Bool, true, false, ◌&&◌, eqb, List, [], ◌∷◌, map, ◌⊎◌, inl, inr, refl, sym, ap, ◌∙◌, arith}
use Rattle.std.specs.List.{slice_get}
use Rattle.std.proofs.lemmas.Bool.{and_parts, and_from, false≢true, eqb-true, eq-eqb, ne_eqb, cases_eq}
use Rattle.std.specs.List.{filter, All}
use Rattle.std.proofs.lemmas.List.Elements.{All-map}
use Rattle.reachability.specs.Paths.{Path, HasArc, reaches}
use Rattle.reachability.proofs.CountLaws.{has_image, image_of}
use Rattle.reachability.proofs.SpreadLaws.{in_filter, from_filter}
use Rattle.reachability.proofs.PathLaws.{first_arc, last_arc}
use Rattle.level_encoding.proofs.Reached.{In-has, has-In, reaches-sound, reaches-complete}
use Rattle.clause_store.specs.declared.Lit.{Lit}
use Rattle.level_encoding.specs.declared.input.Arc.{Arc}
use Rattle.clause_store.specs.Lits.{lit_true}
use Rattle.clause_formulas.specs.Statements.{Statement, atom, eval, any_statement}
use Rattle.level_encoding.specs.Input.{LevelData, numbers, same, arc_ends, possible, chosen, node, literal_at, is_asked_target, IsRight}
use Rattle.level_encoding.specs.Encoding.{way, path, leads, arcs_leaving, begins_path}
use Rattle.level_encoding.proofs.FormulaLaws.{both-parts, both-from}
use Rattle.level_encoding.proofs.Lists.{In, all-in, any-from, any-to, any_of-is}

-- each arc is possible
pub possible-from : (s : LevelData) (a : Arc) → In a s.arcs → HasArc (possible s) a.parent a.child
unfolding possible
possible-from s a i = has_image arc_ends s.arcs a (In-has a s.arcs i)

-- an arc whose literal is true is chosen
pub chosen-from : (s : LevelData) (v : ℕ → Bool) (a : Arc) → In a s.arcs → lit_true v a.lit ≡ true → HasArc (chosen s v) a.parent a.child
unfolding chosen
chosen-from s v a i h = has_image arc_ends (filter (λ b. lit_true v b.lit) s.arcs) a
    (in_filter (λ b. lit_true v b.lit) s.arcs a (In-has a s.arcs i) h)

-- a chosen arc has a true literal
pub chosen-to : (s : LevelData) (v : ℕ → Bool) (p q : ℕ) → HasArc (chosen s v) p q → (a : Arc) × In a s.arcs × (a.parent ≡ p)
    × (a.child ≡ q)
    × (lit_true v a.lit ≡ true)
unfolding chosen
chosen-to s v p q h =
    let r = image_of arc_ends (filter (λ b. lit_true v b.lit) s.arcs) (p, q) h in
    let t = from_filter (λ b. lit_true v b.lit) s.arcs r.0 r.1 in
    (r.0, has-In r.0 s.arcs t.0, ap (λ (x : ℕ × ℕ). x.0) r.2, ap (λ (x : ℕ × ℕ). x.1) r.2, t.1)

-- chosen arcs are possible
pub chosen-possible : (s : LevelData) (v : ℕ → Bool) (p q : ℕ) → HasArc (chosen s v) p q → HasArc (possible s) p q
chosen-possible s v p q h = let c = chosen-to s v p q h in at-places p q c.0 c.1 c.2 c.3
  where
    at-places : (p q : ℕ) (a : Arc) → In a s.arcs → a.parent ≡ p → a.child ≡ q → HasArc (possible s) p q
    at-places p q a i e d = rw (← e, ← d) (possible-from s a i)

-- arcs join numbers below the bound, and so do paths
abbrev pub IsWithin : ℕ → List (ℕ × ℕ) → Type 0
IsWithin n arcs = (p q : ℕ) → HasArc arcs p q → (p < n) × (q < n)

-- paths lead from numbers to numbers
pub Path-ends : (n : ℕ) (arcs : List (ℕ × ℕ)) → IsWithin n arcs → (p q : ℕ) → Path (HasArc arcs) p q → (p < n) × (q < n)
Path-ends n arcs w p q t = (
  elim (first_arc (HasArc arcs) p q t) [ inl a ↦ (w p q a).0 | inr x ↦ (w p x.0 x.1).0 ],
  elim (last_arc (HasArc arcs) p q t) [ inl a ↦ (w p q a).1 | inr x ↦ (w x.0 q x.2).1 ],
)

-- possible arcs are between numbers
pub within-from : (s : LevelData) → IsRight s → IsWithin (numbers s) (possible s)
unfolding possible
within-from s right p q h =
    let r = image_of arc_ends s.arcs (p, q) h in
    let d = all-in (λ (a : Arc). (a.parent < numbers s) × (a.child < numbers s)) r.0 s.arcs right.ends (has-In r.0 s.arcs r.1) in
    let e : r.0.parent ≡ p = ap (λ (x : ℕ × ℕ). x.0) r.2 in
    let f : r.0.child ≡ q = ap (λ (x : ℕ × ℕ). x.1) r.2 in
    (omega (arith, e, d.0), omega (arith, f, d.1))

-- a path formula that is true is a variable
pub path-leads : (s : LevelData) (v : ℕ → Bool) (p q : ℕ) → eval v (path s p q) ≡ true → leads s q p ≡ true
unfolding way
path-leads s v p q h = by-bool (leads s q p) refl h
  where
    by-bool : (b : Bool) → leads s q p ≡ b → eval v (path s p q) ≡ true → b ≡ true
    by-bool true e t = refl
    by-bool false e t = absurd (false≢true (rw (way, e) at t))

-- where arcs could lead there is a path of possible ones
pub leads-path : (s : LevelData) (p q : ℕ) → leads s q p ≡ true → Path (HasArc (possible s)) p q
unfolding leads
leads-path s p q h = reaches-sound (possible s) p q (and_parts (is_asked_target s q) (reaches same (possible s) p q) h).1

-- such a path is between numbers
pub leads-within : (s : LevelData) → IsWithin (numbers s) (possible s) → (p q : ℕ) → leads s q p ≡ true → (p < numbers s) × (q < numbers s)
leads-within s w p q h = Path-ends (numbers s) (possible s) w p q (leads-path s p q h)

-- where there is a path of possible arcs to a target, arcs could lead
pub leads-from : (s : LevelData) (p q : ℕ) → is_asked_target s q ≡ true → Path (HasArc (possible s)) p q → leads s q p ≡ true
unfolding leads
leads-from s p q h t = and_from (is_asked_target s q) (reaches same (possible s) p q) h (reaches-complete (possible s) p q t)

-- the arcs from p that begin a path to q
abbrev pub starts : LevelData → ℕ → ℕ → Statement
starts s q p = any_statement (map (begins_path s q) (arcs_leaving s p))

-- a path literal's formula gives a chosen arc and what follows it
pub starts-to : (s : LevelData) (v : ℕ → Bool) (p q : ℕ) → eval v (starts s q p) ≡ true → (r : ℕ) × HasArc (chosen s v) p r
    × ((r ≡ q) ⊎ (eval v (path s r q) ≡ true))
unfolding begins_path
starts-to s v p q h =
    let f = any-to (λ a. eqb a.parent p && eval v (begins_path s q a)) s.arcs
    (sym (any_of-is v (begins_path s q) (λ a. eqb a.parent p) s.arcs) ∙ h) in
    let t = and_parts (eqb f.0.parent p) (eval v (begins_path s q f.0)) f.2 in
    by-arc f.0 f.1 (eqb-true f.0.parent p t.0) (cases_eq f.0.child q) t.1
  where
    by-arc : (a : Arc) → In a s.arcs → a.parent ≡ p → ((a.child ≡ q) ⊎ (a.child ≡ q → ⊥)) → eval v (begins_path s q a) ≡ true → (r : ℕ)
        × HasArc (chosen s v) p r × ((r ≡ q) ⊎ (eval v (path s r q) ≡ true))
    by-arc a i e (inl d) u = (a.child, rw (← e) (chosen-from s v a i (rw (begins_path, eq-eqb a.child q d) at u)), inl d)
    by-arc a i e (inr d) u = let b = both-parts v (atom a.lit) (path s a.child q) (rw (begins_path, ne_eqb a.child q d) at u) in
        (a.child, rw (← e) (chosen-from s v a i b.0), inr b.1)

-- and the other way round
pub starts-from : (s : LevelData) (v : ℕ → Bool) (p q r : ℕ) → HasArc (chosen s v) p r → ((r ≡ q) ⊎ (eval v (path s r q) ≡ true))
    → eval v (starts s q p) ≡ true
unfolding begins_path
starts-from s v p q r h t =
    let c = chosen-to s v p r h in
    any_of-is v (begins_path s q) (λ a. eqb a.parent p) s.arcs
    ∙ any-from (λ a. eqb a.parent p && eval v (begins_path s q a)) c.0 s.arcs c.1
    (and_from (eqb c.0.parent p) (eval v (begins_path s q c.0)) (eq-eqb c.0.parent p c.2) (by-arc c.0 c.3 c.4 (cases_eq c.0.child q)))
  where
    by-arc : (a : Arc) → a.child ≡ r → lit_true v a.lit ≡ true → ((a.child ≡ q) ⊎ (a.child ≡ q → ⊥)) → eval v (begins_path s q a) ≡ true
    by-arc a e l (inl d) = rw (begins_path, eq-eqb a.child q d) l
    by-arc a e l (inr d) = rw (begins_path, ne_eqb a.child q d)
        (both-from v (atom a.lit) (path s a.child q) l (elim t [ inl x ↦ absurd (d (e ∙ x)) | inr x ↦ rw e x ]))

-- a chosen node is a number
pub node-within : (s : LevelData) (v : ℕ → Bool) (i : ℕ) → eval v (node s i) ≡ true → i < numbers s
unfolding node
node-within s v i h = along s.nodes i h
  where
    along : (ls : List Lit) (i : ℕ) → eval v (literal_at (slice_get ls i)) ≡ true → i < length ls
    along [] i h = absurd (false≢true h)
    along (l ∷ ls) zero h = omega arith
    along (l ∷ ls) (suc i) h = omega (arith, along ls i h)

-- the arcs as pairs are within the bound, each
pub pairs-within : (s : LevelData) → IsRight s → All (λ pair. (pair.0 < numbers s) × (pair.1 < numbers s)) (possible s)
unfolding possible
pairs-within s right = All-map (λ pair. (pair.0 < numbers s) × (pair.1 < numbers s)) arc_ends s.arcs right.ends
