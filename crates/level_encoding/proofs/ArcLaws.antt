-- The rules of each arc.
use Rattle.std.proofs.Common.{◌≡◌, ◌≢◌, ℕ, ◌+◌, ◌-◌, Bool, true, false, List, [], ◌∷◌, length, inl, inr, refl, sym, ap, ◌∙◌}
use Rattle.std.specs.List.{list_all, range_with_len}
use Rattle.std.proofs.lemmas.Bool.{and_parts, eq-eqb, ne_eqb}
use Rattle.std.proofs.lemmas.List.{length-map}
use Rattle.std.proofs.lemmas.List.Folds.{list_all-append}
use Rattle.std.proofs.lemmas.List.FromFn.{length-range_with_len}
use Rattle.reachability.specs.Paths.{joined}
use Rattle.reachability.proofs.PartLaws.{members_alike}
use Rattle.level_encoding.proofs.Reached.{exact_same}
use Rattle.clause_formulas.specs.Statements.{eval}
use Rattle.level_encoding.specs.declared.input.Arc.{Arc}
use Rattle.level_encoding.specs.Composed.{digit_row}
use Rattle.level_encoding.specs.Input.{LevelData, numbers, same, possible}
use Rattle.level_encoding.specs.Encoding.{numbers_below, width, level_width, level_start, level, is_inside, turns, arc_rules, arcs_rules}
use Rattle.level_encoding.proofs.Lists.{In}

-- an arc from a number to itself is not inside a component
pub inside-self : (s : LevelData) (a : Arc) → a.parent ≡ a.child → is_inside s a ≡ false
unfolding is_inside
inside-self s a e = rw (eq-eqb a.parent a.child e) refl

-- another is where its two numbers are joined
pub inside-joined : (s : LevelData) (a : Arc) → a.parent ≢ a.child → is_inside s a ≡ joined same (possible s) a.parent a.child
unfolding is_inside
inside-joined s a ne = rw (ne_eqb a.parent a.child ne) refl

pub length-row : (x n : ℕ) → length (digit_row x n) ≡ n
length-row x n = length-map (range_with_len x n) _ ∙ length-range_with_len x n

-- numbers of one component have levels of one length
pub same-width : (s : LevelData) (p q : ℕ) → joined same (possible s) p q ≡ true → level_width s p ≡ level_width s q
unfolding level_width
same-width s p q j = ap width (members_alike same exact_same (possible s) (numbers_below (numbers s)) p q j)

pub same-length : (s : LevelData) (p q : ℕ) → joined same (possible s) p q ≡ true → length (level s p) ≡ length (level s q)
unfolding level
same-length s p q j = length-row (level_start s p) (level_width s p) ∙ same-width s p q j
    ∙ sym (length-row (level_start s q) (level_width s q))

pub turn-length : (s : LevelData) (x : ℕ) (a : Arc) → is_inside s a ≡ true
    → length (digit_row x (turns s a)) ≡ length (level s a.parent) - 1
unfolding level turns
turn-length s x a i = length-row x (turns s a) ∙ rw (i, length-row (level_start s a.parent) (level_width s a.parent)) refl

-- the rules of an arc stand among those of all, with some turns
pub arcs-at : (s : LevelData) (v : ℕ → Bool) (a : Arc) (x : ℕ) (arcs : List Arc)
    → list_all (eval v) (arcs_rules s x arcs) ≡ true → In a arcs
    → (y : ℕ) × (list_all (eval v) (arc_rules s y a) ≡ true)
unfolding arcs_rules
arcs-at s v a x [] m i = absurd i
arcs-at s v a x (b ∷ arcs) m i =
    let p = and_parts (list_all (eval v) (arc_rules s x b)) (list_all (eval v) (arcs_rules s (x + turns s b) arcs))
    (sym (list_all-append (eval v) (arc_rules s x b) (arcs_rules s (x + turns s b) arcs)) ∙ m) in
    elim i [ inl e ↦ (x, rw e p.0) | inr t ↦ arcs-at s v a (x + turns s b) arcs p.1 t ]
