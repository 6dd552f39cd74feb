-- Levels as digits in a row, and the rules of their comparison one digit further.
use Rattle.std.proofs.Common.{◌≡◌, ◌≢◌, ℕ, zero, suc, ◌+◌, ◌-◌, [], ◌∷◌, ◌++◌, append_assoc, true, not, eqb, refl, sym, arith}
use Rattle.reachability.specs.Paths.{joined}
use Rattle.clause_store.specs.declared.Lit.{Lit}
use Rattle.clause_circuits.specs.Gates.{lit_of}
use Rattle.clause_formulas.specs.Statements.{atom, opposite}
use Rattle.std.proofs.lemmas.Bool.{and_parts}
use Rattle.level_encoding.specs.declared.input.Arc.{Arc}
use Rattle.level_encoding.specs.Composed.{last_rules, digit_rules, rising, digit_row}
use Rattle.level_encoding.specs.Input.{LevelData, IsRight, same, possible}
use Rattle.level_encoding.specs.Encoding.{level_width, level_start, level, is_inside, turns}
use Rattle.level_encoding.proofs.ArcLaws.{same-width}

-- numbers without digits: the first is never smaller
pub rising-none : (r : Lit) (p q t digits : ℕ) → digits ≡ 0
    → rising (atom r) (digit_row p digits) (digit_row q digits) (digit_row t (digits - 1)) ≡ opposite (atom r) ∷ []
unfolding rising
rising-none r p q t zero h = refl
rising-none r p q t (suc digits) h = absurd (omega (arith, h))

-- numbers of one digit
pub rising-one : (r : Lit) (p q t digits : ℕ) → digits ≡ 1
    → rising (atom r) (digit_row p digits) (digit_row q digits) (digit_row t (digits - 1)) ≡ last_rules (atom r) (atom (lit_of p))
    (atom (lit_of q))
unfolding rising
rising-one r p q t digits h = rw h refl

-- numbers of more digits
pub rising-more : (r : Lit) (p q t digits : ℕ) → digits ≢ 0 → digits ≢ 1
    → rising (atom r) (digit_row p digits) (digit_row q digits) (digit_row t (digits - 1)) ≡
    digit_rules (atom r) (atom (lit_of p)) (atom (lit_of q)) (atom (lit_of t))
    ++ rising (atom (lit_of t)) (digit_row (p + 1) (digits - 1)) (digit_row (q + 1) (digits - 1)) (digit_row (t + 1) (digits - 1 - 1))
unfolding rising
rising-more r p q t zero h k = absurd (h refl)
rising-more r p q t (suc zero) h k = absurd (k refl)
rising-more r p q t (suc (suc n)) h k =
    let e : suc (suc n) - 1 ≡ suc n = omega arith in
    let d : suc n - 1 ≡ n = omega arith in
    rw (e, d) refl

pub ruleset rows_rising = (rising-none, rising-one, rising-more, append_assoc)

-- a level is a row of variables
pub level-is : (s : LevelData) (i : ℕ) → level s i ≡ digit_row (level_start s i) (level_width s i)
unfolding level
level-is s i = refl

-- the two levels of an arc inside a component are equally wide
pub inside-width : (s : LevelData) (a : Arc) → IsRight s → is_inside s a ≡ true → level_width s a.child ≡ level_width s a.parent
unfolding is_inside
inside-width s a right h =
    sym (same-width s a.parent a.child (and_parts (not (eqb a.parent a.child)) (joined same (possible s) a.parent a.child) h).1)

-- it takes one turn less than a level has digits
pub inside-turns : (s : LevelData) (a : Arc) → is_inside s a ≡ true → turns s a ≡ level_width s a.parent - 1
unfolding turns
inside-turns s a h = rw h refl

-- the rules of an arc, by where the levels stand
pub level_rules-are : (s : LevelData) (a : Arc) → IsRight s → is_inside s a ≡ true → (p q w t : ℕ) → p ≡ level_start s a.parent
    → q ≡ level_start s a.child → w ≡ level_width s a.parent
    → rising (atom a.lit) (digit_row p w) (digit_row q w) (digit_row t (w - 1)) ≡ rising (atom a.lit) (level s a.parent) (level s a.child)
    (digit_row t (turns s a))
unfolding level
level_rules-are s a right i p q w t e f g = rw (e, f, g, inside-turns s a i, inside-width s a right i) refl
