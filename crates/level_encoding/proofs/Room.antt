-- All new variables stand before the end.
use Rattle.std.proofs.Common.{◌≡◌, ℕ, zero, suc, ◌+◌, ◌-◌, ◌*◌, ◌^◌, ◌<◌, ◌≤◌, Bool, true, false, None, cond, length, take, get_or, inl, inr, refl, ap, ◌∙◌, arith, add-one}
use Rattle.std.proofs.lemmas.List.Sums.{sum_by-le, count_by-le-length, count_by_more_yes, count_by_more_no}
use Rattle.level_encoding.specs.declared.input.Arc.{Arc}
use Rattle.reachability.specs.Paths.{joined, members}
use Rattle.level_encoding.specs.Counts.{total_below, count_below}
use Rattle.level_encoding.proofs.CountLaws.{total-le, count-bound}
use Rattle.std.proofs.lemmas.List.FromFn.{length-range_with_len, get_or-range_with_len}
use Rattle.std.specs.List.{count_by}
use Rattle.std.proofs.lemmas.Bool.{cases_Bool}
use Rattle.std.proofs.lemmas.List.{take_all}
use Rattle.level_encoding.specs.Input.{LevelData, numbers, same, possible, is_asked_target}
use Rattle.level_encoding.specs.Encoding.{numbers_below, level_width, level_start, leads, ways, way, path_start, is_inside, turns, turn_start, end}
use Rattle.level_encoding.proofs.Digits.{count-up, width-le}
use Rattle.std.proofs.Math.Nat.{suc-mul}

-- the variables of a level lie below the end
pub level-fits : (s : LevelData) (i : ℕ) → i < numbers s → level_start s i + level_width s i ≤ end s
unfolding level_start end turn_start path_start total_below
level-fits s i h = omega (arith, total-le (level_width s) (suc i) (numbers s) h)

-- those of paths lie before those of turns
pub path-fits : (s : LevelData) (q p : ℕ) → q < numbers s → p < numbers s → leads s q p ≡ true
    → path_start s q + count_below (leads s q) p < turn_start s
unfolding path_start ways turn_start total_below
path-fits s q p a b h = omega (arith, count-up (leads s q) (numbers s) p b h, total-le (ways s) (suc q) (numbers s) a)

pub count-none : (test : ℕ → Bool) → count_below test 0 ≡ 0
unfolding count_below total_below
count-none test = refl

pub count-more : (test : ℕ → Bool) (k : ℕ) → count_below test (k + 1) ≡ count_below test k + cond (test k) 1 0
unfolding count_below total_below
count-more test k = rw add-one refl

pub path_start-none : (s : LevelData) → path_start s 0 ≡ level_start s (numbers s)
unfolding path_start total_below
path_start-none s = omega arith

pub path_start-more : (s : LevelData) (q : ℕ) → path_start s (q + 1) ≡ path_start s q + count_below (leads s q) (numbers s)
unfolding path_start total_below ways
path_start-more s q = rw add-one (omega arith)

-- behind the last target's paths the turns begin
pub path_start-end : (s : LevelData) (q : ℕ) → q ≡ numbers s → path_start s q ≡ turn_start s
unfolding turn_start
path_start-end s q e = rw e refl

pub turn_start-le : (s : LevelData) → turn_start s ≤ end s
unfolding end
turn_start-le s = omega arith

pub ruleset ways_so_far = (count-none, count-more, path_start-none, path_start-more)

pub ruleset paths_so_far = (path_start-none, path_start-end)

total-small : (f : ℕ → ℕ) (m n : ℕ) → ((k : ℕ) → f k ≤ m) → total_below f n ≤ n * m
unfolding total_below
total-small f m zero h = omega arith
total-small f m (suc n) h = let e : suc n * m ≡ n * m + m = suc-mul n m in omega (arith, e, total-small f m n h, h n)

-- a component has no more members than there are numbers
pub members-few : (s : LevelData) (i : ℕ) → members same (possible s) (numbers_below (numbers s)) i ≤ numbers s
members-few s i =
    omega (arith, count_by-le-length (λ p. joined same (possible s) p i) (numbers_below (numbers s)), length-range_with_len 0 (numbers s))

level_width-small : (s : LevelData) (i : ℕ) → level_width s i ≤ numbers s
unfolding level_width
level_width-small s i = omega (arith, width-le (members same (possible s) (numbers_below (numbers s)) i), members-few s i)

turns-small : (s : LevelData) (a : Arc) → turns s a ≤ numbers s
unfolding turns
turns-small s a = by-bool (is_inside s a)
  where
    by-bool : (b : Bool) → cond b (level_width s a.parent - 1) 0 ≤ numbers s
    by-bool true = omega (arith, level_width-small s a.parent)
    by-bool false = omega arith

-- few new variables for each pair of numbers, and for each arc and number
pub end-small : (s : LevelData) → end s ≤ s.first + 2 * (numbers s * numbers s) + length s.arcs * numbers s
unfolding end turn_start path_start level_start ways
end-small s =
    omega (
      arith,
      total-small (level_width s) (numbers s) (numbers s) (level_width-small s),
      total-small (λ q. count_below (leads s q) (numbers s)) (numbers s) (numbers s) (λ q. count-bound (leads s q) (numbers s)),
      sum_by-le (turns s) (numbers s) s.arcs (λ k d h. turns-small s (get_or s.arcs k d)),
    )

-- what is no target has no ways
leads-never : (s : LevelData) (q p : ℕ) → is_asked_target s q ≡ false → leads s q p ≡ false
unfolding leads
leads-never s q p h = rw h refl

-- where nobody asks there is no path literal
pub way-never : (s : LevelData) (q p : ℕ) → is_asked_target s q ≡ false → way s q p ≡ None
unfolding way
way-never s q p h = rw (way, leads-never s q p h) refl

count-never : (test : ℕ → Bool) (n : ℕ) → ((k : ℕ) → test k ≡ false) → count_below test n ≡ 0
unfolding count_below total_below
count-never test zero h = refl
count-never test (suc n) h = let t = h n in rw t (omega (arith, count-never test n h))

-- nor a variable for one
pub path_start-never : (s : LevelData) (q : ℕ) → is_asked_target s q ≡ false → path_start s (q + 1) ≡ path_start s q
path_start-never s q h = omega (arith, path_start-more s q, count-never (leads s q) (numbers s) (λ p. leads-never s q p h))

pub ruleset no_ways = (way-never, path_start-never)

-- the members among the numbers below p
unfoldable pub members_to : LevelData → ℕ → ℕ → ℕ
members_to s q p = count_by (λ x. joined same (possible s) x q) (take p (numbers_below (numbers s)))

pub members-none : (s : LevelData) (q : ℕ) → members_to s q 0 ≡ 0
unfolding members_to
members-none s q = refl

-- one more number of a component
pub members-more : (s : LevelData) (q p : ℕ) → p < numbers s
    → members_to s q (p + 1) ≡ members_to s q p + cond (joined same (possible s) p q) 1 0
unfolding members_to
members-more s q p h =
    let f : ℕ → Bool = λ x. joined same (possible s) x q in
    let l : p < length (numbers_below (numbers s)) = omega (arith, length-range_with_len 0 (numbers s)) in
    let at : get_or (numbers_below (numbers s)) p 0 ≡ p = get_or-range_with_len 0 (numbers s) p 0 h ∙ omega arith in
    elim (cases_Bool (f p)) [
      | inl t ↦ count_by_more_yes f (numbers_below (numbers s)) p 0 l (ap f at ∙ t) ∙ rw t refl
      | inr t ↦ count_by_more_no f (numbers_below (numbers s)) p 0 l (ap f at ∙ t) ∙ rw t (omega arith)
    ]

-- all of them
pub members-all : (s : LevelData) (q p : ℕ) → p ≡ numbers s → members_to s q p ≡ members same (possible s) (numbers_below (numbers s)) q
unfolding members_to
members-all s q p e = ap (count_by (λ x. joined same (possible s) x q))
    (take_all p (numbers_below (numbers s)) (omega (arith, e, length-range_with_len 0 (numbers s))))

pub ruleset members_so_far = (members-none, members-more, members-all, members-few)

-- a bound on the new variables that fits
pub end-fits : (s : LevelData) (most : ℕ) → most ≡ s.first + 2 * (numbers s * numbers s) + length s.arcs * numbers s → most < 2 ^ 63
    → end s < 2 ^ 63
end-fits s most e h = omega (arith, e, h, end-small s)

pub ruleset end_fits = (end-fits)
