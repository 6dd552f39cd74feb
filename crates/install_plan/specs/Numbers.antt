-- Places with numbers: each has one more than the greatest among those that its arcs lead to.
use Rattle.std.specs.Prelude.{◌≡◌, ◌⊎◌, ℕ, ◌+◌, ◌<◌, ◌≤◌, ◌==◌, List, [], length, All, Contains, count_by, slice_index_or}
use Rattle.graph_core.specs.OfReachability.Places.{LeadsTo}
use Rattle.install_plan.specs.declared.numbers.Waiter.{Waiter}

-- the number at a place: 0 where it has none
abbrev pub number_at : List ℕ → ℕ → ℕ
number_at numbers place = slice_index_or numbers place 0

-- where the arcs from a place lead to
abbrev pub heads_at : List (List ℕ) → ℕ → List ℕ
heads_at heads place = slice_index_or heads place []

-- how many have no number
abbrev pub missing : List ℕ → ℕ
missing numbers = count_by (λ number. number == 0) numbers

-- some heights fall along the arcs, so these have no cycle
pub record HaveHeights (heads : List (List ℕ)) : Type 0 where
  pub height : ℕ → ℕ
  pub falls : (p q : ℕ) → LeadsTo heads p q → height q < height p

-- all places that the arcs from this one lead to have smaller numbers, and its own is no greater than it need be
pub record IsRightAt (heads : List (List ℕ)) (numbers : List ℕ) (p : ℕ) : Type 0 where
  pub some : (q : ℕ) → LeadsTo heads p q → 1 ≤ number_at numbers q
  pub above : (q : ℕ) → LeadsTo heads p q → number_at numbers q < number_at numbers p
  pub least : (number_at numbers p ≡ 1) ⊎ ((q : ℕ) × LeadsTo heads p q × (number_at numbers p ≡ number_at numbers q + 1))

-- each place has its number
pub record AreNumbers (heads : List (List ℕ)) (numbers : List ℕ) : Type 0 where
  pub each : length numbers ≡ length heads
  pub right : (p : ℕ) → p < length heads → IsRightAt heads numbers p

-- ---- while numbers are found

-- all that the place's arcs lead to before this one has a number
pub record IsWaiter (heads : List (List ℕ)) (numbers : List ℕ) (waiter : Waiter) : Type 0 where
  pub place : waiter.place < length heads
  pub next : waiter.next ≤ length (heads_at heads waiter.place)
  pub passed : (k : ℕ) → k < waiter.next → 1 ≤ number_at numbers (number_at (heads_at heads waiter.place) k)

-- those that wait for a place
abbrev pub waiters_at : List (List Waiter) → ℕ → List Waiter
waiters_at waiting place = slice_index_or waiting place []

-- what is told of numbers so far: they are right, and those that wait for a place do so for good reason
pub record AreRight (heads : List (List ℕ)) (numbers : List ℕ) (waiting : List (List Waiter)) (settled : List ℕ) : Type 0 where
  pub each : length numbers ≡ length heads
  pub lists : length waiting ≡ length heads
  pub right : (p : ℕ) → 1 ≤ number_at numbers p → IsRightAt heads numbers p
  pub bound : (p : ℕ) → number_at numbers p + missing numbers ≤ length numbers
  pub within : All (λ p. p < length heads) settled
  pub waiters : (c : ℕ) → All (IsWaiter heads numbers) (waiters_at waiting c)

-- the place waits for one that its arcs lead to, which has no number yet or was settled since
abbrev pub Waits : List (List ℕ) → List ℕ → List (List Waiter) → List ℕ → ℕ → Type 0
Waits heads numbers waiting settled p = (c : ℕ) × LeadsTo heads p c × ((number_at numbers c ≡ 0) ⊎ Contains settled c)
    × ((waiter : Waiter) × (waiter.place ≡ p) × Contains (waiters_at waiting c) waiter)

-- what has a number keeps it
abbrev pub Keeps : List ℕ → List ℕ → Type 0
Keeps old new = (p : ℕ) → 1 ≤ number_at old p → number_at new p ≡ number_at old p
