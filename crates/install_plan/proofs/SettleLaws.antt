-- A place is settled or waits, and those that wait for it are taken up.
use Rattle.std.proofs.Common.{◌≡◌, ◌≢◌, refl, sym, ap, subst, ◌∙◌, ℕ, zero, suc, ◌+◌, ◌<◌, ◌≤◌, List, [], ◌∷◌, ◌++◌, length, get_or, set, drop, All, Contains, ◌⊎◌, inl, inr, ⊎_elim, arith}
use Rattle.std.proofs.lemmas.Bool.{cases_eq, cases_lt}
use Rattle.std.proofs.lemmas.List.{length-set, get_or-set_same, get_or-set_other, drop_more, drop_all, get_or_read}
use Rattle.std.proofs.lemmas.List.Elements.{All-weaker, All-nil, Contains-push_cases}
use Rattle.reachability.specs.Places.{LeadsTo, AreWithin}
use Rattle.reachability.proofs.CountLaws.{first_or_later}
use Rattle.install_plan.specs.declared.numbers.Waiter.{Waiter}
use Rattle.install_plan.specs.Numbers.{number_at, heads_at, missing, HaveHeights, IsWaiter, waiters_at, AreRight, Waits, Keeps}
use Rattle.install_plan.proofs.NumbersAlone.{keeps_all, keeps_twice, none_before}
use Rattle.install_plan.proofs.NumberLaws.{leads_within, leads_at, waiter_kept, wait_right, wait_waits, number_right, number_keeps, number_work, number_waits}

module _ (heads : List (List ℕ)) where
  -- ---- a place is settled, or waits

  -- what settling a place changes: it gets its number or waits, and all others wait as before
  pub record Settles (numbers new : List ℕ) (waiting new_waiting : List (List Waiter)) (settled new_settled : List ℕ)
      (place : ℕ) : Type 0 where
    pub right : AreRight heads new new_waiting new_settled
    pub kept : Keeps numbers new
    pub work : length new_settled + missing new ≡ length settled + missing numbers
    pub waits : (p : ℕ) → number_at new p ≡ 0 → (p ≡ place) ⊎ Waits heads numbers waiting settled p
        → Waits heads new new_waiting new_settled p

  module _ (within : AreWithin heads) (numbers : List ℕ) (waiting : List (List Waiter)) (settled : List ℕ) (waiter : Waiter)
      (are : AreRight heads numbers waiting settled) (is : IsWaiter heads numbers waiter) (children : List ℕ)
      (same : children ≡ heads_at heads waiter.place) (next : ℕ)
      (passed : (k : ℕ) → waiter.next ≤ k → k < next → 1 ≤ number_at numbers (number_at children k)) where
    -- it waits for the first child without a number
    pub settles_wait : next < length children → number_at numbers (number_at children next) ≡ 0 → (list new_list : List Waiter)
        → list ≡ get_or waiting (number_at children next) list → new_list ≡ list ++ record { place = waiter.place; next = next } ∷ []
        → Settles numbers numbers waiting (set waiting (number_at children next) new_list) settled settled waiter.place
    settles_wait lt stop list new_list list_is new_is =
        let lt_next : next < length (heads_at heads waiter.place) = omega (arith, lt, ap length same) in
        let passed_next = rw same at passed in
        let stop_next = rw same at stop in
        let goal_lt : number_at (heads_at heads waiter.place) next < length heads =
        leads_within heads within waiter.place (number_at (heads_at heads waiter.place) next) is.place
        (leads_at heads waiter.place next lt_next) in
        let there : number_at (heads_at heads waiter.place) next < length waiting = omega (arith, goal_lt, are.lists) in
        let list_at = rw same at list_is in
        let longer_is : new_list ≡ waiters_at waiting (number_at (heads_at heads waiter.place) next)
        ++ record { place = waiter.place; next = next } ∷ [] =
        new_is ∙ ap (λ l. l ++ record { place = waiter.place; next = next } ∷ [])
        (get_or_read waiting (number_at (heads_at heads waiter.place) next) list there list_at []) in
        rw (same, longer_is) (record {
          right = wait_right heads numbers waiting settled waiter are is next lt_next passed_next there;
          kept = keeps_all numbers;
          work = refl;
          waits = λ p none before. wait_waits heads numbers waiting settled waiter are is next lt_next passed_next there stop_next p before;
        })

    -- all children have numbers, and it gets its own
    pub settles_number : (top : ℕ) → length children ≤ next → number_at numbers waiter.place ≡ 0
        → All (λ q. number_at numbers q ≤ top) children
        → (top ≡ 0) ⊎ ((q : ℕ) × Contains children q × (number_at numbers q ≡ top)) → (new_settled : List ℕ)
        → new_settled ≡ settled ++ waiter.place ∷ []
        → Settles numbers (set numbers waiter.place (top + 1)) waiting waiting settled new_settled waiter.place
    settles_number top all none above there new_settled settled_is =
        let passed_all : (k : ℕ) → waiter.next ≤ k → k < length (heads_at heads waiter.place)
        → 1 ≤ number_at numbers (number_at (heads_at heads waiter.place) k) =
        λ k le lt. (rw same at passed) k le (omega (arith, lt, all, ap length same)) in
        let above_all = rw same at above in
        let there_one = rw same at there in
        rw settled_is (record {
          right = number_right heads numbers waiting settled waiter are is top none passed_all above_all there_one;
          kept = number_keeps heads numbers waiting settled waiter are is top none passed_all above_all there_one;
          work = number_work heads numbers waiting settled waiter are is top none passed_all above_all there_one;
          waits = number_waits heads numbers waiting settled waiter are is top none passed_all above_all there_one;
        })

  -- ---- those that wait for a place are taken from their list

  module _ (numbers : List ℕ) (waiting : List (List Waiter)) (settled : List ℕ) (place : ℕ)
      (are : AreRight heads numbers waiting settled) where
    abbrev emptied : List (List Waiter)
    emptied = set waiting place []

    at_place : place < length waiting → waiters_at emptied place ≡ let nobody : List Waiter = [] in nobody
    at_place lt = get_or-set_same waiting place [] [] lt

    elsewhere : (c : ℕ) → c ≢ place → waiters_at emptied c ≡ waiters_at waiting c
    elsewhere c other = get_or-set_other waiting place c [] [] other

    -- what is left is right
    pub taken_right : place < length waiting → AreRight heads numbers emptied settled
    taken_right lt = record {
      each = are.each;
      lists = length-set waiting place [] ∙ are.lists;
      right = are.right;
      bound = are.bound;
      within = are.within;
      waiters = λ c. ⊎_elim
          (λ same. subst (All (IsWaiter heads numbers)) (sym (ap (waiters_at emptied) same ∙ at_place lt))
          (All-nil (IsWaiter heads numbers)))
          (λ other. subst (All (IsWaiter heads numbers)) (sym (elsewhere c other)) (are.waiters c))
          (cases_eq c place);
    }

    -- what waited goes on to do so, or was taken
    pub taken_waits : (p : ℕ) → Waits heads numbers waiting (settled ++ place ∷ []) p
        → Waits heads numbers emptied settled p ⊎ ((waiter : Waiter) × Contains (waiters_at waiting place) waiter × (waiter.place ≡ p))
    taken_waits p w = ⊎_elim
        (λ same. inr (w.3.0, subst (λ c. Contains (waiters_at waiting c) w.3.0) same w.3.2, w.3.1))
        (λ other. inl (
          w.0,
          w.1,
          ⊎_elim (λ unset. inl unset)
              (λ set_before. ⊎_elim (λ old. inr old) (λ is. absurd (other (sym is))) (Contains-push_cases settled place w.0 set_before))
              w.2,
          (w.3.0, w.3.1, subst (λ ws. Contains ws w.3.0) (sym (elsewhere w.0 other)) w.3.2),
        ))
        (cases_eq w.0 place)

  -- ---- one of them after the other

  -- while those that waited are settled again: what is left to do stays, and who waits is among the rest or waits anew
  pub record IsWoken (first : List ℕ) (Before : ℕ → Type 0) (waiters : List Waiter) (work done : ℕ) (numbers : List ℕ)
      (waiting : List (List Waiter)) (settled : List ℕ) : Type 0 where
    pub right : AreRight heads numbers waiting settled
    pub each : All (IsWaiter heads numbers) waiters
    pub kept : Keeps first numbers
    pub same : length settled + missing numbers ≡ work
    pub waits : (p : ℕ) → number_at numbers p ≡ 0 → Before p
        → Waits heads numbers waiting settled p ⊎ ((waiter : Waiter) × Contains (drop done waiters) waiter × (waiter.place ≡ p))

  pub woken_start : (numbers : List ℕ) (waiting : List (List Waiter)) (settled : List ℕ) (place : ℕ)
      → AreRight heads numbers waiting settled
      → place < length heads → (list rest : List Waiter) → list ≡ get_or waiting place list → rest ≡ []
      → IsWoken numbers (λ p. Waits heads numbers waiting (settled ++ place ∷ []) p) list (length settled + missing numbers) 0 numbers
      (set waiting place rest) settled
  woken_start numbers waiting settled place are lt list rest list_is none =
      let within : place < length waiting = omega (arith, lt, are.lists) in
      let is : list ≡ waiters_at waiting place = get_or_read waiting place list within list_is [] in
      rw (none, is) (record {
        right = taken_right numbers waiting settled place are within;
        each = are.waiters place;
        kept = keeps_all numbers;
        same = refl;
        waits = λ p unset before. taken_waits numbers waiting settled place are p before;
      })

  module _ (first : List ℕ) (Before : ℕ → Type 0) (waiters : List Waiter) (work done : ℕ) (numbers : List ℕ)
      (waiting : List (List Waiter)) (settled : List ℕ) (so_far : IsWoken first Before waiters work done numbers waiting settled) where
    pub woken_more : (waiter : Waiter) → done < length waiters → waiter ≡ get_or waiters done waiter
        → (new : List ℕ) (new_waiting : List (List Waiter)) (new_settled : List ℕ) → AreRight heads new new_waiting new_settled
        → Keeps numbers new → length new_settled + missing new ≡ length settled + missing numbers
        → ((p : ℕ) → number_at new p ≡ 0 → (p ≡ waiter.place) ⊎ Waits heads numbers waiting settled p
        → Waits heads new new_waiting new_settled p)
        → IsWoken first Before waiters work (done + 1) new new_waiting new_settled
    woken_more waiter lt is new new_waiting new_settled right keeps same_work moves = record {
      right = right;
      each = All-weaker (IsWaiter heads numbers) (IsWaiter heads new) (waiter_kept heads numbers new keeps) waiters so_far.each;
      kept = keeps_twice first numbers new so_far.kept keeps;
      same = same_work ∙ so_far.same;
      waits = λ p none before. ⊎_elim
          (λ old. inl (moves p none (inr old)))
          (λ w. ⊎_elim
          (λ here. inl (moves p none (inl (sym w.2 ∙ ap (λ (x : Waiter). x.place) (sym here)))))
          (λ later. inr (w.0, later, w.2))
          (first_or_later waiter (drop (done + 1) waiters) w.0
          (subst (λ l. Contains l w.0) (drop_more waiters done waiter lt ∙ ap (λ x. x ∷ drop (done + 1) waiters) (sym is)) w.1)))
          (so_far.waits p (none_before numbers new p keeps none) before);
    }

    -- behind the last, all that waited wait anew
    pub woken_all : length waiters ≤ done → (p : ℕ) → number_at numbers p ≡ 0 → Before p → Waits heads numbers waiting settled p
    woken_all le p none before = ⊎_elim (λ waits. waits)
        (λ w. absurd (omega (arith, (subst (λ l. Contains l w.0) (drop_all done waiters le) w.1).1)))
        (so_far.waits p none before)

  -- ---- the end

  -- where each place without a number has an arc to another, all have numbers
  pub all_numbered : AreWithin heads → HaveHeights heads → (numbers : List ℕ)
      → ((p : ℕ) → p < length heads → number_at numbers p ≡ 0 → (c : ℕ) × LeadsTo heads p c × (number_at numbers c ≡ 0))
      → (p : ℕ) → p < length heads → 1 ≤ number_at numbers p
  all_numbered within heights numbers waits p lt = ⊎_elim
      (λ few. absurd (none_of (heights.height p + 1) p (omega arith) lt (omega (arith, few))))
      (λ some. some) (cases_lt (number_at numbers p) 1)
    where
      none_of : (n p : ℕ) → heights.height p < n → p < length heads → number_at numbers p ≡ 0 → ⊥
      none_of zero p below lt none = omega (arith, below)
      none_of (suc n) p below lt none =
          let w = waits p lt none in
          none_of n w.0 (omega (arith, below, heights.falls p w.0 w.1)) (leads_within heads within p w.0 lt w.1) w.2
