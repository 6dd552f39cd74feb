-- Numbers that are found one after another.
use Rattle.std.proofs.Common.{◌≡◌, ◌≢◌, sym, ap, subst, ◌∙◌, ℕ, ◌+◌, ◌<◌, ◌≤◌, ◌==◌, List, [], ◌∷◌, ◌++◌, length, set, replicate, All, Contains, ◌⊎◌, inl, inr, ⊎_elim, arith}
use Rattle.std.proofs.lemmas.Bool.{cases_eq, cases_lt}
use Rattle.std.proofs.lemmas.List.{length-set, get_or-set_same, get_or-set_other, get_or_past, get_or-replicate, get_or_default, length-replicate, length_push}
use Rattle.std.proofs.lemmas.List.Sums.{count_by-le-length}
use Rattle.std.proofs.lemmas.List.Elements.{All-contains, All-push, All-weaker, All-nil, All-get_or, Contains-get_or, Contains-append_left, Contains-push}
use Rattle.reachability.specs.Places.{LeadsTo, AreWithin}
use Rattle.install_plan.specs.declared.numbers.Waiter.{Waiter}
use Rattle.install_plan.specs.Numbers.{number_at, heads_at, missing, IsRightAt, IsWaiter, waiters_at, AreRight, Waits, Keeps}
use Rattle.install_plan.proofs.NumbersAlone.{one_fewer, keeps_others, none_yet}

module _ (heads : List (List ℕ)) where
  -- where arcs lead is a place
  pub leads_within : AreWithin heads → (p q : ℕ) → p < length heads → LeadsTo heads p q → q < length heads
  leads_within within p q lt leads = All-contains (λ x. x < length heads) (heads_at heads p) q
      (All-get_or (All (λ x. x < length heads)) heads p [] lt within) leads

  -- arcs lead to what stands at one of their places
  pub leads_at : (p k : ℕ) → k < length (heads_at heads p) → LeadsTo heads p (number_at (heads_at heads p) k)
  leads_at p k lt = Contains-get_or (heads_at heads p) k 0 lt

  module _ (a b : List ℕ) (keeps : Keeps a b) where
    -- what is right stays so
    pub right_kept : (p : ℕ) → 1 ≤ number_at a p → IsRightAt heads a p → IsRightAt heads b p
    right_kept p has right = record {
      some = λ q leads. omega (arith, keeps q (right.some q leads), right.some q leads);
      above = λ q leads. omega (arith, keeps q (right.some q leads), keeps p has, right.above q leads);
      least = ⊎_elim
          (λ one. inl (keeps p has ∙ one))
          (λ w. inr (w.0, w.1, keeps p has ∙ w.2 ∙ ap (λ n. n + 1) (sym (keeps w.0 (right.some w.0 w.1))))) right.least;
    }

    -- what waits goes on to do so
    pub waiter_kept : (waiter : Waiter) → IsWaiter heads a waiter → IsWaiter heads b waiter
    waiter_kept waiter is = record {
      place = is.place;
      next = is.next;
      passed = λ k lt. omega (arith, keeps (number_at (heads_at heads waiter.place) k) (is.passed k lt), is.passed k lt);
    }

  -- ---- the start

  -- without numbers and waiters all is right
  pub start_right : (numbers : List ℕ) (waiting : List (List Waiter)) → numbers ≡ replicate (length heads) 0
      → waiting ≡ replicate (length heads) [] → AreRight heads numbers waiting []
  start_right numbers waiting are_none no_waiters = record {
    each = ap length are_none ∙ length-replicate (length heads) 0;
    lists = ap length no_waiters ∙ length-replicate (length heads) [];
    right = λ p some. absurd (omega (arith, some, none p));
    bound = λ p. omega (arith, none p, count_by-le-length (λ n. n == 0) numbers);
    within = All-nil (λ p. p < length heads);
    waiters = λ c. subst (All (IsWaiter heads numbers)) (sym (empty c)) (All-nil (IsWaiter heads numbers));
  }
    where
      none : (p : ℕ) → number_at numbers p ≡ 0
      none p = ap (λ ns. number_at ns p) are_none ∙ none_yet (length heads) p

      empty : (c : ℕ) → waiters_at waiting c ≡ let nobody : List Waiter = [] in nobody
      empty c = ap (λ ws. waiters_at ws c) no_waiters ∙ ⊎_elim (λ lt. get_or-replicate (length heads) c [] [] lt)
          (λ le. get_or_past (replicate (length heads) []) c [] (omega (arith, le, length-replicate {A = List Waiter} (length heads) [])))
          (cases_lt c (length heads))

  -- ---- one waiter more, and one number more

  module _ (numbers : List ℕ) (waiting : List (List Waiter)) (settled : List ℕ) (waiter : Waiter)
      (are : AreRight heads numbers waiting settled)
      (is : IsWaiter heads numbers waiter) where
    module _ (next : ℕ) (lt : next < length (heads_at heads waiter.place))
        (passed : (k : ℕ) → waiter.next ≤ k → k < next → 1 ≤ number_at numbers (number_at (heads_at heads waiter.place) k)) where
      abbrev goal_of : ℕ
      goal_of = number_at (heads_at heads waiter.place) next

      abbrev later : Waiter
      later = record { place = waiter.place; next = next }

      abbrev longer : List (List Waiter)
      longer = set waiting goal_of (waiters_at waiting goal_of ++ later ∷ [])

      is_later : IsWaiter heads numbers later
      is_later = record {
        place = is.place;
        next = omega (arith, lt);
        passed = λ k le. ⊎_elim (λ early. is.passed k early) (λ late. passed k late le) (cases_lt k waiter.next);
      }

      at_goal : goal_of < length waiting → waiters_at longer goal_of ≡ waiters_at waiting goal_of ++ later ∷ []
      at_goal there = get_or-set_same waiting goal_of (waiters_at waiting goal_of ++ later ∷ []) [] there

      at_other : (c : ℕ) → c ≢ goal_of → waiters_at longer c ≡ waiters_at waiting c
      at_other c other = get_or-set_other waiting goal_of c (waiters_at waiting goal_of ++ later ∷ []) [] other

      -- one that waits for a place is right
      pub wait_right : goal_of < length waiting → AreRight heads numbers longer settled
      wait_right there = record {
        each = are.each;
        lists = length-set waiting goal_of (waiters_at waiting goal_of ++ later ∷ []) ∙ are.lists;
        right = are.right;
        bound = are.bound;
        within = are.within;
        waiters = λ c. ⊎_elim
            (λ same. subst (All (IsWaiter heads numbers)) (sym (ap (waiters_at longer) same ∙ at_goal there))
            (All-push (IsWaiter heads numbers) (waiters_at waiting goal_of) later (are.waiters goal_of) is_later))
            (λ other. subst (All (IsWaiter heads numbers)) (sym (at_other c other)) (are.waiters c))
            (cases_eq c goal_of);
      }

      -- it waits, and so do all that waited before
      pub wait_waits : goal_of < length waiting → number_at numbers goal_of ≡ 0 → (p : ℕ)
          → (p ≡ waiter.place) ⊎ Waits heads numbers waiting settled p → Waits heads numbers longer settled p
      wait_waits there none p before = ⊎_elim
          (λ same. (
            goal_of,
            subst (λ x. LeadsTo heads x goal_of) (sym same) (leads_at waiter.place next lt),
            inl none,
            (later, sym same, subst (λ ws. Contains ws later) (sym (at_goal there)) (Contains-push (waiters_at waiting goal_of) later)),
          ))
          (λ w. (
            w.0,
            w.1,
            w.2,
            (
              w.3.0,
              w.3.1,
              ⊎_elim
                  (λ same. subst (λ ws. Contains ws w.3.0) (sym (ap (waiters_at longer) same ∙ at_goal there))
                  (Contains-append_left (waiters_at waiting goal_of) (later ∷ []) w.3.0
                  (subst (λ c. Contains (waiters_at waiting c) w.3.0) same w.3.2)))
                  (λ other. subst (λ ws. Contains ws w.3.0) (sym (at_other w.0 other)) w.3.2) (cases_eq w.0 goal_of),
            ),
          )) before

    module _ (top : ℕ) (none : number_at numbers waiter.place ≡ 0)
        (passed : (k : ℕ) → waiter.next ≤ k → k < length (heads_at heads waiter.place)
        → 1 ≤ number_at numbers (number_at (heads_at heads waiter.place) k))
        (above : All (λ q. number_at numbers q ≤ top) (heads_at heads waiter.place))
        (there : (top ≡ 0) ⊎ ((q : ℕ) × Contains (heads_at heads waiter.place) q × (number_at numbers q ≡ top))) where
      abbrev place : ℕ
      place = waiter.place

      abbrev more : List ℕ
      more = set numbers place (top + 1)

      place_lt : place < length numbers
      place_lt = omega (arith, is.place, are.each)

      own : number_at more place ≡ top + 1
      own = get_or-set_same numbers place (top + 1) 0 place_lt

      keeps : Keeps numbers more
      keeps = keeps_others numbers place (top + 1) none

      fewer : missing more + 1 ≡ missing numbers
      fewer = one_fewer numbers place (top + 1) place_lt none (omega arith)

      all_passed : (q : ℕ) → LeadsTo heads place q → 1 ≤ number_at numbers q
      all_passed q leads = subst (λ x. 1 ≤ number_at numbers x)
          (get_or_default (heads_at heads place) leads.0 0 q leads.1 ∙ leads.2)
          (⊎_elim (λ early. is.passed leads.0 early) (λ late. passed leads.0 late leads.1) (cases_lt leads.0 waiter.next))

      top_le : top + missing numbers ≤ length numbers
      top_le = ⊎_elim (λ e. omega (arith, e, are.bound place)) (λ w. omega (arith, w.2, are.bound w.0)) there

      -- the number fits
      pub number_fits : top + 1 ≤ length numbers
      number_fits = omega (arith, top_le, fewer)

      own_right : IsRightAt heads more place
      own_right = record {
        some = λ q leads. omega (arith, keeps q (all_passed q leads), all_passed q leads);
        above = λ q leads. omega (
          arith,
          keeps q (all_passed q leads),
          All-contains (λ x. number_at numbers x ≤ top) (heads_at heads place) q above leads,
          own,
        );
        least = ⊎_elim
            (λ e. inl (own ∙ ap (λ n. n + 1) e))
            (λ w. inr (w.0, w.1, own ∙ ap (λ n. n + 1) (sym (keeps w.0 (all_passed w.0 w.1) ∙ w.2)))) there;
      }

      -- one number more is right
      pub number_right : AreRight heads more waiting (settled ++ place ∷ [])
      number_right = record {
        each = length-set numbers place (top + 1) ∙ are.each;
        lists = are.lists;
        right = λ p some. ⊎_elim
            (λ same. subst (IsRightAt heads more) (sym same) own_right)
            (λ other.
            let before : 1 ≤ number_at numbers p = omega (arith, some, get_or-set_other numbers place p (top + 1) 0 other) in
            right_kept numbers more keeps p before (are.right p before))
            (cases_eq p place);
        bound = λ p. ⊎_elim
            (λ same. omega (arith, ap (number_at more) same, own, top_le, fewer, length-set numbers place (top + 1)))
            (λ other. omega (
              arith,
              get_or-set_other numbers place p (top + 1) 0 other,
              are.bound p,
              fewer,
              length-set numbers place (top + 1),
            ))
            (cases_eq p place);
        within = All-push (λ p. p < length heads) settled place are.within is.place;
        waiters = λ c. All-weaker (IsWaiter heads numbers) (IsWaiter heads more) (waiter_kept numbers more keeps) (waiters_at waiting c)
            (are.waiters c);
      }

      pub number_keeps : Keeps numbers more
      number_keeps = keeps

      -- as much is left to do: one number less, one settled place more
      pub number_work : length (settled ++ place ∷ []) + missing more ≡ length settled + missing numbers
      number_work = omega (arith, length_push settled place, fewer)

      -- all others wait as before
      pub number_waits : (p : ℕ) → number_at more p ≡ 0 → (p ≡ place) ⊎ Waits heads numbers waiting settled p
          → Waits heads more waiting (settled ++ place ∷ []) p
      number_waits p still before = ⊎_elim
          (λ same. absurd (omega (arith, still, own, ap (number_at more) same)))
          (λ w. (
            w.0,
            w.1,
            ⊎_elim
                (λ unset. ⊎_elim
                (λ same. inr (subst (Contains (settled ++ place ∷ [])) (sym same) (Contains-push settled place)))
                (λ other. inl (get_or-set_other numbers place w.0 (top + 1) 0 other ∙ unset))
                (cases_eq w.0 place))
                (λ set_before. inr (Contains-append_left settled (place ∷ []) w.0 set_before)) w.2,
            w.3,
          )) before
