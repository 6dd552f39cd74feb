-- The greatest number of some places, found one after the other.
use Rattle.std.proofs.Common.{◌≡◌, sym, ◌∙◌, ℕ, ◌+◌, ◌<◌, ◌≤◌, List, [], ◌∷◌, length, take, All, Contains, ◌⊎◌, inl, inr, ⊎_elim, arith}
use Rattle.std.proofs.lemmas.List.{take_more}
use Rattle.std.proofs.lemmas.List.Elements.{All-push, All-weaker, Contains-append_left, Contains-push}
use Rattle.install_plan.specs.Numbers.{number_at}

-- one place more
pub top_more : (numbers places : List ℕ) (done top new : ℕ) → done < length places → All (λ q. number_at numbers q ≤ top) (take done places)
    → (top ≡ 0) ⊎ ((q : ℕ) × Contains (take done places) q × (number_at numbers q ≡ top))
    → ((top < number_at numbers (number_at places done)) × (new ≡ number_at numbers (number_at places done)))
    ⊎ ((number_at numbers (number_at places done) ≤ top) × (new ≡ top))
    → All (λ q. number_at numbers q ≤ new) (take (done + 1) places)
    × ((new ≡ 0) ⊎ ((q : ℕ) × Contains (take (done + 1) places) q × (number_at numbers q ≡ new)))
top_more numbers places done top new lt above there which = rw (take_more places done 0 lt) (⊎_elim
    (λ w. (
      All-push (λ q. number_at numbers q ≤ new) (take done places) (number_at places done)
          (All-weaker (λ q. number_at numbers q ≤ top) (λ q. number_at numbers q ≤ new) (λ q le. omega (arith, le, w.0, w.1))
          (take done places) above)
          (omega (arith, w.1)),
      inr (number_at places done, Contains-push (take done places) (number_at places done), sym w.1),
    ))
    (λ w. (
      All-push (λ q. number_at numbers q ≤ new) (take done places) (number_at places done)
          (All-weaker (λ q. number_at numbers q ≤ top) (λ q. number_at numbers q ≤ new) (λ q le. omega (arith, le, w.1))
          (take done places) above)
          (omega (arith, w.0, w.1)),
      ⊎_elim (λ none. inl (w.1 ∙ none))
          (λ old. inr (old.0, Contains-append_left (take done places) (number_at places done ∷ []) old.0 old.1, old.2 ∙ sym w.1)) there,
    ))
    which)
