-- Tables of numbers under a bound.
use Rattle.std.proofs.Common.{◌≡◌, ℕ, zero, suc, ◌<◌, Bool, List, [], ◌∷◌, ◌++◌, length, get_or, set, sym, ◌∙◌, subst, arith}
use Rattle.std.proofs.lemmas.List.{length-set}
use Rattle.clause_solver.specs.HeapValues.{HeapValue}
use Rattle.clause_solver.specs.Heaps.{AllUnder, IsHeap}

-- a number of the list is below the bound
pub under-get : (n : ℕ) (xs : List ℕ) (i d : ℕ) → i < length xs → AllUnder n xs → get_or xs i d < n
under-get n [] i d h u = absurd (omega arith)
under-get n (x ∷ xs) zero d h u = u.0
under-get n (x ∷ xs) (suc i) d h u = under-get n xs i d (omega arith) u.1

under-set : (n : ℕ) (xs : List ℕ) (i x : ℕ) → x < n → AllUnder n xs → AllUnder n (set xs i x)
under-set n [] i x h u = u
under-set n (y ∷ xs) zero x h u = (h, u.1)
under-set n (y ∷ xs) (suc i) x h u = (u.0, under-set n xs i x h u.1)

pub under-push : (n : ℕ) (xs : List ℕ) (x : ℕ) → x < n → AllUnder n xs → AllUnder n (xs ++ x ∷ [])
under-push n [] x h u = (h, tt)
under-push n (y ∷ xs) x h u = (u.0, under-push n xs x h u.1)

-- a variable is put at a place
pub heap-put : (heap places : List ℕ) (waiting activities phases place var : ℕ) → IsHeap heap places waiting activities phases
    → place < length heap → var < length heap → IsHeap (set heap place var) (set places var place) waiting activities phases
heap-put heap places waiting activities phases place var o p v =
    let n : length (set heap place var) ≡ length heap = length-set heap place var in record {
      heap_under = subst (λ k. AllUnder k (set heap place var)) (sym n) (under-set (length heap) heap place var v o.heap_under);
      places_under = subst (λ k. AllUnder k (set places var place)) (sym n) (under-set (length heap) places var place p o.places_under);
      waiting_within = omega (arith, n, o.waiting_within);
      same_places = length-set places var place ∙ o.same_places ∙ sym n;
      same_activities = o.same_activities ∙ sym n;
      same_phases = o.same_phases ∙ sym n;
    }

-- none waits
pub heap-untouched : (heap places : List ℕ) (vars activities phases : ℕ) → length heap ≡ vars → AllUnder vars heap → length places ≡ vars
    → AllUnder vars places → activities ≡ vars → phases ≡ vars → IsHeap heap places 0 activities phases
heap-untouched heap places vars activities phases n h m p a f = record {
  heap_under = subst (λ k. AllUnder k heap) (sym n) h;
  places_under = subst (λ k. AllUnder k places) (sym n) p;
  waiting_within = omega arith;
  same_places = m ∙ sym n;
  same_activities = a ∙ sym n;
  same_phases = f ∙ sym n;
}

-- what stands in the tables is under the bound
module _ (o : HeapValue) (heap places : List ℕ) (w a p i x y : ℕ) (last : List Bool)
    (view : ◌≡◌ {A = HeapValue} (record { vars = length heap; waiting = w; phases = last }) o) (is : IsHeap heap places w a p)
    (h : i < length heap) where
  -- a variable read from the heap is one that there is
  pub heap-at : x ≡ get_or heap i y → x < o.vars
  heap-at e = subst (λ (v : HeapValue). x < v.vars) view (rw e (under-get (length heap) heap i y h is.heap_under))

  -- so is a place
  pub place-at : x ≡ get_or places i y → x < o.vars
  place-at e = subst (λ (v : HeapValue). x < v.vars) view
      (rw e (under-get (length heap) places i y (omega (arith, h, is.same_places)) is.places_under))
