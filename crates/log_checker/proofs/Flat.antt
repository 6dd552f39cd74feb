-- Known clauses in one list of literals: one more stands behind the others, and the first ones stay.
use Prim.Native.Nat.{zero, suc}
use Rattle.std.proofs.Common.{◌≡◌, ℕ, ◌+◌, ◌-◌, ◌<◌, ◌≤◌, Bool, List, [], ◌∷◌, ◌++◌, take, drop, length, Some, refl, sym, ap, ◌∙◌, subst, arith}
use Rattle.std.specs.Prelude.{slice_get, slice_range}
use Rattle.std.proofs.lemmas.Option.{none-some, same_Some}
use Rattle.std.proofs.lemmas.List.{drop-append-le, take-append-le, length-drop, length-append, length-take-le}
use Rattle.std.proofs.Math.Seq.{drop-append_seam, take-length}
use Rattle.clause_store.specs.declared.Lit.{Lit}
use Rattle.clause_store.specs.Lits.{IsClause}
use Rattle.proof_log.specs.Known.{AllClauses}
use Rattle.log_checker.specs.declared.known.Known.{Known}
use Rattle.log_checker.specs.declared.known.End.{End}
use Rattle.log_checker.specs.Known.{clauses_in}
use Rattle.log_checker.specs.Flat.{end_in, is_bit_in, start_of, known_from, IsCut}
use Rattle.log_checker.proofs.Ids.{clauses-append}

pub cut-le : (from all : ℕ) (ends : List End) → IsCut from ends all → from ≤ all
cut-le from all [] c = omega (arith, c)
cut-le from all (e ∷ ends) c = let h = cut-le e.place all ends c.1 in omega (arith, c.0, h)

-- one more end, not before the last
pub cut-more : (from all : ℕ) (ends : List End) (e : End) → all ≤ e.place → IsCut from ends all → IsCut from (ends ++ e ∷ []) e.place
cut-more from all [] e h c = (omega (arith, c, h), refl)
cut-more from all (d ∷ ends) e h c = (c.0, cut-more d.place all ends e h c.1)

range-last : (lits more : List Lit) (from to : ℕ) → from ≡ length lits → to ≡ length lits + length more
    → slice_range (lits ++ more) from to ≡ more
range-last lits more from to e f =
    let n : length lits + length more - length lits ≡ length more = omega arith in
    rw (f, e, n, drop-append_seam lits more) (take-length more)

range-before : (lits more : List Lit) (from to : ℕ) → from ≤ to → to ≤ length lits
    → slice_range (lits ++ more) from to ≡ slice_range lits from to
range-before lits more from to e k =
    let n : to - from ≤ length (drop from lits) = omega (arith, length-drop from lits) in
    rw (drop-append-le from lits more (omega arith)) (take-append-le (to - from) (drop from lits) more n)

-- literals behind the last end change nothing
pub known-before : (lits more : List Lit) (from all : ℕ) (ends : List End) → IsCut from ends all → all ≤ length lits
    → known_from (lits ++ more) from ends ≡ known_from lits from ends
known-before lits more from all [] c h = refl
known-before lits more from all (e ∷ ends) c h =
    let k = cut-le e.place all ends c.1 in
    rw (range-before lits more from e.place c.0 (omega (arith, k, h)), known-before lits more e.place all ends c.1 h) refl

-- one clause more behind the others
pub known-more : (lits more : List Lit) (from : ℕ) (ends : List End) (e : End) → IsCut from ends (length lits)
    → e.place ≡ length lits + length more
    → known_from (lits ++ more) from (ends ++ e ∷ []) ≡ known_from lits from ends ++ record { clause = more; by_bit = e.by_bit } ∷ []
known-more lits more from [] e c h = rw (range-last lits more from e.place c h) refl
known-more lits more from (d ∷ ends) e c h =
    let k = cut-le d.place (length lits) ends c.1 in
    rw (range-before lits more from d.place c.0 k, known-more lits more d.place ends e c.1 h) refl

pub known-length : (lits : List Lit) (from : ℕ) (ends : List End) → length (known_from lits from ends) ≡ length ends
known-length lits from [] = refl
known-length lits from (e ∷ ends) = ap (λ n. suc n) (known-length lits e.place ends)

-- the clause at a place lies from its start to its end
pub known-at : (lits : List Lit) (from : ℕ) (ends : List End) (j : ℕ) → j < length ends
    → slice_get (known_from lits from ends) j
    ≡ Some (record {
      clause = slice_range lits (start_of from ends j) (end_in (slice_get ends j));
      by_bit = is_bit_in (slice_get ends j);
    })
known-at lits from [] j h = absurd (omega (arith, h))
known-at lits from (e ∷ ends) zero h = refl
known-at lits from (e ∷ ends) (suc zero) h = known-at lits e.place ends zero (omega (arith, h))
known-at lits from (e ∷ ends) (suc (suc j)) h = known-at lits e.place ends (suc j) (omega (arith, h))

pub end-le : (from all : ℕ) (ends : List End) (j : ℕ) → IsCut from ends all → j < length ends → end_in (slice_get ends j) ≤ all
end-le from all [] j c h = absurd (omega (arith, h))
end-le from all (e ∷ ends) zero c h = cut-le e.place all ends c.1
end-le from all (e ∷ ends) (suc j) c h = end-le e.place all ends j c.1 (omega (arith, h))

pub start-le : (from all : ℕ) (ends : List End) (j : ℕ) → IsCut from ends all → j < length ends
    → start_of from ends j ≤ end_in (slice_get ends j)
start-le from all [] j c h = absurd (omega (arith, h))
start-le from all (e ∷ ends) zero c h = c.0
start-le from all (e ∷ ends) (suc zero) c h = start-le e.place all ends zero c.1 (omega (arith, h))
start-le from all (e ∷ ends) (suc (suc j)) c h = start-le e.place all ends (suc j) c.1 (omega (arith, h))

-- the first clauses end where the next one begins
pub cut-take : (from all : ℕ) (ends : List End) (n : ℕ) → n ≤ length ends → IsCut from ends all
    → IsCut from (take n ends) (start_of from ends n)
cut-take from all [] zero h c = refl
cut-take from all [] (suc n) h c = absurd (omega (arith, h))
cut-take from all (e ∷ ends) zero h c = refl
cut-take from all (e ∷ []) (suc zero) h c = (c.0, refl)
cut-take from all (e ∷ f ∷ ends) (suc zero) h c = (c.0, refl)
cut-take from all (e ∷ ends) (suc (suc n)) h c = (c.0, cut-take e.place all ends (suc n) (omega (arith, h)) c.1)

pub start-within : (from all : ℕ) (ends : List End) (n : ℕ) → n ≤ length ends → IsCut from ends all → start_of from ends n ≤ all
start-within from all ends zero h c = cut-le from all ends c
start-within from all ends (suc n) h c = end-le from all ends n c (omega (arith, h))

take-known : (lits : List Lit) (from : ℕ) (ends : List End) (n : ℕ)
    → known_from lits from (take n ends) ≡ take n (known_from lits from ends)
take-known lits from [] zero = refl
take-known lits from [] (suc n) = refl
take-known lits from (e ∷ ends) zero = refl
take-known lits from (e ∷ ends) (suc n) =
    ap (λ ks. record { clause = slice_range lits from e.place; by_bit = e.by_bit } ∷ ks) (take-known lits e.place ends n)

take-drop : (lits : List Lit) (n : ℕ) → take n lits ++ drop n lits ≡ lits
take-drop [] zero = refl
take-drop [] (suc n) = refl
take-drop (l ∷ lits) zero = refl
take-drop (l ∷ lits) (suc n) = ap (λ ls. l ∷ ls) (take-drop lits n)

-- the first ones stay where the literals of the others are taken
pub known-cut : (lits : List Lit) (ends : List End) (n : ℕ) → n ≤ length ends → IsCut 0 ends (length lits)
    → known_from (take (start_of 0 ends n) lits) 0 (take n ends) ≡ take n (known_from lits 0 ends)
known-cut lits ends n h c =
    let end = start_of 0 ends n in
    let k : length (take end lits) ≡ end = length-take-le end lits (start-within 0 (length lits) ends n h c) in
    sym (known-before (take end lits) (drop end lits) 0 end (take n ends) (cut-take 0 (length lits) ends n h c) (omega (arith, k)))
    ∙ ap (λ ls. known_from ls 0 (take n ends)) (take-drop lits end) ∙ take-known lits 0 ends n

pub cut-cut : (lits : List Lit) (ends : List End) (n : ℕ) → n ≤ length ends → IsCut 0 ends (length lits)
    → IsCut 0 (take n ends) (length (take (start_of 0 ends n) lits))
cut-cut lits ends n h c =
    subst (IsCut 0 (take n ends)) (sym (length-take-le (start_of 0 ends n) lits (start-within 0 (length lits) ends n h c)))
    (cut-take 0 (length lits) ends n h c)

-- clauses in order
pub order-at : (ks : List Known) (k : ℕ) (e : Known) → AllClauses (clauses_in ks) → slice_get ks k ≡ Some e → IsClause e.clause
order-at [] k e o q = absurd (none-some e q)
order-at (x ∷ ks) zero e o q = subst (λ (y : Known). IsClause y.clause) (same_Some x e q) o.0
order-at (x ∷ ks) (suc k) e o q = order-at ks k e o.1 q

each-more : (cs : List (List Lit)) (c : List Lit) → AllClauses cs → IsClause c → AllClauses (cs ++ c ∷ [])
each-more [] c a i = (i, tt)
each-more (d ∷ cs) c a i = (a.0, each-more cs c a.1 i)

pub order-more : (ks : List Known) (k : Known) → AllClauses (clauses_in ks) → IsClause k.clause → AllClauses (clauses_in (ks ++ k ∷ []))
order-more ks k a i = subst AllClauses (sym (clauses-append ks (k ∷ []))) (each-more (clauses_in ks) k.clause a i)

pub order-take : (ks : List Known) (n : ℕ) → AllClauses (clauses_in ks) → AllClauses (clauses_in (take n ks))
order-take [] zero a = tt
order-take [] (suc n) a = tt
order-take (k ∷ ks) zero a = tt
order-take (k ∷ ks) (suc n) a = (a.0, order-take ks n a.1)

-- a known clause in a list, by its parts
pub clause-of : (ks : List Known) (k : ℕ) (e : Known) → slice_get ks k ≡ Some e → slice_get (clauses_in ks) k ≡ Some e.clause
clause-of [] k e q = absurd (none-some e q)
clause-of (x ∷ ks) zero e q = ap (λ (y : Known). Some y.clause) (same_Some x e q)
clause-of (x ∷ ks) (suc k) e q = clause-of ks k e q

-- what is read at a place of the two lists
module _ (lits : List Lit) (ends : List End) (now : List Known) (view : known_from lits 0 ends ≡ now) (place : ℕ)
    (h : place < length now) where
  pub place-in : place < length ends
  place-in = omega (arith, h, ap length view, known-length lits 0 ends)

  pub got : (ls c : List Lit) (es fs : List End) (b : Bool) → ls ≡ lits → es ≡ ends → fs ≡ ends
      → c ≡ slice_range ls (start_of 0 es place) (end_in (slice_get es place)) → b ≡ is_bit_in (slice_get fs place)
      → slice_get now place ≡ Some (record { clause = c; by_bit = b })
  got ls c es fs b e f g x y = rw (x, y, e, f, g, ← view) (known-at lits 0 ends place place-in)

  pub got-order : (e : Known) → AllClauses (clauses_in (known_from lits 0 ends)) → slice_get now place ≡ Some e → IsClause e.clause
  got-order e a q = order-at now place e (rw (← view) a) q

-- one clause more in the two lists
module _ (lits more : List Lit) (ends : List End) (cut : IsCut 0 ends (length lits)) (ls : List Lit) (es : List End) (place : ℕ) (b : Bool)
    (l : ls ≡ lits ++ more) (n : place ≡ length ls) (e : es ≡ ends ++ record { place = place; by_bit = b } ∷ []) where
  total : place ≡ length lits + length more
  total = n ∙ ap length l ∙ length-append lits more

  pub pushed : known_from ls 0 es ≡ known_from lits 0 ends ++ record { clause = more; by_bit = b } ∷ []
  pushed = rw (l, e) (known-more lits more 0 ends (record { place = place; by_bit = b }) cut total)

  pub pushed-cut : IsCut 0 es (length ls)
  pushed-cut = rw (e, ← n) (cut-more 0 (length lits) ends (record { place = place; by_bit = b }) (omega (arith, total)) cut)

  pub pushed-order : AllClauses (clauses_in (known_from lits 0 ends)) → IsClause more → AllClauses (clauses_in (known_from ls 0 es))
  pushed-order a i = rw pushed (order-more (known_from lits 0 ends) (record { clause = more; by_bit = b }) a i)

-- the first clauses of the two lists
module _ (lits : List Lit) (ends : List End) (now : List Known) (view : known_from lits 0 ends ≡ now) (n : ℕ) (h : n ≤ length now)
    (cut : IsCut 0 ends (length lits)) (ls : List Lit) (es fs : List End) (m : ℕ) (s : m ≡ start_of 0 fs n) (f : fs ≡ ends)
    (l : ls ≡ take m lits) (e : es ≡ take n ends) where
  few : n ≤ length ends
  few = omega (arith, h, ap length view, known-length lits 0 ends)

  at-first : known_from ls 0 es ≡ take n (known_from lits 0 ends)
  at-first = rw (l, e, s, f) (known-cut lits ends n few cut)

  pub trimmed : known_from ls 0 es ≡ take n now
  trimmed = at-first ∙ ap (take n) view

  pub trimmed-cut : IsCut 0 es (length ls)
  trimmed-cut = rw (l, e, s, f) (cut-cut lits ends n few cut)

  pub trimmed-order : AllClauses (clauses_in (known_from lits 0 ends)) → AllClauses (clauses_in (known_from ls 0 es))
  trimmed-order a = rw at-first (order-take (known_from lits 0 ends) n a)
