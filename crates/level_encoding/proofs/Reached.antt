-- Paths over arcs between numbers, as tests.
use Rattle.std.proofs.Common.{◌≡◌, ℕ, ◌<◌, Bool, true, false, ◌&&◌, List, [], ◌∷◌, ◌⊎◌, inl, inr, refl, sym, subst, arith}
use Rattle.std.specs.Prelude.{Contains}
use Rattle.std.proofs.lemmas.Bool.{eq-eqb, eqb-true, ne_eqb}
use Rattle.reachability.specs.Paths.{Path, HasArc, reaches, joined}
use Rattle.reachability.specs.Laws.{IsExact}
use Rattle.reachability.specs.Places.{PathMarks, IsPathTable, leads}
use Rattle.reachability.proofs.CountLaws.{has_first, has_later, first_or_later}
use Rattle.reachability.proofs.SpreadLaws.{reaches_decides}
use Rattle.reachability.proofs.PartLaws.{joined_decides}
use Rattle.reachability.proofs.PathLaws.{first_arc}
use Rattle.level_encoding.specs.Input.{same}
use Rattle.level_encoding.proofs.Lists.{In}

-- the test of numbers is exact
pub exact_same : IsExact same
exact_same x y = (eqb-true x y, eq-eqb x y)

-- what is in a list is contained
pub In-has : {A : Type 0} (x : A) (xs : List A) → In x xs → Contains xs x
In-has x [] i = absurd i
In-has x (y ∷ ys) (inl e) = subst (λ z. Contains (z ∷ ys) x) e (has_first x ys)
In-has x (y ∷ ys) (inr t) = has_later y ys x (In-has x ys t)

pub has-In : {A : Type 0} (x : A) (xs : List A) → Contains xs x → In x xs
has-In x [] h = absurd (omega (arith, h.1))
has-In x (y ∷ ys) h = elim (first_or_later y ys x h) [ inl e ↦ inl (sym e) | inr t ↦ inr (has-In x ys t) ]

module _ (arcs : List (ℕ × ℕ)) where
  -- what the table says is reached is reached by a path
  pub reaches-sound : (p q : ℕ) → reaches same arcs p q ≡ true → Path (HasArc arcs) p q
  reaches-sound p q h = (reaches_decides same exact_same arcs p q).0 h

  -- and the other way round
  pub reaches-complete : (p q : ℕ) → Path (HasArc arcs) p q → reaches same arcs p q ≡ true
  reaches-complete p q t = (reaches_decides same exact_same arcs p q).1 t

  -- paths both ways join two numbers
  pub joined-from : (p q : ℕ) → Path (HasArc arcs) p q → Path (HasArc arcs) q p → joined same arcs p q ≡ true
  joined-from p q t u = (joined_decides same exact_same arcs p q).1 (inr (t, u))

  -- a path has a first arc
  pub Path-first : (p q : ℕ) → Path (HasArc arcs) p q → (r : ℕ) × HasArc arcs p r × ((r ≡ q) ⊎ Path (HasArc arcs) r q)
  Path-first p q t = elim (first_arc (HasArc arcs) p q t) [ inl a ↦ (q, a, inl refl) | inr w ↦ (w.0, w.1, inr w.2) ]

  -- what a table of paths tells is what is computed
  pub table-reaches : (n : ℕ) (table : PathMarks) → IsPathTable n arcs table → (p q : ℕ) → p < n → q < n
      → leads table p q ≡ reaches same arcs p q
  table-reaches n table t p q a b = both (leads table p q) (reaches same arcs p q) (λ h. reaches-complete p q ((t.marks p q a b).0 h))
      (λ h. (t.marks p q a b).1 (reaches-sound p q h))
    where
      both : (x y : Bool) → (x ≡ true → y ≡ true) → (y ≡ true → x ≡ true) → x ≡ y
      both true y f g = sym (f refl)
      both false true f g = g refl
      both false false f g = refl

  -- two numbers are joined where the table tells of paths both ways
  pub table-joined : (n : ℕ) (table : PathMarks) → IsPathTable n arcs table → (p q : ℕ) → p < n → q < n → (p ≡ q → ⊥)
      → (leads table p q && leads table q p) ≡ joined same arcs p q
  unfolding joined
  table-joined n table t p q a b d = rw (ne_eqb p q d, table-reaches n table t p q a b, table-reaches n table t q p b a) refl

pub ruleset table_tells = (table-reaches)
