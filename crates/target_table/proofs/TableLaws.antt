-- The table of ancestors: what its rows tell, and that no entry is its own ancestor.
use Rattle.std.proofs.Common.{◌≡◌, refl, sym, ap, subst, ◌∙◌, ℕ, ◌<◌, Bool, true, false, not, Option, Some, None, IfSome, IsTrue, List, [], ◌∷◌, length, get_or, take, map, Contains, Decides, ⊎_elim, arith}
use Rattle.std.specs.List.{position_or_len}
use Rattle.std.proofs.lemmas.List.Sums.{prefix_len_is}
use Rattle.std.specs.Str.{bytes_eq}
use Rattle.std.specs.Cmp.Lexicographic.{bytes_decides}
use Rattle.std.proofs.lemmas.Bool.{cases_order, false_from_ne_true, lt-ltb, le-ltb}
use Rattle.std.proofs.lemmas.Bool.Decides.{same_from_decides, Decides-or, Decides-and}
use Rattle.std.proofs.lemmas.List.{get_or-map, get_or_default, get_or-take, length-map, length-take-le}
use Rattle.std.proofs.lemmas.List.Elements.{Contains-append_cases}
use Rattle.reachability.specs.Paths.{HasArc, IsAcyclic}
use Rattle.reachability.specs.Places.{IsAt, AreNumbered, PathMarks, leads, IsPathTable, IsKeyTable}
use Rattle.reachability.proofs.CountLaws.{has_first, has_later, has_image, image_of}
use Rattle.reachability.proofs.PathLaws.{first_arc, last_arc}
use Rattle.reachability.proofs.SpreadLaws.{reaches_decides}
use Rattle.reachability.proofs.TableLaws.{key_table}
use Rattle.target_table.specs.declared.entry.TargetEntry.{TargetEntry}
use Rattle.target_table.specs.Targets.{names_of, parent_arcs, place_of, HasAncestor, has_ancestor, IsTwice, IsUnknown, HasNone, IsAtLeast, is_at_least, IsInRange, keeps_end, in_range}

-- ---- names and places

module _ (entries : List TargetEntry) where
  -- a name that never stands twice has one place
  pub one_place : HasNone IsTwice entries → (name : List ℕ) (i j : ℕ) → IsAt (names_of entries) name i
      → IsAt (names_of entries) name j → i ≡ j
  one_place once name i j at_i at_j =
      ⊎_elim (λ e. e) (λ apart. ⊎_elim (λ lt. absurd (twice i j lt at_i at_j)) (λ gt. absurd (twice j i gt at_j at_i)) apart)
      (cases_order i j)
    where
      twice : (i j : ℕ) → i < j → IsAt (names_of entries) name i → IsAt (names_of entries) name j → ⊥
      twice i j lt at_i at_j =
          let within : j < length entries = omega (arith, at_j.0, length-map entries (λ (e : TargetEntry). e.name)) in
          once j (
            within,
            λ d.
                let is : (get_or entries j d).name ≡ name =
                sym (get_or-map (λ (e : TargetEntry). e.name) entries j d name within) ∙ at_j.1 in
                subst (Contains (take j (names_of entries))) (sym is) (
                  i,
                  omega (arith, lt, length-take-le j (names_of entries) (omega (arith, at_j.0))),
                  get_or-take j (names_of entries) i
                      name lt ∙ at_i.1,
                ),
          )

  -- an arc leads from the name of an entry to one of its parents
  pub arc_is : (p q : List ℕ) → HasArc (parent_arcs entries) p q → (e : TargetEntry) × Contains entries e × (e.name ≡ p)
      × Contains e.parents q
  arc_is p q = arc_is-cases entries
    where
      arc_is-cases : (es : List TargetEntry) → HasArc (parent_arcs es) p q → (e : TargetEntry) × Contains es e × (e.name ≡ p)
          × Contains e.parents q
      arc_is-cases [] arc = absurd (omega (arith, arc.1))
      arc_is-cases (e ∷ es) arc = ⊎_elim
          (λ here. let w = image_of (λ parent. (e.name, parent)) e.parents (p, q) here in
          (e, has_first e es, ap (λ a. a.0) w.2, subst (Contains e.parents) (ap (λ a. a.1) w.2) w.1))
          (λ later. let w = arc_is-cases es later in (w.0, has_later e es w.0 w.1, w.2, w.3))
          (Contains-append_cases (map (λ parent. (e.name, parent)) e.parents) (parent_arcs es) (p, q) arc)

  -- what has an ancestor is a name
  pub from_name : (p q : List ℕ) → HasAncestor entries p q → Contains (names_of entries) p
  from_name p q path = ⊎_elim (begins p q) (λ w. begins p w.0 w.1) (first_arc (HasArc (parent_arcs entries)) p q path)
    where
      begins : (p q : List ℕ) → HasArc (parent_arcs entries) p q → Contains (names_of entries) p
      begins p q arc = let w = arc_is p q arc in
          subst (Contains (names_of entries)) w.2 (has_image (λ (e : TargetEntry). e.name) entries w.0 w.1)

  -- an ancestor is a name, where no parent is unknown
  pub to_name : HasNone IsUnknown entries → (p q : List ℕ) → HasAncestor entries p q → (Contains (names_of entries) q → ⊥) → ⊥
  to_name known p q path lacks = ⊎_elim (λ arc. ends p arc) (λ w. ends w.0 w.2) (last_arc (HasArc (parent_arcs entries)) p q path)
    where
      ends : (p : List ℕ) → HasArc (parent_arcs entries) p q → ⊥
      ends p arc =
          let w = arc_is p q arc in
          known w.1.0 (
            w.1.1,
            λ d. (
              q,
              subst (λ (e : TargetEntry). Contains e.parents q) (sym w.1.2
                  ∙ get_or_default entries w.1.0 w.0 d w.1.1) w.3,
              lacks,
            ),
          )

-- ---- the place of a name

passed_over : (a b : List ℕ) → (a ≡ b → ⊥) → not (bytes_eq a b) ≡ true
passed_over a b differ = ap not (false_from_ne_true _ (λ e. differ ((bytes_decides a b).0 e)))

stopped_at : (a b : List ℕ) → a ≡ b → not (bytes_eq a b) ≡ false
stopped_at a b e = ap not ((bytes_decides a b).1 e)

module _ (entries : List TargetEntry) where
  -- the place that is computed is that of the name
  pub place_is : HasNone IsTwice entries → (name : List ℕ) (i : ℕ) → IsAt (names_of entries) name i → Some i ≡ place_of entries name
  place_is once name i at =
      let first : position_or_len (λ other. bytes_eq other name) (names_of entries) ≡ i =
      prefix_len_is (λ other. not (bytes_eq other name)) (names_of entries) i name (omega (arith, at.0))
      (λ k lt. passed_over _ name (λ e. let same : k ≡ i = one_place entries once name k i (omega (arith, lt, at.0), e) at in
      omega (arith, lt, same))) (λ _. stopped_at _ name at.1) in
      rw (first, lt-ltb i (length (names_of entries)) at.0) refl

  -- a text that is no name has no place
  pub no_place : (name : List ℕ) → (Contains (names_of entries) name → ⊥) → None ≡ place_of entries name
  no_place name lacks =
      let all : position_or_len (λ other. bytes_eq other name) (names_of entries) ≡ length (names_of entries) =
      prefix_len_is (λ other. not (bytes_eq other name)) (names_of entries) (length (names_of entries)) name (omega arith)
      (λ k lt. passed_over _ name (λ e. lacks (k, lt, e))) (λ lt. absurd (omega (arith, lt))) in
      rw (all, le-ltb (length (names_of entries)) (length (names_of entries)) (omega arith)) refl

-- ---- ancestors, and cycles

-- a table over the arcs of entries tells of their ancestors
pub table_of : (entries : List TargetEntry) → HasNone IsTwice entries → (numbers : List (ℕ × ℕ))
    → AreNumbered (names_of entries) (parent_arcs entries) numbers → (slice : List (ℕ × ℕ)) → slice ≡ numbers → (table : PathMarks)
    → IsPathTable (length entries) slice table → IsKeyTable (names_of entries) (parent_arcs entries) table
table_of entries once numbers numbered slice is table are =
    key_table (names_of entries) (parent_arcs entries) numbers table numbered (one_place entries once)
    (rw (length-map entries (λ (e : TargetEntry). e.name), ← is) are)

module _ (entries : List TargetEntry) (table : PathMarks) (are : IsKeyTable (names_of entries) (parent_arcs entries) table) where
  -- where no place leads to itself there is no cycle
  pub no_cycle : ((i : ℕ) → i < table.places → IsTrue (leads table i i) → ⊥) → IsAcyclic (HasArc (parent_arcs entries))
  no_cycle none name path =
      let at = from_name entries name name path in
      none at.0 (omega (arith, are.each, at.1)) ((are.marks name name at.0 at.0 (at.1, at.2) (at.1, at.2)).1 path)

  -- a place that leads to itself is that of an entry that is its own ancestor
  pub own_ancestor : (i : ℕ) → i < table.places → IsTrue (leads table i i) → (name : List ℕ) × HasAncestor entries name name
  own_ancestor i lt marked =
      let within : i < length (names_of entries) = omega (arith, lt, are.each) in
      let at : IsAt (names_of entries) (get_or (names_of entries) i []) i = (within, get_or_default (names_of entries) i _ [] within) in
      (get_or (names_of entries) i [], (are.marks _ _ i i at at).0 marked)

  -- the place of a name lies within the table
  pub place_below : (name : List ℕ) (i : ℕ) → IsAt (names_of entries) name i → i < table.places
  place_below name i at = omega (arith, are.each, at.0)

-- what a test of ancestors answers is what is computed
pub told_ancestor : (entries : List TargetEntry) (target low : List ℕ) (is : Bool) → Decides is (HasAncestor entries target low)
    → is ≡ has_ancestor entries target low
told_ancestor entries target low is tells =
    same_from_decides is (has_ancestor entries target low) tells (reaches_decides bytes_eq bytes_decides (parent_arcs entries) target low)

-- the test whether a target is at least another
pub at_least_decides : (entries : List TargetEntry) (target low : List ℕ)
    → Decides (is_at_least entries target low) (IsAtLeast entries target low)
at_least_decides entries target low = Decides-or (bytes_eq target low) (has_ancestor entries target low) (bytes_decides target low)
    (reaches_decides bytes_eq bytes_decides (parent_arcs entries) target low)

module _ (P : List ℕ → Type 0) (test : List ℕ → Bool) (tells : (end : List ℕ) → Decides (test end) (P end)) where
  end_decides : (end : Option (List ℕ)) → Decides (keeps_end test end) (IfSome end P)
  end_decides None = (λ _. tt, λ _. refl)
  end_decides (Some end) = tells end

-- the test whether a target is in a range
pub in_range_decides : (entries : List TargetEntry) (target : List ℕ) (low high : Option (List ℕ))
    → Decides (in_range entries target low high) (IsInRange entries target low high)
in_range_decides entries target low high = Decides-and _ _
    (end_decides (λ l. IsAtLeast entries target l) (is_at_least entries target) (λ l. at_least_decides entries target l) low)
    (end_decides (λ h. IsAtLeast entries h target) (λ h. is_at_least entries h target) (λ h. at_least_decides entries h target) high)
