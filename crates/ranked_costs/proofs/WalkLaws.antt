-- A walk keeps the names that it has left and those that it has not entered.
use Prim.Native.Nat.{suc, zero}
use Rattle.std.proofs.Common.{◌≡◌, sym, subst, true, ℕ, ◌+◌, List, [], ◌∷◌, ◌++◌, length, inl, inr, append_assoc}
use Rattle.std.specs.List.{fold}
use Rattle.std.specs.List.Sorted.{IsPermutation}
use Rattle.std.specs.Str.{bytes_eq}
use Rattle.std.specs.Cmp.Lexicographic.{bytes_decides}
use Rattle.std.proofs.lemmas.Bool.{cases_Bool}
use Rattle.std.proofs.lemmas.List.Sorted.{IsPermutation-refl, IsPermutation-sym, IsPermutation-trans, IsPermutation-cons, IsPermutation-middle, IsPermutation-append_right}
use Rattle.graph_core.specs.Graphs.{Text}
use Rattle.condition_rules.specs.Words.{is_one_text}
use Rattle.literal_table.specs.Tables.{Table, children_of, table_names}
use Rattle.ranked_costs.specs.Walks.{Walk, without_name, entered, leaving, visit, first_walk, post_order}

-- what is taken out stood there
taken : (name : Text) (names : List Text) → is_one_text names name ≡ true → IsPermutation names (name ∷ without_name name names)
taken name [] there = absurd (cc)
taken name (n ∷ ns) there = elim (cases_Bool (bytes_eq name n)) [
  | inl same ↦ (let is : name ≡ n = (bytes_decides name n).0 same in rw same (rw is (IsPermutation-refl (n ∷ ns))))
  | inr other ↦
      let later : is_one_text ns name ≡ true = rw other at there in
      rw other (IsPermutation-trans (n ∷ ns) (n ∷ name ∷ without_name name ns) (name ∷ n ∷ without_name name ns)
      (IsPermutation-cons n ns (name ∷ without_name name ns) (taken name ns later))
      (IsPermutation-middle (n ∷ []) name (without_name name ns)))
]

-- the names that were left and those that were not entered are the same in another order
abbrev pub Keeps : Walk → Walk → Type 0
Keeps w u = IsPermutation (w.left ++ w.rest) (u.left ++ u.rest)

fold-keeps : (f : Walk → Text → Walk) → ((w : Walk) (name : Text) → Keeps w (f w name)) → (w : Walk) (names : List Text)
    → Keeps w (fold f w names)
fold-keeps f each w [] = IsPermutation-refl (w.left ++ w.rest)
fold-keeps f each w (n ∷ ns) =
    let one = f w n in
    let all = fold f one ns in
    IsPermutation-trans (w.left ++ w.rest) (one.left ++ one.rest) (all.left ++ all.rest) (each w n) (fold-keeps f each one ns)

-- in at the front, and out behind what was left
entered-left : (name : Text) (w u : Walk) → is_one_text w.rest name ≡ true → Keeps (entered name w) u → Keeps w (leaving name u)
entered-left name w u there inside =
    let out : List Text = without_name name w.rest in
    let first : IsPermutation (w.left ++ w.rest) (w.left ++ name ∷ out) =
    IsPermutation-append_right w.left w.rest (name ∷ out) (taken name w.rest there) in
    let front : IsPermutation (w.left ++ name ∷ out) (name ∷ (w.left ++ out)) = IsPermutation-middle w.left name out in
    let within : IsPermutation (name ∷ (w.left ++ out)) (name ∷ (u.left ++ u.rest)) =
    IsPermutation-cons name (w.left ++ out) (u.left ++ u.rest) inside in
    let back : IsPermutation (name ∷ (u.left ++ u.rest)) (u.left ++ name ∷ u.rest) =
    IsPermutation-sym (u.left ++ name ∷ u.rest) (name ∷ (u.left ++ u.rest)) (IsPermutation-middle u.left name u.rest) in
    let whole = IsPermutation-trans (w.left ++ w.rest) (w.left ++ name ∷ out) (u.left ++ name ∷ u.rest) first
    (IsPermutation-trans (w.left ++ name ∷ out) (name ∷ (w.left ++ out)) (u.left ++ name ∷ u.rest) front
    (IsPermutation-trans (name ∷ (w.left ++ out)) (name ∷ (u.left ++ u.rest)) (u.left ++ name ∷ u.rest) within back)) in
    subst (IsPermutation (w.left ++ w.rest)) (sym (append_assoc u.left (name ∷ []) u.rest)) whole

visit-keeps : (fuel : ℕ) (table : Table) (w : Walk) (name : Text) → Keeps w (visit fuel table w name)
visit-keeps zero table w name = IsPermutation-refl (w.left ++ w.rest)
visit-keeps (suc fuel) table w name = elim (cases_Bool (is_one_text w.rest name)) [
  | inl there ↦ rw there (entered-left name w (fold (visit fuel table) (entered name w) (children_of table name)) there
      (fold-keeps (visit fuel table) (visit-keeps fuel table) (entered name w) (children_of table name)))
  | inr gone ↦ rw gone (IsPermutation-refl (w.left ++ w.rest))
]

-- each name of the table stands in the order once
pub each-name : (table : Table) (roots : List Text) → IsPermutation (table_names table) (post_order table roots)
unfolding post_order
each-name table roots =
    fold-keeps (visit (length table.blocks + 1) table) (visit-keeps (length table.blocks + 1) table) (first_walk table) roots
