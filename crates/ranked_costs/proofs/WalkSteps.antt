-- The code of the walk, step by step.
use Prim.Native.Nat.{suc, zero}
use Rattle.std.proofs.Common.{◌≡◌, refl, sym, ap, subst, ◌∙◌, true, false, ℕ, ◌+◌, ◌-◌, ◌<◌, ◌≤◌, List, [], ◌∷◌, ◌++◌, map, filter, length, drop, inl, inr, arith, slice_index_or}
use Rattle.std.specs.List.{fold, remove, position_or_len}
use Rattle.std.specs.Str.{bytes_eq}
use Rattle.std.specs.Cmp.Lexicographic.{bytes_decides}
use Rattle.std.proofs.lemmas.Bool.{cases_Bool}
use Rattle.graph_core.specs.Graphs.{Text}
use Rattle.condition_rules.specs.Words.{is_one_text}
use Rattle.literal_table.specs.Tables.{Table, block_name, table_names}
use Rattle.literal_table.specs.declared.block.Block.{Block}
use Rattle.literal_table.specs.declared.block.EdgeLits.{EdgeLits}
use Rattle.ranked_costs.specs.Walks.{Walk, without_name, entered, leaving, visit, post_order}
use Rattle.ranked_costs.specs.Steps.{walk_at, visit_all}

next : (name n : Text) (ns : List Text) → bytes_eq name n ≡ false
    → position_or_len (bytes_eq name) (n ∷ ns) ≡ suc (position_or_len (bytes_eq name) ns)
next name n ns other = rw other (omega arith)

-- what stands nowhere has no place
absent : (name : Text) (names : List Text) → length names ≤ position_or_len (bytes_eq name) names → is_one_text names name ≡ false
absent name [] h = refl
absent name (n ∷ ns) h = elim (cases_Bool (bytes_eq name n)) [
  | inl same ↦ (let less : suc (length ns) ≤ 0 = rw same at h in absurd (omega (arith, less)))
  | inr other ↦
      let less : suc (length ns) ≤ suc (position_or_len (bytes_eq name) ns) = subst (λ p. suc (length ns) ≤ p) (next name n ns other) h in
      rw other (absent name ns (omega (arith, less)))
]

later-place : (name n : Text) (ns : List Text) → bytes_eq name n ≡ false → position_or_len (bytes_eq name) (n ∷ ns) < suc (length ns)
    → position_or_len (bytes_eq name) ns < length ns
later-place name n ns other h =
    let less : suc (position_or_len (bytes_eq name) ns) < suc (length ns) = subst (λ p. p < suc (length ns)) (next name n ns other) h in
    omega (arith, less)

present : (name : Text) (names : List Text) → position_or_len (bytes_eq name) names < length names → is_one_text names name ≡ true
present name [] h = absurd (omega (arith, h))
present name (n ∷ ns) h = elim (cases_Bool (bytes_eq name n)) [
  | inl same ↦ rw same refl
  | inr other ↦ rw other (present name ns (later-place name n ns other h))
]

-- what is taken out at its place
removed : (name : Text) (names : List Text) → remove names (position_or_len (bytes_eq name) names) ≡ without_name name names
removed name [] = refl
removed name (n ∷ ns) = elim (cases_Bool (bytes_eq name n)) [
  | inl same ↦ rw same refl
  | inr other ↦ ap (remove (n ∷ ns)) (next name n ns other) ∙ rw other (ap (λ ts. n ∷ ts) (removed name ns))
]

found : (name : Text) (names : List Text) (d : Text) → position_or_len (bytes_eq name) names < length names
    → slice_index_or names (position_or_len (bytes_eq name) names) d ≡ name
found name [] d h = absurd (omega (arith, h))
found name (n ∷ ns) d h = elim (cases_Bool (bytes_eq name n)) [
  | inl same ↦ (let is : name ≡ n = (bytes_decides name n).0 same in rw same (sym is))
  | inr other ↦ ap (λ k. slice_index_or (n ∷ ns) k d) (next name n ns other) ∙ found name ns d (later-place name n ns other h)
]

-- edge by edge, or child by child
all-edges : (more : ℕ) (table : Table) (parent : Text) (w : Walk) (edges : List EdgeLits)
    → visit_all more table parent w edges ≡ fold (visit more table) w (map (λ e. e.child) (filter (λ e. bytes_eq e.parent parent) edges))
all-edges more table parent w [] = refl
all-edges more table parent w (e ∷ es) = elim (cases_Bool (bytes_eq e.parent parent)) [
  | inl leads ↦ rw leads (all-edges more table parent (visit more table w e.child) es)
  | inr other ↦ rw other (all-edges more table parent w es)
]

visit-none : (fuel : ℕ) (table : Table) (w : Walk) (name : Text) → is_one_text w.rest name ≡ false → w ≡ visit fuel table w name
visit-none zero table w name gone = refl
visit-none (suc fuel) table w name gone = rw gone refl

visit-some : (fuel : ℕ) (table : Table) (w : Walk) (name : Text) → (fuel ≡ 0 → ⊥) → is_one_text w.rest name ≡ true
    → leaving name (visit_all (fuel - 1) table name (entered name w) table.edges) ≡ visit fuel table w name
visit-some zero table w name some there = absurd (some refl)
visit-some (suc fuel) table w name some there =
    let less : suc fuel - 1 ≡ fuel = omega arith in
    rw there (ap (λ k. leaving name (visit_all k table name (entered name w) table.edges)) less
    ∙ ap (leaving name) (all-edges fuel table name (entered name w) table.edges))

module _ (table : Table) (name : Text) (rest left slice : List Text) (at len : ℕ) (told : slice ≡ rest)
    (is : at ≡ position_or_len (bytes_eq name) slice)
    (counted : len ≡ length slice) where
  here : at ≡ position_or_len (bytes_eq name) rest
  here = is ∙ ap (position_or_len (bytes_eq name)) told

  long : len ≡ length rest
  long = counted ∙ ap length told

  within : at < len → position_or_len (bytes_eq name) rest < length rest
  within h = omega (arith, here, long, h)

  -- a name that was entered is left alone
  pub not-there : (fuel : ℕ) → len ≤ at → walk_at rest left ≡ visit fuel table (walk_at rest left) name
  not-there fuel le = visit-none fuel table (walk_at rest left) name (absent name rest (omega (arith, here, long, le)))

  -- one that is entered leaves the rest
  pub entering : (more : ℕ) (out : List Text) (edges : List EdgeLits) → out ≡ remove rest at
      → visit_all more table name (walk_at out left) edges ≡ visit_all more table name (entered name (walk_at rest left)) edges
  entering more out edges gone =
      let same : out ≡ without_name name rest = gone ∙ ap (remove rest) here ∙ removed name rest in
      ap (λ names. visit_all more table name (walk_at names left) edges) same

  -- and comes behind its children
  pub returned : (fuel i : ℕ) (word : Text) (rest2 left2 new : List Text) (items : List EdgeLits) → (fuel ≡ 0 → ⊥) → at < len
      → word ≡ slice_index_or rest at word
      → visit_all (fuel - 1) table name (walk_at rest2 left2) (drop i table.edges) ≡ visit_all (fuel - 1) table name
      (entered name (walk_at rest left)) table.edges
      → items ≡ table.edges → drop i items ≡ [] → new ≡ left2 ++ word ∷ []
      → walk_at rest2 new ≡ visit fuel table (walk_at rest left) name
  returned fuel i word rest2 left2 new items some inside w loop edges done n =
      let it : word ≡ name = w ∙ ap (λ k. slice_index_or rest k word) here ∙ found name rest word (within inside) in
      let ended : drop i table.edges ≡ [] = sym (ap (drop i) edges) ∙ done in
      let walked : walk_at rest2 left2 ≡ visit_all (fuel - 1) table name (entered name (walk_at rest left)) table.edges =
      ap (λ es. visit_all (fuel - 1) table name (walk_at rest2 left2) es) (sym ended) ∙ loop in
      ap (walk_at rest2) (n ∙ ap (λ t. left2 ++ t ∷ []) it)
      ∙ ap (leaving name) walked ∙ visit-some fuel table (walk_at rest left) name some (present name rest (within inside))

-- what the roots do not reach comes last
pub ordered : (table : Table) (roots rest left rest2 left2 new : List Text) (blocks blocks2 : List Block) → blocks ≡ table.blocks
    → blocks2 ≡ table.blocks
    → rest ≡ map block_name blocks → left ≡ []
    → walk_at rest2 left2 ≡ fold (visit (length blocks2 + 1) table) (walk_at rest left) roots → new ≡ left2 ++ rest2
    → new ≡ post_order table roots
unfolding post_order
ordered table roots rest left rest2 left2 new blocks blocks2 b b2 r l walked n =
    let from : rest ≡ table_names table = r ∙ ap (map block_name) b in
    n ∙ ap (λ w. w.left ++ w.rest) walked ∙ λ i. (fold (visit (length (b2 i) + 1) table) (walk_at (from i) (l i)) roots).left
    ++ (fold (visit (length (b2 i) + 1) table) (walk_at (from i) (l i)) roots).rest
