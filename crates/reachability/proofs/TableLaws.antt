-- Rows of marks, one search after another, and what they tell of keys.
use Rattle.std.proofs.Common.{◌≡◌, ◌∙◌, ℕ, ◌+◌, ◌*◌, ◌<◌, ◌≤◌, Bool, List, length, ◌↔◌, inl, inr, ⊎_elim, arith}
use Rattle.std.proofs.lemmas.Bool.{cases_lt}
use Rattle.std.proofs.lemmas.Nat.{mul-add-lt, row_fits}
use Rattle.reachability.specs.Paths.{Path, HasArc}
use Rattle.reachability.specs.Places.{LeadsTo, AreHeads, IsMarked, PathMarks, IsPathTable, AreOnce, AreNumbered, IsKeyTable}
use Rattle.reachability.specs.Searches.{MarksRow}
use Rattle.reachability.proofs.PathLaws.{carried}
use Rattle.reachability.proofs.HeadLaws.{number_path}

-- ---- one search after another

module _ (heads : List (List ℕ)) where
  -- the rows of the first places are told, and the others have no mark
  pub record AreFirstRows (n done : ℕ) (marks : List Bool) : Type 0 where
    pub each : length marks ≡ n * n
    pub row : (p q : ℕ) → p < done → q < n → IsMarked marks (p * n + q) ↔ Path (LeadsTo heads) p q
    pub fresh : (k : ℕ) → done * n ≤ k → IsMarked marks k → ⊥

  module _ (n done : ℕ) (marks : List Bool) (first : AreFirstRows n done marks) (lt : done < n) where
    -- the next row has room
    pub row_room : done * n + n ≤ length marks
    row_room = rw first.each (row_fits done n n n lt (omega arith))

    -- the next row has no mark
    pub row_fresh : (q : ℕ) → q < n → IsMarked marks (done * n + q) → ⊥
    row_fresh q q_lt = first.fresh (done * n + q) (omega arith)

    -- a search from a place marks its row
    pub one_more_row : (new : List Bool) → n ≡ length heads → MarksRow heads done (done * n) marks new → AreFirstRows n (done + 1) new
    one_more_row new is row = record {
      each = row.each ∙ first.each;
      row = λ p q p_lt q_lt. ⊎_elim
          (λ earlier.
          let before = mul-add-lt p n q done earlier q_lt in
          let same = row.others (p * n + q) (inl (omega (arith, before))) in
          let told = first.row p q earlier q_lt in
          (λ marked. told.0 (same.0 marked), λ path. same.1 (told.1 path)))
          (λ le. let e : p ≡ done = omega (arith, p_lt, le) in rw e (row.reached q (omega (arith, q_lt, is))))
          (cases_lt p done);
      fresh = λ k le marked.
          let after : done * n + n ≤ k = grind arith in
          first.fresh k (omega (arith, after)) ((row.others k (inr (omega (arith, after, is)))).0 marked);
    }

-- the rows of all places are the table of paths
pub all_rows : (n : ℕ) (arcs : List (ℕ × ℕ)) (heads : List (List ℕ)) (marks : List Bool) → AreHeads n arcs heads
    → AreFirstRows heads n n marks → IsPathTable n arcs (record { places = n; marks = marks })
all_rows n arcs heads marks are first = record {
  each = λ i. n;
  marks = λ p q p_lt q_lt.
      let told = first.row p q p_lt q_lt in (
        λ marked. carried (LeadsTo heads) (HasArc arcs) (λ x. x) (λ x y. (are.same x y).0) p q (told.0 marked),
        λ path. told.1 (carried (HasArc arcs) (LeadsTo heads) (λ x. x) (λ x y. (are.same x y).1) p q path),
      );
}

-- the place of a pair is one of the table
pub place_within : (n len p q : ℕ) → len ≡ n * n → p < n → q < n → p * n + q < len
place_within n len p q is p_lt q_lt = omega (arith, is, mul-add-lt p n q n p_lt q_lt)

-- ---- keys

-- a table of numbers is the table of their keys
pub key_table : {K : Type 0} (keys : List K) (arcs : List (K × K)) (numbers : List (ℕ × ℕ)) (table : PathMarks)
    → AreNumbered keys arcs numbers → AreOnce keys → IsPathTable (length keys) numbers table → IsKeyTable keys arcs table
key_table keys arcs numbers table numbered once are = record {
  each = are.each;
  marks = λ p q i j at_i at_j.
      let mark = are.marks i j at_i.0 at_j.0 in
      let over = number_path keys arcs numbers numbered once p q i j at_i at_j in
      (λ marked. over.0 (mark.0 marked), λ path. mark.1 (over.1 path));
}
