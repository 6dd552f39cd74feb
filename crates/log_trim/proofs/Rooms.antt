-- A sound log has no id above the number of its clauses and lines, and its first line says how many clauses there are.
use Prim.Native.Nat.{suc}
use Rattle.std.proofs.Common.{◌≡◌, ℕ, ◌+◌, ◌<◌, ◌≤◌, List, [], ◌∷◌, ◌++◌, Option, Some, None, length, refl, sym, ◌∙◌, subst, ap, arith}
use Rattle.clause_store.specs.declared.Lit.{Lit}
use Rattle.proof_log.specs.declared.line.Line.{Line}
use Rattle.proof_log.specs.declared.line.Line.TheVariants.{Header, Learnt, Zero, One, Unsat, Spent, End}
use Rattle.proof_log.specs.Lines.{added, with_added, settles, AllLines, EachLine}
use Rattle.proof_log.specs.Logs.{LineHolds}
use Rattle.log_trim.specs.Trimmed.{staying, renamed, inputs_of, IsSoundLog}
use Rattle.log_trim.specs.Marks.{HasRoom}

known-most : (bits : List Lit) (known : List (List Lit)) (l : Line) → length (with_added known (added bits l)) ≤ length known + 1
known-most bits known l = by-option (added bits l)
  where
    push : {T : Type 0} (xs : List T) (y : T) → length (xs ++ y ∷ []) ≡ length xs + 1
    push [] y = omega arith
    push (x ∷ xs) y = ap suc (push xs y) ∙ omega arith

    by-option : (o : Option (List Lit)) → length (with_added known o) ≤ length known + 1
    by-option None = omega arith
    by-option (Some c) = let h = push known c in omega (arith, h)

rooms : (bits : List Lit) (known : List (List Lit)) (n size : ℕ) (ls : List Line) → EachLine (LineHolds bits) bits known n ls
    → length known + length ls < size → AllLines (HasRoom size) ls
rooms bits known n size [] e h = tt
rooms bits known n size (l ∷ ls) e h =
    (by-line l refl, rooms bits (with_added known (added bits l)) (n + settles l) size ls e.1 (omega (arith, h, known-most bits known l)))
  where
    by-line : (k : Line) → l ≡ k → HasRoom size k
    by-line (Learnt id c chain) q = let g : LineHolds bits known n (Learnt id c chain) = subst (LineHolds bits known n) q e.0 in
        omega (arith, h, g.0)
    by-line (Header a b d) q = tt
    by-line (Zero id b) q = let g : LineHolds bits known n (Zero id b) = subst (LineHolds bits known n) q e.0 in omega (arith, h, g.0)
    by-line (One id b chain) q = let g : LineHolds bits known n (One id b chain) = subst (LineHolds bits known n) q e.0 in
        omega (arith, h, g.0)
    by-line (Unsat chain) q = tt
    by-line Spent q = tt
    by-line End q = tt

-- behind the first line
pub have-room : (l : Line) (ls lines : List Line) (size : ℕ) → lines ≡ l ∷ ls → IsSoundLog lines → size ≡ inputs_of l + length ls + 1
    → AllLines (HasRoom size) ls
have-room l ls lines size q s e =
    let t = subst IsSoundLog q s in
    let n : inputs_of l ≡ length t.1 = ap inputs_of t.3.0 in
    rooms t.2 t.1 0 size ls t.3.1 (omega (arith, e, n))

-- and the first line stays as it is
pub first-stays : (l : Line) (ls lines : List Line) (f : ℕ → ℕ) (id : ℕ) → lines ≡ l ∷ ls → IsSoundLog lines → renamed f id l ≡ l
first-stays l ls lines f id q s =
    let t = subst IsSoundLog q s in ap (renamed f id) t.3.0 ∙ sym t.3.0

pub staying-length : (ls : List Line) → length (staying ls) ≡ length ls
staying-length [] = refl
staying-length (l ∷ ls) = ap suc (staying-length ls)
