-- What the clauses of an input promise.
use Rattle.std.proofs.Common.{◌≡◌, ℕ, ◌<◌, ◌≤◌, Bool, true, eqb, List, length, get_or, Option, None, refl, sym, ap, subst, ◌∙◌, arith}
use Rattle.std.specs.List.{list_all, All}
use Rattle.std.proofs.lemmas.Bool.{eq-eqb}
use Rattle.std.proofs.lemmas.List.{get_or-map}
use Rattle.std.proofs.lemmas.List.Elements.{All-map}
use Rattle.std.proofs.lemmas.List.Folds.{list_any_at}
use Rattle.clause_store.specs.declared.Lit.{Lit}
use Rattle.clause_store.specs.Clauses.{Clauses}
use Rattle.clause_circuits.specs.Growth.{Says}
use Rattle.clause_formulas.specs.Statements.{eval, SaidBelow}
use Rattle.clause_formulas.proofs.DraftLaws.{SaidBelow-le}
use Rattle.level_encoding.specs.Asserted.{assert_all, with_vars, levels_on}
use Rattle.level_encoding.specs.Input.{LevelData, IsRight, is_asked_target, literal_at}
use Rattle.level_encoding.specs.Encoding.{constraints, way, path, paths_of, end}
use Rattle.level_encoding.specs.Laws.{StartsChosen, SaysPaths, KeepsLevels}
use Rattle.level_encoding.proofs.AssertedLaws.{assert_all-says}
use Rattle.level_encoding.proofs.Range.{constraints-below, first-le, path-below}
use Rattle.level_encoding.proofs.Sound.{sound, exact}
use Rattle.level_encoding.proofs.Complete.{extends}

-- an asked pair's second is a target
asked-target : (s : LevelData) (k : ℕ) (d : ℕ × ℕ) → k < length s.asked → is_asked_target s (get_or s.asked k d).1 ≡ true
unfolding is_asked_target
asked-target s k d h = list_any_at (λ pair. eqb pair.1 (get_or s.asked k d).1) s.asked k d h
    (eq-eqb (get_or s.asked k d).1 (get_or s.asked k d).1 refl)

-- the literals that are answered say so
pub says-paths : (s : LevelData) (paths : List (Option Lit)) → IsRight s → paths ≡ paths_of s → (v : ℕ → Bool) → StartsChosen s v
    → list_all (eval v) (constraints s) ≡ true → SaysPaths s paths v
unfolding paths_of
says-paths s paths right f v starts m = λ k d h.
    let pair = get_or s.asked k d in
    let w : get_or paths k None ≡ way s pair.1 pair.0 = ap (λ xs. get_or xs k None) f
    ∙ get_or-map (λ (p : ℕ × ℕ). way s p.1 p.0) s.asked k d None h in
    rw w (exact s v right starts m pair.0 pair.1 (asked-target s k d h))

-- the literals of paths are over variables that are there
paths-below : (s : LevelData) (n : ℕ) (paths : List (Option Lit)) → IsRight s → end s ≤ n → paths ≡ paths_of s
    → All (λ path. SaidBelow n (literal_at path)) paths
unfolding paths_of
paths-below s n paths right h f =
    subst (All (λ path. SaidBelow n (literal_at path))) (sym f)
    (All-map (λ path. SaidBelow n (literal_at path)) (λ pair. way s pair.1 pair.0) s.asked (λ k d g. let pair = get_or s.asked k d in
    SaidBelow-le (end s) n (path s pair.0 pair.1) h (path-below s right pair.0 pair.1)))

-- the longer list keeps the three promises
pub keeps : (s : LevelData) (old : Clauses) (paths : List (Option Lit)) → IsRight s → s.first ≡ old.vars → paths ≡ paths_of s
    → KeepsLevels s old (levels_on s old) paths
unfolding levels_on
keeps s old paths right first f =
    let made = with_vars old (end s) in
    let x : Says made (assert_all made (constraints s)) (λ asked v. list_all (eval v) (constraints s)) =
    assert_all-says (constraints s) made (constraints-below s right) in
    let le : old.vars ≤ end s = omega (arith, first, first-le s right) in record {
      grows = record { keeps = x.grows.keeps; more = omega (arith, le, x.grows.more); in_range = x.grows.in_range };
      in_range = paths-below s (assert_all made (constraints s)).vars paths right x.grows.more f;
      sound = λ asked v starts m. sound s v right starts (x.only asked v m);
      exact = λ asked v starts m. says-paths s paths right f v starts (x.only asked v m);
      complete = λ asked v ok.
          let e = extends s v right ok.acyclic ok.founded in
          let w = x.each asked e.assignment e.meets in
          (w.0, (λ k h. e.agrees k (omega (arith, first, h)) ∙ w.1 k (omega (arith, le, h))), w.2);
    }

-- the same of an equal input
pub levels-kept : (s t : LevelData) (old new : Clauses) (paths : List (Option Lit)) → IsRight s → s.first ≡ old.vars → t ≡ s
    → new ≡ levels_on t old → paths ≡ paths_of t → KeepsLevels s old new paths
levels-kept s t old new paths right first e b p =
    let made : new ≡ levels_on s old = b ∙ ap (λ u. levels_on u old) e in
    subst (λ l. KeepsLevels s old l paths) (sym made) (keeps s old paths right first (p ∙ ap paths_of e))
