-- What the clauses leave open, whether all of them are there or some.
use Rattle.std.proofs.Common.{◌≡◌, ℕ, ◌+◌, ◌<◌, ◌≤◌, Bool, true, false, cond, List, [], ◌∷◌, ◌++◌, length, get_or, drop, drop-cons, add-one, refl, sym, ap, subst, ◌∙◌, arith}
use Rattle.std.specs.List.{list_all, filter, flat_map}
use Rattle.std.proofs.lemmas.Bool.{and_parts}
use Rattle.std.proofs.lemmas.List.{append-nil}
use Rattle.std.proofs.lemmas.List.Folds.{list_all-append}
use Rattle.clause_store.specs.declared.Label.TheVariants.{Structure}
use Rattle.clause_store.specs.Clauses.{Clauses}
use Rattle.clause_circuits.specs.Growth.{Agree, where_asked}
use Rattle.clause_circuits.proofs.Composed.{Grows-from, since-from}
use Rattle.clause_formulas.specs.Statements.{Statement, eval}
use Rattle.clause_formulas.specs.Allowed.{Allows}
use Rattle.clause_formulas.proofs.AllowLaws.{Rule}
use Rattle.level_encoding.specs.declared.input.Arc.{Arc}
use Rattle.level_encoding.specs.Composed.{Meets}
use Rattle.level_encoding.specs.Asserted.{with_vars}
use Rattle.level_encoding.specs.Input.{LevelData, IsRight, numbers}
use Rattle.level_encoding.specs.Encoding.{numbers_below, turns, turn_start, leads, arc_rules, arcs_rules, node_rules, way_rules, path_rules, constraints, end}
use Rattle.level_encoding.specs.Laws.{AllSaidBelow, IsSound}
use Rattle.level_encoding.proofs.Lists.{all-at, all-flat-at, In-at, In-below, In-filter}
use Rattle.level_encoding.proofs.AssertedLaws.{all-agree, AllSaidBelow-le}
use Rattle.level_encoding.proofs.Range.{constraints-below, first-le}
use Rattle.level_encoding.proofs.Choices.{leads-within, within-from}
use Rattle.level_encoding.proofs.Complete.{extends}

-- a formula of a list that is asserted
pub each-open : (n : ℕ) (fs : List Statement) (i : ℕ) (f : Statement) → i < length fs → f ≡ get_or fs i f → AllSaidBelow n fs
    → (asked v w : ℕ → Bool) → Agree n v w → Meets v fs → where_asked Structure (λ u. eval u f) asked w ≡ true
each-open n fs i f h e b asked v w a m =
    ap (eval w) e ∙ all-at (eval w) (get_or fs i f) fs (sym (all-agree n v w a fs b) ∙ m) (In-at fs i f h)

-- all rules of an input
abbrev pub keeping : LevelData → Rule
keeping s = λ asked v. Meets v (constraints s)

-- the choice rests on the old variables alone
pub same-kept : (s : LevelData) (n : ℕ) → IsRight s → end s ≤ n → (asked v w : ℕ → Bool) → Agree n v w → keeping s asked v
    → keeping s asked w
same-kept s n right h asked v w a m =
    sym (all-agree n v w a (constraints s) (AllSaidBelow-le (end s) n (constraints s) h (constraints-below s right))) ∙ m

rule-parts : (s : LevelData) (v : ℕ → Bool) → Meets v (constraints s) → Meets v (arcs_rules s (turn_start s) s.arcs)
    × Meets v (flat_map (node_rules s) (numbers_below (numbers s))) × Meets v (flat_map (path_rules s) (numbers_below (numbers s)))
unfolding constraints
rule-parts s v m =
    let a = arcs_rules s (turn_start s) s.arcs in
    let b = flat_map (node_rules s) (numbers_below (numbers s)) in
    let c = flat_map (path_rules s) (numbers_below (numbers s)) in
    let x = and_parts (list_all (eval v) (a ++ b)) (list_all (eval v) c) (sym (list_all-append (eval v) (a ++ b) c) ∙ m) in
    let y = and_parts (list_all (eval v) a) (list_all (eval v) b) (sym (list_all-append (eval v) a b) ∙ x.0) in
    (y.0, y.1, x.1)

-- the rules of all arcs are among the constraints
pub arcs-kept : (s : LevelData) (x : ℕ) (arcs : List Arc) → x ≡ turn_start s → arcs ≡ s.arcs → (v : ℕ → Bool) → Meets v (constraints s)
    → Meets v (arcs_rules s x arcs)
arcs-kept s x arcs e f v m = rw (e, f) ((rule-parts s v m).0)

-- the rules of the arcs that are left are those of the next one and of the others
arc-parts : (s : LevelData) (x n : ℕ) (arcs : List Arc) (d : Arc) (v : ℕ → Bool) → n < length arcs → Meets v (arcs_rules s x (drop n arcs))
    → Meets v (arc_rules s x (get_or arcs n d)) × Meets v (arcs_rules s (x + turns s (get_or arcs n d)) (drop (n + 1) arcs))
unfolding arcs_rules
arc-parts s x n arcs d v h m =
    let a = arc_rules s x (get_or arcs n d) in
    let b = arcs_rules s (x + turns s (get_or arcs n d)) (drop (n + 1) arcs) in
    let e : drop n arcs ≡ get_or arcs n d ∷ drop (n + 1) arcs = drop-cons arcs n d h
    ∙ ap (λ k. get_or arcs n d ∷ drop k arcs) (sym (add-one n)) in
    and_parts (list_all (eval v) a) (list_all (eval v) b) (sym (list_all-append (eval v) a b)
    ∙ sym (ap (λ xs. list_all (eval v) (arcs_rules s x xs)) e) ∙ m)

-- so are those of the arcs that are left
pub arcs-left : (s : LevelData) (x t n : ℕ) (arcs : List Arc) (d : Arc) → n < length arcs → t ≡ turns s (get_or arcs n d)
    → ((v : ℕ → Bool) → Meets v (constraints s) → Meets v (arcs_rules s x (drop n arcs)))
    → (v : ℕ → Bool) → Meets v (constraints s) → Meets v (arcs_rules s (x + t) (drop (n + 1) arcs))
arcs-left s x t n arcs d h e left v m = rw e ((arc-parts s x n arcs d v h (left v m)).1)

-- the rules of an arc may still be met
pub arc-open : (s : LevelData) (n x i : ℕ) (arcs : List Arc) (d : Arc) → IsRight s → end s ≤ n → i < length arcs
    → ((v : ℕ → Bool) → Meets v (constraints s) → Meets v (arcs_rules s x (drop i arcs)))
    → (asked v w : ℕ → Bool) → Agree n v w → keeping s asked v → Meets w (arc_rules s x (get_or arcs i d))
arc-open s n x i arcs d right h lt left asked v w a m = (arc-parts s x i arcs d w lt (left w (same-kept s n right h asked v w a m))).0

-- so may those of a node
pub node-open : (s : LevelData) (n i : ℕ) → IsRight s → end s ≤ n → i < numbers s → (asked v w : ℕ → Bool) → Agree n v w → keeping s asked v
    → Meets w (node_rules s i)
node-open s n i right h lt asked v w a m =
    all-flat-at (eval w) (node_rules s) i (numbers_below (numbers s)) (rule-parts s w (same-kept s n right h asked v w a m)).1
    (In-below (numbers s) i lt)

way-kept : (s : LevelData) (q p : ℕ) → IsRight s → (v : ℕ → Bool) → Meets v (constraints s) → leads s q p ≡ true → Meets v (way_rules s q p)
unfolding path_rules
way-kept s q p right v m t =
    let d = leads-within s (within-from s right) p q t in
    all-flat-at (eval v) (way_rules s q) p (filter (leads s q) (numbers_below (numbers s)))
    (all-flat-at (eval v) (path_rules s) q (numbers_below (numbers s)) (rule-parts s v m).2 (In-below (numbers s) q d.1))
    (In-filter (leads s q) p (numbers_below (numbers s)) (In-below (numbers s) p d.0) t)

-- and those of a path
pub way-open : (s : LevelData) (n q p : ℕ) → IsRight s → end s ≤ n → (asked v w : ℕ → Bool) → Agree n v w → keeping s asked v
    → Meets w (cond (leads s q p) (way_rules s q p) [])
way-open s n q p right h asked v w a m = by-bool (leads s q p) (way-kept s q p right w (same-kept s n right h asked v w a m))
  where
    by-bool : (b : Bool) → (b ≡ true → Meets w (way_rules s q p)) → Meets w (cond b (way_rules s q p) [])
    by-bool true k = k refl
    by-bool false k = refl

-- more variables alone
pub more-open : (old new : Clauses) (p : Rule) → new.entries ≡ old.entries → old.vars ≤ new.vars → Allows old new p
more-open old new p e h =
    let f : new.entries ≡ old.entries ++ [] = e ∙ sym (append-nil old.entries) in
    record {
      grows = Grows-from old new [] f h tt;
      each = λ asked v k. (v, (λ i l. refl), rw (since-from old new [] f) tt);
    }

-- each choice that is sound extends over the new variables, and from there over the clauses
pub input-open : (s : LevelData) (old made new : Clauses) → IsRight s → s.first ≡ old.vars → made ≡ with_vars old (end s)
    → Allows made new (keeping s) → Allows old new (λ asked v. IsSound s v)
input-open s old made new right first e x =
    let le : old.vars ≤ end s = omega (arith, first, first-le s right) in
    let y : Allows (with_vars old (end s)) new (keeping s) = subst (λ l. Allows l new (keeping s)) e x in record {
      grows = record { keeps = y.grows.keeps; more = omega (arith, le, y.grows.more); in_range = y.grows.in_range };
      each = λ asked v ok.
          let m = extends s v right ok.acyclic ok.founded in
          let w = y.each asked m.assignment m.meets in
          (w.0, (λ k h. m.agrees k (omega (arith, first, h)) ∙ w.1 k (omega (arith, le, h))), w.2);
    }
