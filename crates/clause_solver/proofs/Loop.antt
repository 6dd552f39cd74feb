-- The loop of the search.
use Rattle.std.proofs.Common.{◌≡◌, ℕ, ◌-◌, ◌+◌, ◌*◌, ◌<◌, ◌≤◌, min, Bool, true, false, List, [], ◌∷◌, ◌++◌, length, Option, Some, None, refl, sym, ap, ◌∙◌, subst, arith}
use Rattle.std.proofs.lemmas.List.{append-nil}
use Rattle.clause_store.specs.declared.Lit.{Lit}
use Rattle.clause_store.specs.Lits.{negation, has}
use Rattle.proof_log.specs.declared.line.Line.TheVariants as line
use Rattle.proof_log.specs.Lines.{IsOpen, learnt_in}
use Rattle.proof_log.proofs.Logs.{learnt_in-push}
use Rattle.proof_log.specs.Usefulness.{IsSettled}
use Rattle.clause_watch.specs.declared.trail.Placed.{Placed}
use Rattle.clause_watch.specs.Trails.{lits_of, decisions, upto, next, HasLevels, free_left}
use Rattle.clause_watch.specs.Watches.{WatchValue, IsWatch, Propagated, with_next, backtrack}
use Rattle.clause_watch.proofs.Propagated.{free_left-le, free_left-less, Grown-free}
use Rattle.clause_watch.proofs.Kept.{upto-upto}
use Rattle.clause_watch.proofs.Undone.{decisions-upto}
use Rattle.clause_solver.specs.HeapValues.{HeapValue}
use Rattle.clause_solver.specs.declared.search.Search.{Search}
use Rattle.clause_solver.specs.declared.outcome.Outcome.{Outcome}
use Rattle.clause_solver.specs.declared.outcome.Outcome.TheVariants as outcome
use Rattle.clause_solver.specs.declared.choice.Move.TheVariants as move
use Rattle.clause_solver.specs.Seen.{AreClear}
use Rattle.clause_solver.specs.Models.{IsModelOf}
use Rattle.clause_solver.specs.Solvers.{SolverValue, IsInOrder, IsLogOf, Adds, Answers, Ends, IsFalseIn}
use Rattle.clause_solver.specs.Searches.{value_of, IsSearch, IsAssumed, IsReady, IsStep, IsTurn, IsNext, IsFalseOn, Learns, measure_of}
use Rattle.clause_solver.proofs.Growing.{search-watch, search-turn, adds-watch, search-grown, adds-last, Adds-trans}
use Rattle.clause_watch.proofs.Places.{upto-place, place-upto, get-front}
use Rattle.clause_solver.proofs.ModelLaws.{false-here, model-meets}

-- the assumed literal as the trail changes
assumed-upto : (b : ℕ) (ps : List Placed) (a : Option (ℕ × Lit)) → HasLevels 0 ps → IsAssumed ps a → IsAssumed (upto b ps) a
assumed-upto b ps None levels h = tt
assumed-upto b ps (Some a) levels h = λ above.
    let d = decisions-upto b ps levels in
    subst (λ xs. has (lits_of xs) (negation a.1) ≡ true) (sym (upto-upto 1 b ps (omega (arith, d, above)))) (h (omega (arith, d, above)))

assumed-grown : (ps more : List Placed) (a : Option (ℕ × Lit)) → decisions (ps ++ more) ≡ decisions ps → IsAssumed ps a
    → IsAssumed (ps ++ more) a
assumed-grown ps more None e h = tt
assumed-grown ps more (Some a) e h = λ above.
    let q = upto-place 1 ps (negation a.1) (h (omega (arith, e, above))) in
    rw (← q.3) (place-upto 1 (ps ++ more) q.0 q.1 (get-front ps more q.0 q.1 q.2) q.4)

assumed-none : (ps : List Placed) (a : Option (ℕ × Lit)) → decisions ps ≡ 0 → IsAssumed ps a
assumed-none ps None e = tt
assumed-none ps (Some a) e = λ above. absurd (omega arith)

order-same : (s t : SolverValue) (a : Option (ℕ × Lit)) → t.given ≡ s.given → t.vars ≡ s.vars → IsInOrder s a → IsInOrder t a
order-same s t None e f h = tt
order-same s t (Some a) e f h = (h.0 ∙ ap length (sym e), rw f h.1)

-- one more learnt clause is worth more than all variables
learnt-less : (b l v f g : ℕ) → l + 1 ≤ b → g ≤ v → (b + 1 - (l + 1)) * (v + 1) + g < (b + 1 - l) * (v + 1) + f
learnt-less b l v f g h k =
    let n : ℕ = b - l in
    let e : b + 1 - (l + 1) ≡ n = omega arith in
    let d : b + 1 - l ≡ n + 1 = omega arith in
    rw (e, d) (omega arith)

-- after a clause was learnt the search goes on
pub goes-on : (s t : Search) (a : Option (ℕ × Lit)) (budget : ℕ) → IsWatch s.watch.vars s.watch.clauses s.watch.placed → IsReady s a budget
    → Learns s t → t.learnt ≤ budget → IsStep s t a budget None
goes-on s t a budget right r h le =
    let n = h.search.learnt in
    let m = h.count in (
      h.adds,
      record {
        search = h.search;
        open_log = h.open_log;
        in_budget = omega (arith, n, le);
        in_order = order-same (value_of false s) (value_of false t) a h.adds.given h.adds.vars r.in_order;
        assumed = subst (λ ps. IsAssumed ps a) (sym h.placed) (assumed-upto h.level s.watch.placed a right.orderly.levels r.assumed);
      },
      subst (λ v. (budget + 1 - learnt_in t.log) * (v + 1) + free_left t.watch.placed v < measure_of budget s) (sym h.adds.vars)
          (subst (λ l. (budget + 1 - l) * (s.watch.vars + 1) + free_left t.watch.placed s.watch.vars < measure_of budget s) (sym m)
          (learnt-less budget (learnt_in s.log) s.watch.vars (free_left s.watch.placed s.watch.vars) (free_left t.watch.placed s.watch.vars)
          (omega (arith, n, m, le)) (free_left-le t.watch.placed s.watch.vars))),
    )

-- or its budget is spent
pub spends : (s t u : Search) (a : Option (ℕ × Lit)) (budget : ℕ) → IsReady s a budget → Learns s t → budget < t.learnt →
    u.watch ≡ t.watch → u.log ≡ t.log ++ line.Spent ∷ [] → u.inputs ≡ t.inputs → u.bits ≡ t.bits → u.given.items ≡ t.given.items
    → u.model.items ≡ t.model.items → u.learnt ≡ t.learnt → u.seen ≡ t.seen → IsStep s u a budget (Some outcome.Spent)
spends s t u a budget r h lt watch log inputs bits given model learnt seen =
    let n = h.search.learnt in
    let m = h.count in
    let b = r.in_budget in
    let clauses : u.watch.clauses ≡ t.watch.clauses = ap (λ (w : WatchValue). w.clauses) watch in
    let vars : u.watch.vars ≡ t.watch.vars = ap (λ (w : WatchValue). w.vars) watch in
    let count : u.learnt ≡ t.learnt + 0 = omega (arith, learnt) in
    let len : length u.seen ≡ length t.seen = rw seen refl in
    let unseen : AreClear u.seen = rw seen h.search.unseen in (
      (
        Adds-trans (value_of false s) (value_of false t) (value_of false u) None (Some line.Spent) h.adds
            (adds-last t u None line.Spent None h.search h.open_log clauses vars log inputs bits given model count len unseen),
        rw log (let k = learnt_in-push t.log line.Spent in omega (arith, k, n, m, b, lt)),
      ),
      search-grown t u None line.Spent None h.search h.open_log clauses vars log inputs bits given model count len unseen (omega arith)
          (λ more. tt) tt (λ more. refl),
    )

-- a decision
pub decided : (s : Search) (w : WatchValue) (o : HeapValue) (l : Lit) (a : Option (ℕ × Lit)) (budget reach : ℕ) → IsReady s a budget
    → IsNext s.watch.placed s.watch.vars reach a (move.Decide l) → w ≡ with_next s.watch l None
    → IsStep s (record s { watch = w; heap = o }) a budget None
decided s w o l a budget reach r h e =
    let clauses : w.clauses ≡ s.watch.clauses = ap (λ (v : WatchValue). v.clauses) e in
    let vars : w.vars ≡ s.watch.vars = ap (λ (v : WatchValue). v.vars) e in
    let placed : w.placed ≡ s.watch.placed ++ next s.watch.placed l None ∷ [] = ap (λ (v : WatchValue). v.placed) e in (
      adds-watch s w clauses vars,
      record {
        search = search-turn s w o clauses vars r.search;
        open_log = r.open_log;
        in_budget = r.in_budget;
        in_order = order-same (value_of false s) (value_of false (record s { watch = w; heap = o })) a refl vars r.in_order;
        assumed = subst (λ ps. IsAssumed ps a) (sym placed) h.2;
      },
      rw (vars, placed) (let f = free_left-less s.watch.placed (next s.watch.placed l None) s.watch.vars h.0 h.1 in omega (arith, f)),
    )

-- a model
false-in : (ps : List Placed) (n : ℕ) (cs : List (List Lit)) (model : List Bool) (a : Option (ℕ × Lit)) → IsWatch n cs ps
    → IsModelOf ps n model → IsFalseOn ps a → IsFalseIn model a
false-in ps n cs model None right m h = tt
false-in ps n cs model (Some a) right m h = false-here ps n model right.orderly m a.1 h

-- a model is found where all variables have values and nothing follows
pub finished : (s t : Search) (a : Option (ℕ × Lit)) (budget reach : ℕ) → IsWatch s.watch.vars s.watch.clauses s.watch.placed
    → IsReady s a budget
    → IsSettled (lits_of s.watch.placed) s.watch.clauses → IsNext s.watch.placed s.watch.vars reach a move.Finish →
    IsModelOf s.watch.placed s.watch.vars t.model.items → t.watch ≡ s.watch → t.log ≡ s.log → t.inputs ≡ s.inputs → t.bits ≡ s.bits
    → t.given ≡ s.given → t.learnt ≡ s.learnt → t.seen ≡ s.seen → IsTurn reach s t a budget (Some outcome.Model)
finished s t a budget reach right r settled h m watch log inputs bits given learnt seen = (
  (
    record {
      adds = record {
        input = rw (watch, inputs) refl;
        vars = rw watch refl;
        bits = bits;
        model = refl;
        given = rw given refl;
        learnt = [];
        all_learnt = tt;
        lines = log ∙ sym (append-nil s.log);
      };
      whole = rw watch m.whole;
      meets = rw watch (λ le. model-meets s.watch.placed s.watch.vars t.model.items right.orderly m s.watch.clauses (h.0 le)
          right.in_range settled);
      assumed = false-in s.watch.placed s.watch.vars s.watch.clauses t.model.items a right m h.1;
    },
    rw log r.in_budget,
    rw log r.open_log,
  ),
  record {
    log =
        let v : record (value_of false s) { model = t.model.items } ≡ value_of false t = rw (watch, log, inputs, bits, given) refl in
        let i = r.search.log in
        subst IsLogOf v (record { settled = i.settled; sound = i.sound; useful = i.useful; knows = i.knows });
    inputs = rw (watch, inputs) r.search.inputs;
    learnt = rw log (learnt ∙ r.search.learnt);
    seen = rw (watch, seen) r.search.seen;
    unseen = rw seen r.search.unseen;
  },
)

-- turns one after another
pub Answers-after : (a b c : SolverValue) (assumption : Option (ℕ × Lit)) (budget : ℕ) (o : Outcome) → Adds a b None None
    → Answers b c assumption budget o → Answers a c assumption budget o
Answers-after a b c assumption budget outcome.Model f h = (
  record {
    adds = subst (λ m. Adds a (record c { model = m }) None None) f.model
        (Adds-trans a b (record c { model = b.model }) None None f h.0.adds);
    whole = h.0.whole;
    meets = h.0.meets;
    assumed =
        h.0.assumed;
  },
  h.1,
  h.2,
)
Answers-after a b c assumption budget outcome.Refuted f h = ((h.0.0, h.0.1, Adds-trans a b c _ (Some h.0.0) f h.0.2), h.1, h.2)
Answers-after a b c assumption budget outcome.Spent f h = (Adds-trans a b c None (Some line.Spent) f h.0, h.1)

pub Ends-after : (reach : ℕ) (a b c : SolverValue) (assumption : Option (ℕ × Lit)) (budget : ℕ) (o : Outcome) → Adds a b None None
    → Ends reach b c assumption budget o → Ends reach a c assumption budget o
Ends-after reach a b c assumption budget outcome.Model f h = (
  record {
    adds = subst (λ m. Adds a (record c { model = m }) None None) f.model
        (Adds-trans a b (record c { model = b.model }) None None f h.0.adds);
    whole = h.0.whole;
    meets = h.0.meets;
    assumed = h.0.assumed;
  },
  h.1,
  h.2,
)
Ends-after reach a b c assumption budget outcome.Refuted f h = Answers-after a b c assumption budget outcome.Refuted f h
Ends-after reach a b c assumption budget outcome.Spent f h = Answers-after a b c assumption budget outcome.Spent f h

-- what is answered of all variables is so of fewer, and where the reach is all variables it is the same
pub ends-of : (reach : ℕ) (a b : SolverValue) (assumption : Option (ℕ × Lit)) (budget : ℕ) (o : Outcome)
    → Answers a b assumption budget o → Ends reach a b assumption budget o
ends-of reach a b assumption budget outcome.Model h = (
  record { adds = h.0.adds; whole = h.0.whole; meets = λ le. h.0.meets; assumed = h.0.assumed },
  h.1,
  h.2,
)
ends-of reach a b assumption budget outcome.Refuted h = h
ends-of reach a b assumption budget outcome.Spent h = h

pub answers-of : (reach : ℕ) (a b : SolverValue) (assumption : Option (ℕ × Lit)) (budget : ℕ) (o : Outcome) → reach ≡ a.vars
    → Ends reach a b assumption budget o → Answers a b assumption budget o
answers-of reach a b assumption budget outcome.Model e h = (
  record {
    adds = h.0.adds;
    whole = h.0.whole;
    meets = let v : b.vars ≡ a.vars = h.0.adds.vars in h.0.meets (omega (arith, v, e));
    assumed = h.0.assumed;
  },
  h.1,
  h.2,
)
answers-of reach a b assumption budget outcome.Refuted e h = h
answers-of reach a b assumption budget outcome.Spent e h = h

pub step-of : (reach : ℕ) (s t : Search) (a : Option (ℕ × Lit)) (budget : ℕ) (o : Outcome) → reach ≡ s.watch.vars
    → IsTurn reach s t a budget (Some o) → IsStep s t a budget (Some o)
step-of reach s t a budget o e h = (answers-of reach (value_of false s) (value_of false t) a budget o e h.0, h.1)

pub turn-of : (reach : ℕ) (s t : Search) (a : Option (ℕ × Lit)) (budget : ℕ) (o : Option Outcome) → IsStep s t a budget o
    → IsTurn reach s t a budget o
turn-of reach s t a budget None h = h
turn-of reach s t a budget (Some o) h = (ends-of reach (value_of false s) (value_of false t) a budget o h.0, h.1)

-- a step after a propagation is a step of both
pub IsStep-after : (s t u : Search) (a : Option (ℕ × Lit)) (budget : ℕ) (o : Option Outcome)
    → Adds (value_of false s) (value_of false t) None None → measure_of budget t ≤ measure_of budget s → IsStep t u a budget o
    → IsStep s u a budget o
IsStep-after s t u a budget None f le h =
    (Adds-trans (value_of false s) (value_of false t) (value_of false u) None None f h.0, h.1, (let l = h.2 in omega (arith, le, l)))
IsStep-after s t u a budget (Some o) f le h = (Answers-after (value_of false s) (value_of false t) (value_of false u) a budget o f h.0, h.1)

pub IsTurn-after : (reach : ℕ) (s t u : Search) (a : Option (ℕ × Lit)) (budget : ℕ) (o : Option Outcome)
    → Adds (value_of false s) (value_of false t) None None → measure_of budget t ≤ measure_of budget s → IsTurn reach t u a budget o
    → IsTurn reach s u a budget o
IsTurn-after reach s t u a budget None f le h = IsStep-after s t u a budget None f le h
IsTurn-after reach s t u a budget (Some o) f le h =
    (Ends-after reach (value_of false s) (value_of false t) (value_of false u) a budget o f h.0, h.1)

-- propagation
module _ (s : Search) (w : WatchValue) (a : Option (ℕ × Lit)) (budget : ℕ) (r : IsReady s a budget) (p : Propagated s.watch w) where
  abbrev pub after : Search
  after = record s { watch = w }

  vars : w.vars ≡ s.watch.vars
  vars = p.grown.same_vars

  -- propagation adds no line
  pub adds-propagated : Adds (value_of false s) (value_of false after) None None
  adds-propagated = adds-watch s w p.same_clauses vars

  -- after propagation the loop goes on from a right state
  pub ready-propagated : IsReady after a budget
  ready-propagated = record {
    search = search-watch s w p.same_clauses vars r.search;
    open_log = r.open_log;
    in_budget = r.in_budget;
    in_order = order-same (value_of false s) (value_of false after) a refl vars r.in_order;
    assumed = subst (λ ps. IsAssumed ps a) (sym p.grown.is)
        (assumed-grown s.watch.placed p.grown.more a (ap decisions (sym p.grown.is) ∙ p.grown.same_depth) r.assumed);
  }

  -- propagation raises no measure
  pub measure-propagated : measure_of budget after ≤ measure_of budget s
  measure-propagated = rw (vars, p.grown.is) (let f = Grown-free s.watch.clauses s.watch.vars s.watch.placed p.grown.more p.grown.each in
      omega (arith, f))

-- backtracking to level 0
pub started : (s : Search) (w : WatchValue) (o : HeapValue) (a : Option (ℕ × Lit)) (budget : ℕ) → IsSearch s → IsOpen s.log
    → learnt_in s.log ≤ budget → IsInOrder (value_of false s) a → w ≡ backtrack s.watch 0
    → decisions w.placed ≡ min (decisions s.watch.placed) 0 →
    Adds (value_of false s) (value_of false (record s { watch = w; heap = o })) None None
    × IsReady (record s { watch = w; heap = o }) a budget
started s w o a budget i p b heap e d =
    let clauses : w.clauses ≡ s.watch.clauses = ap (λ (v : WatchValue). v.clauses) e in
    let vars : w.vars ≡ s.watch.vars = ap (λ (v : WatchValue). v.vars) e in (
      adds-watch s w clauses vars,
      record {
        search = search-turn s w o clauses vars i;
        open_log = p;
        in_budget = b;
        in_order = order-same (value_of false s) (value_of false (record s { watch = w; heap = o })) a refl vars heap;
        assumed = assumed-none w.placed a (omega (arith, d));
      },
    )
