-- A solver whose log grows.
use Rattle.std.proofs.Common.{◌≡◌, ℕ, ◌+◌, ◌≤◌, false, List, [], ◌∷◌, ◌++◌, length, take, Option, Some, None, refl, sym, ap, ◌∙◌, subst, append_assoc, length-append, arith}
use Rattle.std.proofs.lemmas.List.{append-nil, take-append-le}
use Rattle.clause_store.specs.declared.Lit.{Lit}
use Rattle.proof_log.specs.declared.line.Line.{Line}
use Rattle.proof_log.specs.Usefulness.{IsUseful}
use Rattle.proof_log.specs.Lines.{added, with_added, settles, ends, learnt_count, OfLearnt, AllLearnt, IsOpen}
use Rattle.proof_log.specs.Logs.{LineHolds}
use Rattle.proof_log.proofs.Logs.{learnt_in-push, AllLines-append, all-learnt}
use Rattle.proof_log.proofs.GrowingLaws.{IsGrowing-push}
use Rattle.clause_watch.specs.Watches.{WatchValue}
use Rattle.clause_solver.specs.HeapValues.{HeapValue}
use Rattle.clause_solver.specs.declared.search.Search.{Search}
use Rattle.clause_solver.specs.Seen.{AreClear}
use Rattle.clause_solver.specs.Solvers.{SolverValue, IsLogOf, Adds}
use Rattle.clause_solver.specs.Searches.{value_of, IsSearch}

front-same : (n : ℕ) (cs : List (List Lit)) (c : Option (List Lit)) → n ≤ length cs → take n (with_added cs c) ≡ take n cs
front-same n cs None h = refl
front-same n cs (Some c) h = take-append-le n cs (c ∷ []) h

longer : (cs : List (List Lit)) (c : Option (List Lit)) → length cs ≤ length (with_added cs c)
longer cs None = omega arith
longer cs (Some c) = omega (arith, length-append cs (c ∷ []))

module _ (s t : Search) (lit : Option Lit) (l : Line) (c : Option (List Lit)) (i : IsSearch s) (open_log : IsOpen s.log)
    (clauses : t.watch.clauses ≡ with_added s.watch.clauses c) (vars : t.watch.vars ≡ s.watch.vars) (log : t.log ≡ s.log ++ l ∷ [])
    (inputs : t.inputs ≡ s.inputs) (bits : t.bits ≡ s.bits)
    (given : t.given.items ≡ with_added s.given.items lit) (model : t.model.items ≡ s.model.items)
    (count : t.learnt ≡ s.learnt + learnt_count l) (seen : length t.seen ≡ length s.seen) (unseen : AreClear t.seen) where
  -- the solver's invariant after one more line
  pub search-grown : length (with_added s.given.items lit) ≡ length s.given.items + settles l →
      ((more : List Lit) → LineHolds (with_added s.given.items lit ++ more) s.watch.clauses (length s.given.items) l)
      → OfLearnt (IsUseful s.watch.clauses) l →
      ((more : List Lit) → added (with_added s.given.items lit ++ more) l ≡ c) → IsSearch t
  search-grown n holds useful adds =
      let v = value_of false s in
      let g = IsGrowing-push v.vars v.input v.bits v.given v.known v.lines lit l c i.log open_log n holds useful adds in record {
        log = rw (inputs, clauses, vars, log, bits, given, front-same s.inputs s.watch.clauses c i.inputs) g;
        inputs = rw (inputs, clauses) (let h = longer s.watch.clauses c in let k = i.inputs in omega (arith, h, k));
        learnt = rw log (count ∙ ap (λ m. m + learnt_count l) i.learnt ∙ sym (learnt_in-push s.log l));
        seen = seen ∙ i.seen ∙ sym vars;
        unseen = unseen;
      }

  input-same : take t.inputs t.watch.clauses ≡ take s.inputs s.watch.clauses
  input-same = rw (inputs, clauses) (front-same s.inputs s.watch.clauses c i.inputs)

  -- a learnt line, and one that ends the search
  pub adds-learnt : lit ≡ None → learnt_count l ≡ 1 → Adds (value_of false s) (value_of false t) None None
  adds-learnt none one = record {
    input = input-same;
    vars = vars;
    bits = bits;
    model = model;
    given = given ∙ ap (with_added s.given.items) none;
    learnt = l ∷ [];
    all_learnt = (one, tt);
    lines = log;
  }

  -- a line that ends the search or settles a bit
  pub adds-last : Adds (value_of false s) (value_of false t) lit (Some l)
  adds-last = record {
    input = input-same;
    vars = vars;
    bits = bits;
    model = model;
    given = given;
    learnt = [];
    all_learnt = tt;
    lines = log ∙ ap (λ xs. xs ++ l ∷ []) (sym (append-nil s.log));
  }

-- the trail and the model play no part
pub search-watch : (s : Search) (w : WatchValue) → w.clauses ≡ s.watch.clauses → w.vars ≡ s.watch.vars → IsSearch s
    → IsSearch (record s { watch = w })
search-watch s w e f i =
    let v : value_of false s ≡ value_of false (record s { watch = w }) = rw (e, f) refl in record {
      log = subst IsLogOf v i.log;
      inputs = rw e i.inputs;
      learnt = i.learnt;
      seen = rw f i.seen;
      unseen = i.unseen;
    }

-- nor does the heap of the variables
pub search-turn : (s : Search) (w : WatchValue) (o : HeapValue) → w.clauses ≡ s.watch.clauses → w.vars ≡ s.watch.vars → IsSearch s
    → IsSearch (record s { watch = w; heap = o })
search-turn s w o e f i = let k = search-watch s w e f i in
    record { log = k.log; inputs = k.inputs; learnt = k.learnt; seen = k.seen; unseen = k.unseen }

-- a watch with the same clauses adds no line
pub adds-watch : (s : Search) (w : WatchValue) → w.clauses ≡ s.watch.clauses → w.vars ≡ s.watch.vars
    → Adds (value_of false s) (value_of false (record s { watch = w })) None None
adds-watch s w e f = record {
  input = ap (take s.inputs) e;
  vars = f;
  bits = refl;
  model = refl;
  given = refl;
  learnt = [];
  all_learnt =
      tt;
  lines = sym (append-nil s.log);
}

pub Adds-trans : (a b c : SolverValue) (lit : Option Lit) (last : Option Line) → Adds a b None None → Adds b c lit last → Adds a c lit last
Adds-trans a b c lit last f g = record {
  input = g.input ∙ f.input;
  vars = g.vars ∙ f.vars;
  bits = g.bits ∙ f.bits;
  model = g.model ∙ f.model;
  given = g.given ∙ ap (λ xs. with_added xs lit) f.given;
  learnt = f.learnt ++ g.learnt;
  all_learnt = AllLines-append (λ l. learnt_count l ≡ 1) f.learnt g.learnt f.all_learnt g.all_learnt;
  lines = g.lines ∙ ap (λ xs. with_added (xs ++ g.learnt) last) f.lines
      ∙ ap (λ xs. with_added xs last) (append_assoc a.lines f.learnt g.learnt);
}

-- learnt lines leave a log open, so that the solver may go on after a model and after an assumption was refuted
pub stays-open : (ls more : List Line) → IsOpen ls → AllLearnt more → IsOpen (ls ++ more)
stays-open ls more o a = all-learnt (λ l. ends l ≡ false) (λ id c chain. refl) ls more a o
