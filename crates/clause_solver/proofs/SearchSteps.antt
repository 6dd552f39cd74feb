-- What the steps of the search do.
use Rattle.std.proofs.Common.{◌≡◌, ℕ, ◌+◌, min, List, [], ◌∷◌, ◌++◌, length, Option, Some, None, ◌⊎◌, inl, inr, refl, sym, ap, ◌∙◌, subst, length-append, arith}
use Rattle.std.specs.Prelude.{slice_get}
use Rattle.std.specs.Option.{option_map}
use Rattle.clause_store.specs.declared.Lit.{Lit}
use Rattle.clause_store.specs.Lits.{negation}
use Rattle.proof_log.specs.declared.line.Line.TheVariants as line
use Rattle.proof_log.specs.Derivations.{IsDerived}
use Rattle.proof_log.specs.Lines.{IsOpen}
use Rattle.proof_log.proofs.Logs.{learnt_in-push, IsOpen-push}
use Rattle.clause_watch.specs.Trails.{decisions}
use Rattle.clause_watch.specs.Watches.{WatchValue, backtrack, IsAddable}
use Rattle.clause_watch.specs.Watches as watches
use Rattle.clause_solver.specs.declared.search.Search.{Search}
use Rattle.clause_solver.specs.declared.analysis.Learnt.{Learnt}
use Rattle.clause_solver.specs.Seen.{AreClear}
use Rattle.clause_solver.specs.Learning.{IsLearnt}
use Rattle.clause_solver.specs.Searches.{IsSearch, Learns, IsClosed, IsFixed}
use Rattle.clause_solver.proofs.Growing.{search-grown, adds-learnt, adds-last}
use Rattle.proof_log.proofs.GrowingLaws.{get-given}

one-longer : (g : List Lit) (l : Lit) → length (g ++ l ∷ []) ≡ length g + 1
one-longer g l = length-append g (l ∷ [])

-- `fix`
pub fixed : (s t : Search) (bit id : ℕ) (l : Lit) → IsSearch s → IsOpen s.log → bit ≡ length s.given.items
    → id ≡ length s.watch.clauses + 1 →
    t.watch.clauses ≡ s.watch.clauses ++ (negation l ∷ []) ∷ [] → t.watch.vars ≡ s.watch.vars → t.log ≡ s.log ++ line.Zero id bit ∷ []
    → t.inputs ≡ s.inputs → t.bits ≡ s.bits →
    t.given.items ≡ s.given.items ++ l ∷ [] → t.learnt ≡ s.learnt → t.model.items ≡ s.model.items → length t.seen ≡ length s.seen
    → AreClear t.seen → IsFixed s t bit l
fixed s t bit id l i o b n clauses vars log inputs bits given learnt model seen unseen =
    let get = λ (more : List Lit). get-given s.given.items more l in
    let c : Option (List Lit) = Some (negation l ∷ []) in
    let count : t.learnt ≡ s.learnt + 0 = omega (arith, learnt) in record {
      search = search-grown s t (Some l) (line.Zero id bit) c i o clauses vars log inputs bits given model count seen unseen
          (one-longer s.given.items l) (λ more. (n, b, l, get more)) tt
          (λ more. ap (λ k. option_map (λ (x : Lit). negation x ∷ []) (slice_get ((s.given.items ++ l ∷ []) ++ more) k)) b
          ∙ ap (option_map (λ (x : Lit). negation x ∷ [])) (get more));
      open_log = subst IsOpen (sym log) (IsOpen-push s.log (line.Zero id bit) o refl);
      is =
          let a = adds-last s t (Some l) (line.Zero id bit) c i o clauses vars log inputs bits given model count seen unseen in
          rw (a.input, vars, bits, given, log, clauses, model, n) refl;
    }

-- `close`
pub closed-all : (s t : Search) (chain : List ℕ) → IsSearch s → IsOpen s.log → IsDerived s.watch.clauses chain [] →
    t.watch.clauses ≡ s.watch.clauses → t.watch.vars ≡ s.watch.vars → t.log ≡ s.log ++ line.Unsat chain ∷ [] → t.inputs ≡ s.inputs
    → t.bits ≡ s.bits →
    t.given.items ≡ s.given.items → t.model.items ≡ s.model.items → t.learnt ≡ s.learnt → length t.seen ≡ length s.seen → AreClear t.seen
    → IsClosed s t None
closed-all s t chain i o d clauses vars log inputs bits given model learnt seen unseen =
    let count : t.learnt ≡ s.learnt + 0 = omega (arith, learnt) in record {
      search = search-grown s t None (line.Unsat chain) None i o clauses vars log inputs bits given model count seen unseen (omega arith)
          (λ more. d) tt (λ more. refl);
      refutes = (
        line.Unsat chain,
        tt,
        adds-last s t None (line.Unsat chain) None i o clauses vars log inputs bits given model count
            seen unseen,
      );
      open_log = tt;
      count = rw log (let h = learnt_in-push s.log (line.Unsat chain) in omega (arith, h));
    }

-- the assumed bit is settled at 1 by one line
pub closed-bit : (s t : Search) (bit id : ℕ) (l : Lit) (chain : List ℕ) → IsSearch s → IsOpen s.log → bit ≡ length s.given.items
    → id ≡ length s.watch.clauses + 1 → IsDerived s.watch.clauses chain (l ∷ []) →
    t.watch.clauses ≡ s.watch.clauses ++ (l ∷ []) ∷ [] → t.watch.vars ≡ s.watch.vars → t.log ≡ s.log ++ line.One id bit chain ∷ []
    → t.inputs ≡ s.inputs → t.bits ≡ s.bits →
    t.given.items ≡ s.given.items ++ l ∷ [] → t.model.items ≡ s.model.items → t.learnt ≡ s.learnt → length t.seen ≡ length s.seen
    → AreClear t.seen → IsClosed s t (Some (bit, l))
closed-bit s t bit id l chain i o b n d clauses vars log inputs bits given model learnt seen unseen =
    let get = λ (more : List Lit). get-given s.given.items more l in
    let c : Option (List Lit) = Some (l ∷ []) in
    let count : t.learnt ≡ s.learnt + 0 = omega (arith, learnt) in record {
      search = search-grown s t (Some l) (line.One id bit chain) c i o clauses vars log inputs bits given model count seen unseen
          (one-longer s.given.items l) (λ more. (n, b, l, get more, d)) tt
          (λ more. ap (λ k. option_map (λ (x : Lit). x ∷ []) (slice_get ((s.given.items ++ l ∷ []) ++ more) k)) b
          ∙ ap (option_map (λ (x : Lit). x ∷ [])) (get more));
      refutes = (
        line.One id bit chain,
        refl,
        adds-last s t (Some l) (line.One id bit chain) c i o clauses vars log inputs bits given model
            count seen unseen,
      );
      open_log = subst IsOpen (sym log) (IsOpen-push s.log (line.One id bit chain) o refl);
      count = rw log (let h = learnt_in-push s.log (line.One id bit chain) in omega (arith, h));
    }

-- `learn`
pub learns : (s t : Search) (fresh : Learnt) (id level : ℕ) → IsSearch s → IsOpen s.log → IsLearnt s.watch fresh
    → id ≡ length s.watch.clauses + 1 →
    t.watch ≡ watches.with_known (backtrack s.watch level) fresh.clause → t.log ≡ s.log ++ line.Learnt id fresh.clause fresh.chain ∷ []
    → t.inputs ≡ s.inputs → t.bits ≡ s.bits →
    t.given.items ≡ s.given.items → t.model.items ≡ s.model.items → t.learnt ≡ s.learnt + 1 → length t.seen ≡ length s.seen
    → AreClear t.seen → Learns s t
learns s t fresh id level i o h n watch log inputs bits given model learnt seen unseen =
    let l = line.Learnt id fresh.clause fresh.chain in
    let c : Option (List Lit) = Some fresh.clause in
    let clauses : t.watch.clauses ≡ s.watch.clauses ++ fresh.clause ∷ [] = ap (λ (w : WatchValue). w.clauses) watch in
    let vars : t.watch.vars ≡ s.watch.vars = ap (λ (w : WatchValue). w.vars) watch in record {
      search = search-grown s t None l c i o clauses vars log inputs bits given model learnt seen unseen (omega arith)
          (λ more. (n, h.in_order, h.derived)) h.useful (λ more. refl);
      adds = adds-learnt s t None l c i o clauses vars log inputs bits given model learnt seen unseen refl refl;
      open_log = subst IsOpen (sym log) (IsOpen-push s.log l o refl);
      count = rw log (learnt_in-push s.log l);
      level = level;
      placed = ap (λ (w : WatchValue). w.placed) watch;
    }

-- where the learnt clause is added: at its level, or at level 0
pub learnt-addable : (w v : WatchValue) (fresh : Learnt) (level : ℕ) → IsLearnt w fresh → (level ≡ fresh.backjump) ⊎ (level ≡ 0)
    → v ≡ backtrack w level → decisions v.placed ≡ min (decisions w.placed) level → (decisions v.placed ≡ 0)
    ⊎ IsAddable v.placed fresh.clause
learnt-addable w v fresh level h (inr z) e d = inl (omega (arith, d, z))
learnt-addable w v fresh level h (inl same) e d =
    elim h.addable [
      | inl z ↦ inl (omega (arith, d, same, z))
      | inr a ↦ inr (subst (λ (u : WatchValue). IsAddable u.placed fresh.clause) (sym (e ∙ ap (backtrack w) same)) a)
    ]
