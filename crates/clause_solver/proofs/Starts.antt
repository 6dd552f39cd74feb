-- A solver at first.
use Rattle.std.proofs.Common.{◌≡◌, ℕ, suc, false, List, [], ◌∷◌, ◌++◌, length, take, refl, sym, ap, ◌∙◌, subst, arith}
use Rattle.std.proofs.lemmas.List.{take_all}
use Rattle.clause_store.specs.declared.list.Entry.{Entry}
use Rattle.clause_store.specs.declared.Lit.{Lit}
use Rattle.clause_store.specs.Clauses.{Clauses, clauses_of}
use Rattle.proof_log.specs.declared.line.Line.{Line}
use Rattle.proof_log.specs.declared.line.Line.TheVariants as line
use Rattle.clause_watch.specs.Watches.{WatchValue}
use Rattle.clause_solver.specs.declared.search.Search.{Search}
use Rattle.clause_solver.specs.Seen.{AreClear}
use Rattle.clause_solver.specs.Solvers.{IsLogOf, start_of}
use Rattle.proof_log.specs.Logs.{IsGrowing}
use Rattle.clause_solver.specs.Searches.{value_of, IsSearch, BeginsAnew}

length-clauses : (es : List Entry) → length (clauses_of es) ≡ length es
length-clauses [] = refl
length-clauses (e ∷ es) = ap suc (length-clauses es)

IsLogOf-start : (s : Clauses) (bits : ℕ) → IsLogOf (start_of s bits)
IsLogOf-start s bits = record {
  settled = refl;
  sound = λ more h. (header s.vars (sym (length-clauses s.entries)) (sym h), tt, tt);
  useful = λ more. (tt, tt);
  knows = λ more. refl;
}
  where
    header : (v : ℕ) {a b c d : ℕ} → a ≡ b → c ≡ d → line.Header v a c ≡ line.Header v b d
    header v e f = rw (e, f) refl

module _ (s : Clauses) (bits : ℕ) (t : Search)
    (watch : ◌≡◌ {A = WatchValue} t.watch (record { clauses = clauses_of s.entries; placed = []; vars = s.vars }))
    (log : t.log ≡ line.Header s.vars (length s.entries) bits ∷ []) (inputs : t.inputs ≡ length s.entries) (same : t.bits ≡ bits)
    (given : t.given.items ≡ []) (learnt : t.learnt ≡ 0) (model : t.model.items ≡ []) where
  -- a solver at first, as callers see it
  pub value-start : value_of false t ≡ start_of s bits
  value-start = rw (watch, log, inputs, same, given, model) (let e : take (length s.entries) (clauses_of s.entries) ≡ clauses_of s.entries =
      take_all (length s.entries) (clauses_of s.entries) (omega (arith, length-clauses s.entries)) in rw e refl)

  -- its parts keep what they must
  pub search-start : length t.seen ≡ s.vars → AreClear t.seen → IsSearch t
  search-start seen unseen = record {
    log = subst IsLogOf (sym value-start) (IsLogOf-start s bits);
    inputs = rw (inputs, watch) (omega (arith, length-clauses s.entries));
    learnt = rw log learnt;
    seen = rw watch seen;
    unseen = unseen;
  }

-- the log begins with its Header
pub header-is : (old new : List Line) (v w n m bits : ℕ) → old ≡ [] → new ≡ old ++ line.Header v n bits ∷ [] → v ≡ w → n ≡ m
    → new ≡ line.Header w m bits ∷ []
header-is old new v w n m bits a b e f = b ∙ rw (a, e, f) refl

-- a log with its Header alone, over what is known
growing-start : (vars bits : ℕ) (known : List (List Lit)) → IsGrowing vars known bits [] known (line.Header vars (length known) bits ∷ [])
growing-start vars bits known = record {
  settled = refl;
  sound = λ more h. (ap (line.Header vars (length known)) (sym h), tt, tt);
  useful = λ more. (tt, tt);
  knows = λ more. refl;
}

-- a search whose log begins anew
pub begun-anew : (s t : Search) → IsSearch s → t.watch.vars ≡ s.watch.vars
    → t.log ≡ line.Header t.watch.vars (length t.watch.clauses) t.bits ∷ [] → t.inputs ≡ length t.watch.clauses → t.given.items ≡ []
    → t.learnt ≡ 0 → t.seen ≡ s.seen → BeginsAnew s t
begun-anew s t h vars log inputs given learnt seen =
    let cs : List (List Lit) = t.watch.clauses in
    let all : take (length cs) cs ≡ cs = take_all (length cs) cs (omega arith) in record {
      search = record {
        log = rw (log, given, inputs) (rw all (growing-start t.watch.vars t.bits cs));
        inputs = omega (arith, inputs);
        learnt = rw log learnt;
        seen = rw (seen, vars) h.seen;
        unseen = rw seen h.unseen;
      };
      is = record { vars = vars; given = given; open_log = rw log (refl, tt); none_learnt = rw log refl };
    }
