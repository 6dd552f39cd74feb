-- What a solver's answers say of the bits settled so far.
use Rattle.std.proofs.Common.{◌≡◌, ℕ, zero, suc, ◌+◌, ◌<◌, ◌≤◌, Bool, true, false, List, [], ◌∷◌, ◌++◌, length, take, Option, Some, None, ◌⊎◌, inl, inr, refl, sym, ap, ◌∙◌, subst, arith}
use Rattle.std.specs.Prelude.{slice_get}
use Rattle.std.proofs.lemmas.List.{take_all}
use Rattle.std.proofs.lemmas.Option.{none-some, same_Some, get_or_from_slice_get, slice_get_within}
use Rattle.std.proofs.Math.Seq.{take-suc}
use Rattle.clause_store.specs.declared.Lit.{Lit}
use Rattle.clause_store.specs.Lits.{var_of, lit_true, AllBelow}
use Rattle.clause_store.specs.Clauses.{Clauses, clauses_of, AllTrue}
use Rattle.clause_store.proofs.Entries.{Meets-all}
use Rattle.proof_log.specs.declared.line.Line.{Line}
use Rattle.proof_log.specs.declared.line.Line.TheVariants as line
use Rattle.proof_log.specs.Known.{AllOver}
use Rattle.proof_log.specs.Usefulness.{IsUseful}
use Rattle.proof_log.specs.Lines.{settled_after, settles, IsOpen, learnt_in, AllLines, LastIs, OfLearnt, SettlesNone}
use Rattle.proof_log.specs.Certificates.{bits_at, HasValue, IsUnsat, IsCertificate, IsRefutation, IsSpentLog, AreMet, AreOver}
use Rattle.proof_log.proofs.Logs.{EachLine-push, learnt_in-push, IsSound-push, learnt-each, AllLines-append, LastIs-push, all-added}
use Rattle.proof_log.proofs.Distinct.{useful-distinct}
use Rattle.proof_log.proofs.GrowingLaws.{IsOverBits, growing-over}
use Rattle.proof_log.proofs.Values.{value-at, known-valued}
use Rattle.clause_solver.specs.Models.{values_in}
use Rattle.clause_solver.specs.Solvers.{SolverValue, IsLogOf, Adds, FindsModel, Closes, Refutes, Fixes, start_of}
use Rattle.optimum_search.specs.Finding.{IsSearching, IsOver, MeetsAll}

log-over : (bits : List Lit) (n : ℕ) (t : SolverValue) → IsLogOf t → t.bits ≡ length bits → t.given ≡ take n bits
    → IsOverBits t.vars t.input bits t.known t.lines
log-over bits n t g count first = growing-over t.vars t.input t.bits t.given t.known t.lines bits n g count first

-- what was learnt is over the variables
learnt-over : (bits : List Lit) (t : SolverValue) → IsOverBits t.vars t.input bits t.known t.lines → AllOver t.vars t.known
    → AreOver t.vars t.lines
learnt-over bits t w r = learnt-each (AllBelow t.vars) bits t.input t.lines (subst (AllOver t.vars) (sym w.knows) r)

take-next : {A : Type 0} (n : ℕ) (xs : List A) (x : A) → slice_get xs n ≡ Some x → take n xs ++ x ∷ [] ≡ take (n + 1) xs
take-next n xs x e =
    let a : suc n ≡ n + 1 = omega arith in
    ap (λ y. take n xs ++ y ∷ []) (sym (get_or_from_slice_get xs n x x e)) ∙ sym (take-suc xs n x (slice_get_within xs n x e))
    ∙ ap (λ k. take k xs) a

-- as the code has it
pub below-at : (m n : ℕ) (ls : List Lit) (l : Lit) → AllBelow m ls → slice_get ls n ≡ Some l → var_of l < m
below-at m n [] l b e = absurd (none-some l e)
below-at m zero (k ∷ ls) l b e = subst (λ (x : Lit). var_of x < m) (same_Some k l e) b.0
below-at m (suc n) (k ∷ ls) l b e = below-at m n ls l b.1 e

-- what the code tells of a literal in the model is so
pub told : (m model : List Bool) (l : Lit) (b t : Bool) → m ≡ model → b ≡ lit_true (values_in m) l → b ≡ t
    → lit_true (values_in model) l ≡ t
told m model l b t e f g = ap (λ x. lit_true (values_in x) l) (sym e) ∙ sym f ∙ g

module _ (bits : List Lit) (budget n : ℕ) (t u : SolverValue) where
  -- after a model
  pub searching-model : (a : Option (ℕ × Lit)) → t.bits ≡ length bits → t.given ≡ take n bits → FindsModel t u a
      → (learnt_in u.lines ≤ budget) × IsOpen u.lines → u.failed ≡ false → IsLogOf u → IsSearching bits budget n u
  searching-model a count given m o f log =
      let c = m.adds.bits ∙ count in
      let g = m.adds.given ∙ given in
      let w = log-over bits n u log c g in
      let k = known-valued (values_in u.model) u.vars u.input bits u.lines w.sound
      (subst (AllTrue (values_in u.model)) (sym w.knows) m.meets) in
      record { count = c; given = g; unfailed = f; open_log = o.1; in_budget = o.0; whole = m.whole; meets = k.0; valued = k.1 }

  -- over a spent budget
  spent : t.bits ≡ length bits → t.given ≡ take n bits → Adds t u None (Some line.Spent) → learnt_in u.lines ≡ budget + 1 → IsLogOf u
      → AllOver u.vars u.known → AllLines SettlesNone u.lines ⊎ AreMet u.input bits u.lines → IsSpentLog u.vars u.input bits budget u.lines
  spent count given a e log r met =
      let w = log-over bits n u log (a.bits ∙ count) (a.given ∙ given) in record {
        sound = w.sound;
        distinct = useful-distinct u.input bits u.lines w.useful;
        useful = w.useful;
        in_range = learnt-over bits u w r;
        count = e;
        last = subst (LastIs (λ l. l ≡ line.Spent)) (sym a.lines) (LastIs-push _ (t.lines ++ a.learnt) line.Spent refl);
        met = met;
      }

  module _ (s : IsSearching bits budget n t) where
    abbrev pub v : ℕ → Bool
    v = values_in t.model

    pub searching-spent : Adds t u None (Some line.Spent) → learnt_in u.lines ≡ budget + 1 → IsLogOf u → AllOver u.vars u.known
        → IsSpentLog u.vars u.input bits budget u.lines
    searching-spent a e log r = spent s.count s.given a e log r
        (inr (record {
          by = v;
          meets = subst (AllTrue v) (sym a.input) s.meets;
          valued =
              all-added (HasValue (bits_at v bits)) (λ id c chain. tt) u.lines t.lines a.learnt line.Spent a.lines a.all_learnt
              s.valued tt;
        }))

    module _ (lit : Lit) (here : slice_get bits n ≡ Some lit) where
      closed : (l : Line) → Closes (Some (n, lit)) l → lit_true v lit ≡ true → HasValue (bits_at v bits) l
      closed (line.One id b chain) c e = value-at v bits b lit true (ap (slice_get bits) c ∙ here) e
      closed (line.Header x y z) c e = absurd c
      closed (line.Zero id b) c e = absurd c
      closed (line.Learnt id d chain) c e = absurd c
      closed (line.Unsat chain) c e = absurd c
      closed line.Spent c e = absurd c
      closed line.End c e = absurd c

      pub searching-one : lit_true v lit ≡ true → Refutes t u (Some (n, lit)) → (learnt_in u.lines ≤ budget) × IsOpen u.lines
          → u.failed ≡ false → IsSearching bits budget (n + 1) u
      searching-one e r o f =
          let a = r.2 in
          let value : AllLines (HasValue (bits_at v bits)) u.lines =
          all-added (HasValue (bits_at v bits)) (λ id c chain. tt) u.lines t.lines a.learnt r.0 a.lines a.all_learnt s.valued
          (closed r.0 r.1 e) in
          record {
            count = a.bits ∙ s.count;
            given = a.given ∙ ap (λ xs. xs ++ lit ∷ []) s.given ∙ take-next n bits lit here;
            unfailed = f;
            open_log = o.1;
            in_budget = o.0;
            whole = ap length a.model ∙ s.whole ∙ sym a.vars;
            meets = subst (λ m. AllTrue (values_in m) u.input) (sym a.model) (subst (AllTrue v) (sym a.input) s.meets);
            valued = subst (λ m. AllLines (HasValue (bits_at (values_in m) bits)) u.lines) (sym a.model) value;
          }

      pub searching-zero : lit_true v lit ≡ false → Fixes t u n lit → IsOpen u.lines → IsSearching bits budget (n + 1) u
      searching-zero e x o = subst (IsSearching bits budget (n + 1)) (sym x) (record {
        count = s.count;
        given = ap (λ xs. xs ++ lit ∷ []) s.given ∙ take-next n bits lit here;
        unfailed = s.unfailed;
        open_log = subst (λ (w : SolverValue). IsOpen w.lines) x o;
        in_budget = let q = learnt_in-push t.lines (line.Zero (length t.known + 1) n) in let b = s.in_budget in omega (arith, q, b);
        whole = s.whole;
        meets = s.meets;
        valued = AllLines-append (HasValue (bits_at v bits)) t.lines _ s.valued (value-at v bits n lit false here e, tt);
      })

-- all bits are settled
module _ (bits : List Lit) (budget : ℕ) (t : SolverValue) (s : IsSearching bits budget (length bits) t) (log : IsLogOf t) where
  -- with its end the log is a certificate of the model's bits
  pub certificate : IsCertificate t.vars t.input bits (bits_at (values_in t.model) bits) (t.lines ++ line.End ∷ [])
  certificate =
      let w = log-over bits (length bits) t log s.count s.given in
      let whole : settled_after 0 t.lines ≡ length bits = log.settled ∙ ap length s.given
      ∙ ap length (take_all (length bits) bits (omega arith)) in record {
        sound = IsSound-push t.vars t.input bits t.lines line.End w.sound s.open_log whole;
        distinct = useful-distinct t.input bits (t.lines ++ line.End ∷ [])
            (EachLine-push (λ k m. OfLearnt (IsUseful k)) bits t.input 0 t.lines line.End w.useful tt);
        valued = AllLines-append (HasValue (bits_at (values_in t.model) bits)) t.lines (line.End ∷ []) s.valued (tt, tt);
        last = LastIs-push _ t.lines line.End refl;
      }

  -- the end speaks of no variable
  pub certificate-over : AllOver t.vars t.known → AreOver t.vars (t.lines ++ line.End ∷ [])
  certificate-over r =
      AllLines-append (OfLearnt (AllBelow t.vars)) t.lines (line.End ∷ [])
      (learnt-over bits t (log-over bits (length bits) t log s.count s.given) r) (tt, tt)

-- the first call
module _ (bits : List Lit) (budget : ℕ) (t u : SolverValue) (count : t.bits ≡ length bits) (given : t.given ≡ [])
    (first : AllLines SettlesNone t.lines) (log : IsLogOf u) where
  none-settled : (lit : Option Lit) (l : Line) → Adds t u lit (Some l) → settles l ≡ 0 → AllLines SettlesNone u.lines
  none-settled lit l a e = all-added SettlesNone (λ id c chain. refl) u.lines t.lines a.learnt l a.lines a.all_learnt first e

  unsat : (l : Line) → Closes None l → IsUnsat l
  unsat (line.Unsat chain) c = (chain, refl)
  unsat (line.Header x y z) c = absurd c
  unsat (line.Zero id b) c = absurd c
  unsat (line.Learnt id d chain) c = absurd c
  unsat (line.One id b chain) c = absurd c
  unsat line.Spent c = absurd c
  unsat line.End c = absurd c

  -- the first call's refutation refutes all
  pub first-refuted : Refutes t u None → IsRefutation u.vars u.input bits u.lines
  first-refuted r =
      let w = log-over bits 0 u log (r.2.bits ∙ count) (r.2.given ∙ given) in
      let q = unsat r.0 r.1 in record {
        sound = w.sound;
        distinct = useful-distinct u.input bits u.lines w.useful;
        no_bit = none-settled None r.0 r.2 (ap settles q.1);
        last = subst (LastIs IsUnsat) (sym r.2.lines) (LastIs-push IsUnsat (t.lines ++ r.2.learnt) r.0 q);
      }

  -- it is over the clauses' variables
  pub refuted-over : Refutes t u None → AllOver u.vars u.known → AreOver u.vars u.lines
  refuted-over r q = learnt-over bits u (log-over bits 0 u log (r.2.bits ∙ count) (r.2.given ∙ given)) q

  -- the first call's spent budget is one
  pub first-spent : Adds t u None (Some line.Spent) → learnt_in u.lines ≡ budget + 1 → AllOver u.vars u.known
      → IsSpentLog u.vars u.input bits budget u.lines
  first-spent a e r = spent bits budget 0 t u count given a e log r (inl (none-settled None line.Spent a refl))

-- over the clauses of the search
pub over-first : (s : Clauses) (n : ℕ) (t u : SolverValue) → t ≡ start_of s n → (u.input ≡ t.input) × (u.vars ≡ t.vars)
    → IsOver (clauses_of s.entries) s.vars u
over-first s n t u e o = (o.0 ∙ ap (λ (w : SolverValue). w.input) e, o.1 ∙ ap (λ (w : SolverValue). w.vars) e)

-- the log at first settles no bit
pub none-first : (s : Clauses) (n : ℕ) (t : SolverValue) → t ≡ start_of s n → AllLines SettlesNone t.lines
none-first s n t e = subst (λ (w : SolverValue). AllLines SettlesNone w.lines) (sym e) (refl, tt)

-- a fact of the log is one of the clauses that the solver began with
pub moved : (P : ℕ → List (List Lit) → List Line → Type 0) (input : List (List Lit)) (vars : ℕ) (u : SolverValue) (ls : List Line)
    → IsOver input vars u → ls ≡ u.lines → P u.vars u.input u.lines → P vars input ls
moved P input vars u ls o e h = subst (λ x. P x input ls) o.1 (subst (λ y. P u.vars y ls) o.0 (subst (P u.vars u.input) (sym e) h))

-- after the last bit the model has the least bits, with a certificate
pub certified : (s : Clauses) (bits : List Lit) (budget n : ℕ) (u : SolverValue) (model : List Bool) (ls : List Line)
    → IsSearching bits budget n u → n ≡ length bits → IsLogOf u → AllOver u.vars u.known → IsOver (clauses_of s.entries) s.vars u
    → model ≡ u.model → ls ≡ u.lines ++ line.End ∷ [] →
    (length model ≡ s.vars) × MeetsAll (values_in model) s
    × IsCertificate s.vars (clauses_of s.entries) bits (bits_at (values_in model) bits) ls × AreOver s.vars ls × (learnt_in ls ≤ budget)
certified s bits budget n u model ls g end log r over m e =
    let w = values_in u.model in
    let h = subst (λ k. IsSearching bits budget k u) end g in
    let k = certificate bits budget u h log in
    let o = certificate-over bits budget u h log r in
    subst (λ y. (length y ≡ s.vars) × MeetsAll (values_in y) s
    × IsCertificate s.vars (clauses_of s.entries) bits (bits_at (values_in y) bits) ls × AreOver s.vars ls
    × (learnt_in ls ≤ budget)) (sym m) (
      g.whole ∙ over.1,
      (Meets-all w s.entries).1 (subst (AllTrue w) over.0 g.meets),
      subst (IsCertificate s.vars (clauses_of s.entries) bits (bits_at w bits)) (sym e)
          (subst (λ x. IsCertificate x (clauses_of s.entries) bits (bits_at w bits) (u.lines ++ line.End ∷ [])) over.1
          (subst (λ y. IsCertificate u.vars y bits (bits_at w bits) (u.lines ++ line.End ∷ [])) over.0 k)),
      subst (AreOver s.vars) (sym e) (subst (λ x. AreOver x (u.lines ++ line.End ∷ [])) over.1 o),
      subst (λ y. learnt_in y ≤ budget) (sym e) (let q = learnt_in-push u.lines line.End in let b = g.in_budget in omega (arith, q, b)),
    )
