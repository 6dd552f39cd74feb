-- What a round shows.
use Rattle.std.proofs.Common.{◌≡◌, ℕ, ◌+◌, ◌/◌, ◌^◌, ◌<◌, ◌≤◌, Bool, true, ◌||◌, List, [], ◌∷◌, drop, length, Some, None, refl, sym, ◌∙◌, subst, ap, arith}
use Rattle.std.specs.List.{filter}
use Rattle.clause_store.specs.Clauses.{Clauses, clauses_of, Meets}
use Rattle.clause_solver.specs.Models.{values_in}
use Rattle.optimum_search.specs.Finding.{MeetsAll}
use Rattle.proof_log.specs.declared.line.Line.{Line}
use Rattle.proof_log.specs.Certificates.{IsSpentLog}
use Rattle.explain_failure.specs.Uses.{stands, IsRising}
use Rattle.explain_failure.specs.Rising.{with_number}
use Rattle.reason_minimum.specs.Parts.{clauses_for, without_number, AreAll}
use Rattle.reason_minimum.specs.Least.{IsSpentFor}
use Rattle.reason_minimum.specs.declared.reduction.Reduction.{Reduction}
use Rattle.reason_minimum.specs.Reductions.{in_either, in_rest, left_of, all_but, IsModelFor, AreModels, IsReduction, Reduces, IsNeeded}
use Rattle.reason_minimum.proofs.Parting.{Meets-less, Meets-part, part-all}
use Rattle.reason_minimum.proofs.Reducing.{reduction-first, reduction-kept, reduction-settled, reduction-spent, needed-first, needed-broken, kept-shorter, without-shorter}

-- a model of the clauses of the rest is one of what the rest asks for
pub model-rest : (s part : Clauses) (rest : List ℕ) (asked : ℕ → Bool) (m : List Bool) → part ≡ clauses_for rest s
    → ((d : ℕ) → stands rest d ≡ asked d) → length m ≡ part.vars → MeetsAll (values_in m) part → IsModelFor s asked m
model-rest s part rest asked m q k w i =
    let own : MeetsAll (values_in m) (clauses_for rest s) = subst (λ (t : Clauses). MeetsAll (values_in m) t) q i in (
      w ∙ ap (λ (t : Clauses). t.vars) q,
      Meets-less (stands rest) asked (values_in m) s.entries (λ d h. k d ∙ h) ((Meets-part s rest (values_in m)).0 own),
    )

-- the rest was refuted
pub kept-round : (s : Clauses) (old new : Reduction) (count : ℕ) (rest core : List ℕ) → Reduces s old → 0 < count
    → count ≤ length old.candidates.items → ((d : ℕ) → stands rest d ≡ in_rest old count d)
    → ((v : ℕ → Bool) → Meets (stands core) v (clauses_for rest s).entries → ⊥)
    → new.candidates.items ≡ filter (stands core) (drop count old.candidates.items) → new.needed.items ≡ old.needed.items
    → new.models.items ≡ old.models.items → new.several ≡ old.several → Reduces s new × (left_of new < left_of old)
kept-round s old new count rest core r some within e u qc qn qm qs =
    let ns = old.needed.items in
    let ms = old.models.items in
    let cs = old.candidates.items in
    let one = reduction-kept s ns ms cs r count rest core e u in
    let two = subst (λ xs. IsReduction s ns ms xs) (sym qc) one in
    let three = subst (λ xs. IsReduction s ns xs new.candidates.items) (sym qm) two in
    let less : length (filter (stands core) (drop count cs)) < length cs = kept-shorter (stands core) cs count some within in
    let same : length new.candidates.items ≡ length (filter (stands core) (drop count cs)) = ap length qc in (
      subst (λ xs. IsReduction s xs new.models.items new.candidates.items) (sym qn) three,
      omega (arith, less, same, qs),
    )

-- a candidate was settled
pub settled-less : (old new : Reduction) (d : ℕ) → stands old.candidates.items d ≡ true
    → new.candidates.items ≡ without_number d old.candidates.items → new.several ≡ old.several → left_of new < left_of old
settled-less old new d h qc qs =
    let less : length (without_number d old.candidates.items) < length old.candidates.items = without-shorter d old.candidates.items h in
    let same : length new.candidates.items ≡ length (without_number d old.candidates.items) = ap length qc in omega (arith, less, same, qs)

-- it is put in its place with its model
pub settled-reduces : (s : Clauses) (ns ns' cs cs' : List ℕ) (ms ms' : List (List Bool)) (d : ℕ) (m : List Bool) → IsReduction s ns ms cs
    → (stands cs d ≡ true) × IsModelFor s (all_but (in_either ns cs) d) m → ns' ≡ with_number ns d → AreModels s (in_either ns cs) ns' ms'
    → cs' ≡ without_number d cs → IsReduction s ns' ms' cs'
settled-reduces s ns ns' cs cs' ms ms' d m r i qn models qc =
    let placed = subst (λ (xs : List ℕ). AreModels s (in_either ns cs) xs ms') qn models in
    subst (λ (xs : List ℕ). IsReduction s ns' ms' xs) (sym qc) (reduction-settled s ns ms cs r d m i.0 i.1 ns' ms' qn placed)

-- the first candidate is needed, where it alone is left out
pub first-needed : (s : Clauses) (old : Reduction) (count d : ℕ) (m : List Bool) → old.candidates.items ≡ d ∷ drop 1 old.candidates.items
    → count ≡ 1 → IsModelFor s (in_rest old count) m → IsNeeded s old m d
first-needed s old count d m first one i =
    needed-first s old.needed.items old.candidates.items m d first (subst (λ n. IsModelFor s (in_rest old n) m) one i)

-- a candidate is needed, where a model breaks it alone
pub broken-needed : (s : Clauses) (old : Reduction) (all : List ℕ) (count d : ℕ) (m : List Bool)
    → ((e : ℕ) → stands all e ≡ (stands old.needed.items e || stands old.candidates.items e)) → IsModelFor s (in_rest old count) m
    → Meets (all_but (stands all) d) (values_in m) s.entries → stands old.candidates.items d ≡ true → IsNeeded s old m d
broken-needed s old all count d m k i b h = (h, needed-broken s old.needed.items old.candidates.items all m d k i.0 b)

-- the budget was spent with one candidate left out
pub one-spent : (s : Clauses) (old : Reduction) (budget count d : ℕ) (rest : List ℕ) (log : List Line) → Reduces s old
    → old.candidates.items ≡ d ∷ drop 1 old.candidates.items → count ≡ 1 → IsRising rest → ((e : ℕ) → stands rest e ≡ in_rest old count e)
    → IsSpentLog s.vars (clauses_of (clauses_for rest s).entries) [] budget log → budget < 3 ^ s.vars → budget < length log
    → IsSpentFor s budget rest (Some d) log
one-spent s old budget count d rest log r first one rising k spent below_all below_lines = record {
  rising = rising;
  spent = spent;
  below_all = below_all;
  below_lines = below_lines;
  on_the_way = reduction-spent s old.needed.items old.models.items old.candidates.items r rest d first
      (λ e. k e ∙ ap (λ n. in_rest old n e) one);
}

-- or over all clauses
pub all-spent : (s : Clauses) (budget : ℕ) (ds : List ℕ) (log : List Line) → IsRising ds → AreAll s ds
    → IsSpentLog s.vars (clauses_of s.entries) [] budget log → budget < 3 ^ s.vars → budget < length log → IsSpentFor s budget ds None log
all-spent s budget ds log rising are spent below_all below_lines = record {
  rising = rising;
  spent = subst (λ (t : Clauses). IsSpentLog s.vars (clauses_of t.entries) [] budget log) (sym (part-all s ds are)) spent;
  below_all = below_all;
  below_lines = below_lines;
  on_the_way = are;
}

-- half as many are fewer
pub half-less : (n several count : ℕ) → 1 < count → count ≤ several → n + count / 2 < n + several
half-less n several count h w = omega (arith, h, w)

-- at first all demands are candidates
pub began : (s : Clauses) (r : Reduction) (ds : List ℕ) → r.needed.items ≡ [] → r.models.items ≡ [] → r.candidates.items ≡ ds → IsRising ds
    → ((v : ℕ → Bool) → Meets (stands ds) v s.entries → ⊥) → Reduces s r
began s r ds qn qm qc rising unmet =
    let one = reduction-first s ds rising unmet in
    let two = subst (λ (cs : List ℕ). IsReduction s [] [] cs) (sym qc) one in
    let three = subst (λ (ms : List (List Bool)). IsReduction s [] ms r.candidates.items) (sym qm) two in
    subst (λ (ns : List ℕ). IsReduction s ns r.models.items r.candidates.items) (sym qn) three

-- a list without numbers
pub none-left : (xs : List ℕ) → length xs ≡ 0 → xs ≡ []
none-left [] h = refl
none-left (x ∷ xs) h = absurd (omega (arith, h))
