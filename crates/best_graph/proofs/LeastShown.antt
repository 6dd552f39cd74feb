-- What a least list of demands shows of the graphs of a problem.
use Rattle.std.proofs.Common.{◌≡◌, ◌↔◌, refl, sym, subst, ap, ◌∙◌, ℕ, ◌+◌, ◌-◌, ◌<◌, length, get_or, zero, suc, Bool, true, false, List, [], ◌∷◌, Option, Some, None, All, map, inl, inr, cond, arith}
use Rattle.std.specs.Prelude.{slice_get, filter_map}
use Rattle.std.specs.List.{list_all, cons_option}
use Rattle.std.proofs.Math.Dec.{eqb}
use Rattle.std.proofs.lemmas.List.Elements.{All-nil, All-cons}
use Rattle.std.proofs.lemmas.Bool.{and_parts, and_from, eq-eqb, or_left, or_right}
use Rattle.clause_store.specs.Clauses.{Clauses, Meets}
use Rattle.clause_solver.specs.Models.{values_in}
use Rattle.proof_log.specs.declared.line.Line.{Line}
use Rattle.explain_failure.specs.Uses.{stands}
use Rattle.optimum_search.specs.Finding.{MeetsAll}
use Rattle.reason_minimum.specs.Parts.{clauses_for, without_number}
use Rattle.reason_minimum.specs.Least.{IsModel, IsUnmet, HaveModels, IsMinimal, IsOnTheWay, IsSpentFor}
use Rattle.graph_core.specs.Graphs.{Content}
use Rattle.graph_decoding.specs.Decoding.{decode, IsStructured}
use Rattle.problem.specs.Nodes.{IsWellFormed}
use Rattle.problem.specs.Problems.{Problem}
use Rattle.problem.specs.Demands.{demands, demands_at}
use Rattle.problem.specs.declared.demand.Demand.{Demand}
use Rattle.graph_rules.specs.Valid.{valid, valid_for, keeps_all, keeps_demand, structure_rules}
use Rattle.graph_rules.specs.Optimal.{HasNoGraph}
use Rattle.graph_rules.proofs.Lists.{In, list_all-each, list_all-from}
use Rattle.graph_rules.proofs.ValidLaws.{valid-for_any}
use Rattle.graph_levels.specs.Rules.{asked_among}
use Rattle.graph_encoding.specs.Encodings.{asked_demands}
use Rattle.problem_encoding.specs.Encodings.{RulesDecode}
use Rattle.problem_encoding.specs.Built.{rule_clauses, table_of}
use Rattle.best_graph.proofs.Least.{all, valid-is}
use Rattle.best_graph.proofs.Asked.{asked_at}
use Rattle.best_graph.proofs.ReasonsShown.{HasModels}
use Rattle.best_graph.specs.Explanations.{HasGraph}
use Rattle.best_graph.specs.Explanations as explanations
use Rattle.best_graph.specs.LeastLists.{IsValidFor, HaveGraphs, IsLeastList, AreOpen, IsSpentOn}

-- what holds of each holds of the one at a place
pub all_at : {X : Type 0} (P : X → Type 0) (xs : List X) (i : ℕ) (x : X) → All P xs → i < length xs → x ≡ get_or xs i x → P x
all_at P xs i x all lt is = subst P (sym is) (all i x lt)

-- ---- demands by their numbers

module _ {D : Type 0} where
  -- what stands at a place that is asked for is among what is asked for
  asked_there : (asked : ℕ → Bool) (rest : List D) (k i : ℕ) (d : D) → asked (k + i) ≡ true → slice_get rest i ≡ Some d
      → In d (asked_among asked k rest)
  asked_there asked [] k i d is found = absurd (cc)
  asked_there asked (x ∷ xs) k zero d is found =
      let e : k + 0 ≡ k = omega arith in
      let here : asked k ≡ true = ap asked (sym e) ∙ is in
      rw here (inl (let same : Some x ≡ Some d = found in let q : x ≡ d = cc in sym q))
  asked_there asked (x ∷ xs) k (suc i) d is found =
      let e : k + suc i ≡ (k + 1) + i = omega arith in
      let later = asked_there asked xs (k + 1) i d (ap asked (sym e) ∙ is) found in
      elim (asked k) as (λ b. In d (cond b (x ∷ asked_among asked (k + 1) xs) (asked_among asked (k + 1) xs))) [
        | true ↦ inr later
        | false ↦ later
      ]

  -- what has the first of some numbers, or one of the others
  numbered_first : (every rest : List D) (asked : ℕ → Bool) (n : ℕ) (d : D) (o : Option D) → slice_get every n ≡ o → asked n ≡ true
      → (In d rest → In d (asked_among asked 0 every)) → In d (cons_option o rest) → In d (asked_among asked 0 every)
  numbered_first every rest asked n d None e is later there = later there
  numbered_first every rest asked n d (Some x) e is later (inl same) =
      let z : 0 + n ≡ n = omega arith in asked_there asked every 0 n d (ap asked z ∙ is) (e ∙ ap Some (sym same))
  numbered_first every rest asked n d (Some x) e is later (inr there) = later there

  -- what has one of the numbers is asked for
  numbered_in : (every : List D) (asked : ℕ → Bool) (numbers : List ℕ) (d : D) → ((n : ℕ) → stands numbers n ≡ true → asked n ≡ true)
      → In d (filter_map (slice_get every) numbers) → In d (asked_among asked 0 every)
  numbered_in every asked [] d is none = absurd none
  numbered_in every asked (n ∷ ns) d is there =
      numbered_first every (filter_map (slice_get every) ns) asked n d (slice_get every n) refl
      (is n (or_left (eqb n n) (stands ns n) (eq-eqb n n refl)))
      (numbered_in every asked ns d (λ m h. is m (or_right (eqb n m) (stands ns m) h))) there

-- a graph is valid for fewer demands
valid-fewer : (problem : Problem) (some others : List Demand) (g : Content) → ((d : Demand) → In d others → In d some)
    → valid_for some problem g ≡ true → valid_for others problem g ≡ true
unfolding valid_for
valid-fewer problem some others g among ok =
    let p = and_parts (keeps_all structure_rules problem g) (list_all (keeps_demand problem g) some) ok in
    and_from (keeps_all structure_rules problem g) (list_all (keeps_demand problem g) others) p.0
    (list_all-from (keeps_demand problem g) others (λ d there. list_all-each (keeps_demand problem g) some d p.1 (among d there)))

-- ---- what is shown

-- an assignment meets the clauses of some demands exactly where it meets what these ask for
abbrev pub MeetsParts : Type 0
MeetsParts = (s : Clauses) (ds : List ℕ) (v : ℕ → Bool) → MeetsAll v (clauses_for ds s) ↔ Meets (stands ds) v s.entries

-- what meets the clauses of the rules for some demands meets the structure of the table, so that it
-- may be decoded
abbrev pub IsStructuredFor : Problem → Type 0
IsStructuredFor problem = (asked v : ℕ → Bool) → Meets asked v (rule_clauses problem).entries → IsStructured v (table_of problem)

module _ (problem : Problem) (decodes : RulesDecode problem) (parts : MeetsParts) where
  abbrev own : Clauses
  own = rule_clauses problem

  abbrev pub said_by : List Bool → Content
  said_by model = decode (values_in model) (table_of problem)

  -- a model of all clauses decodes to a valid graph
  pub least-satisfiable : (model : List Bool) → IsModel own model → HasGraph problem
  least-satisfiable model is =
      let right = decodes.sound all (values_in model) is.1 in
      record { graph = said_by model; well_formed = right.0; is_valid = valid-is problem (said_by model) right }

  -- a model of the clauses of some demands decodes to a graph that is valid for them
  graph-for : (numbers : List ℕ) (model : List Bool) → IsModel (clauses_for numbers own) model → IsValidFor problem numbers (said_by model)
  graph-for numbers model is =
      let right = decodes.sound (stands numbers) (values_in model) ((parts own numbers (values_in model)).0 is.1) in
      record {
        well_formed = right.0;
        is_valid = valid-fewer problem (asked_demands problem (stands numbers)) (demands_at problem numbers) (said_by model)
            (λ d there. numbered_in (demands problem) (stands numbers) numbers d (λ n h. h) there) right.1;
      }

  graphs-for : (all_of ns : List ℕ) (models : List (List Bool)) → HaveModels own all_of ns models
      → HaveGraphs problem all_of ns (map said_by models)
  graphs-for all_of [] [] are = tt
  graphs-for all_of [] (m ∷ ms) are = are
  graphs-for all_of (n ∷ ns) [] are = are
  graphs-for all_of (n ∷ ns) (m ∷ ms) are = (graph-for (without_number n all_of) m are.0, graphs-for all_of ns ms are.1)

  -- where no assignment meets their clauses, no graph is valid for them
  unmet-for : HasModels → (numbers : List ℕ) → IsUnmet (clauses_for numbers own) → explanations.IsUnmet problem numbers
  unmet-for has_models numbers unmet = record { alone = alone; none = none }
    where
      alone : (g : Content) → IsWellFormed g → valid_for (demands_at problem numbers) problem g ≡ true → ⊥
      alone g well ok =
          let w = has_models problem own (λ v. decode v (table_of problem)) (demands_at problem numbers) (stands numbers) g decodes well ok
          (asked_at problem numbers) in
          unmet w.0 ((parts own numbers w.0).1 w.2)

      none : HasNoGraph problem
      none g well = by-bool (valid problem g) refl
        where
          by-bool : (b : Bool) → valid problem g ≡ b → b ≡ false
          by-bool true ok = absurd (alone g well (valid-for_any problem g (demands_at problem numbers) ok))
          by-bool false ok = refl

  pub least-list : HasModels → (numbers : List ℕ) (models : List (List Bool)) → IsMinimal own numbers models
      → IsLeastList problem numbers (map said_by models)
  least-list has_models numbers models is = record {
    rising = is.rising;
    unmet = unmet-for has_models numbers is.unmet;
    each_needed = graphs-for numbers numbers models is.each_needed;
  }

  -- each of these models may be decoded
  pub models-structured : IsStructuredFor problem → (all_of ns : List ℕ) (models : List (List Bool)) → HaveModels own all_of ns models
      → All (λ model. IsStructured (values_in model) (table_of problem)) models
  models-structured structured all_of [] [] are = All-nil (λ model. IsStructured (values_in model) (table_of problem))
  models-structured structured all_of [] (m ∷ ms) are = absurd are
  models-structured structured all_of (n ∷ ns) [] are = absurd are
  models-structured structured all_of (n ∷ ns) (m ∷ ms) are = All-cons (λ model. IsStructured (values_in model) (table_of problem)) m ms
      (structured (stands (without_number n all_of)) (values_in m) ((parts own (without_number n all_of) (values_in m)).0 are.0.1))
      (models-structured structured all_of ns ms are.1)

  -- a spent budget
  pub least-spent : HasModels → (budget : ℕ) (numbers : List ℕ) (more : Option ℕ) (log : List Line) → IsSpentFor own budget numbers more log
      → IsSpentOn problem budget numbers log
  least-spent has_models budget numbers more log is = record {
    rising = is.rising;
    spent = is.spent;
    small = is.below_all;
    are_open = by-option more is.on_the_way;
  }
    where
      by-option : (o : Option ℕ) → IsOnTheWay own numbers o → AreOpen problem numbers
      by-option None are = inl are
      by-option (Some d) is = inr (d, is.0, unmet-for has_models (d ∷ numbers) is.1)
