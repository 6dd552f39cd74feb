-- Lists of places, element by element.
use Rattle.std.proofs.Common.{◌≡◌, refl, sym, ap, ◌∙◌, Bool, true, false, not, ℕ, ◌+◌, ◌<◌, suc, arith, length, get_or, drop, drop-cons, append_assoc, List, [], ◌∷◌, ◌++◌, map, cond, Option, Some, None}
use Rattle.std.specs.List.{filter, flat_map, filter_map, list_any}
use Rattle.std.specs.Option.{unwrap_or}
use Rattle.spec_grammar.specs.declared.part.Spec.{Spec}
use Rattle.graph_core.specs.Graphs.{Text, Content}
use Rattle.graph_core.specs.declared.node.Node.{Node}
use Rattle.condition_rules.specs.Words.{is_some_and}
use Rattle.graph_rules.specs.Verdict.{Place, Asked, breaks_of, broken_roots, broken_or, first_broken, lesser_of, least}
use Rattle.graph_rules.specs.declared.rule.Rule.{Rule}
use Rattle.graph_rules.specs.declared.rule.Verdict.{Verdict}
use Rattle.graph_rules.specs.declared.rule.Verdict.TheVariants as verdicts
use Rattle.problem.specs.Problems.{Problem}
use Rattle.graph_rules.proofs.LeastLaws.{lesser_of-assoc}
use Rattle.graph_judge.specs.Places.{unless, found_of}
use Rattle.graph_judge.specs.Rows.{rows_places}

-- the places of those that fail the test, one after another
pub flat_unless : {X : Type 0} (test : X → Bool) (at : X → Place) (xs : List X)
    → flat_map (λ x. unless (test x) (at x)) xs ≡ map at (filter (λ x. not (test x)) xs)
flat_unless test at [] = refl
flat_unless test at (x ∷ xs) =
    let rest = flat_unless test at xs in
    elim (test x) as (λ b. unless b (at x) ++ flat_map (λ x. unless (test x) (at x)) xs
    ≡ map at (cond (not b) (x ∷ filter (λ x. not (test x)) xs) (filter (λ x. not (test x)) xs))) [
      | true ↦ rest
      | false ↦
          ap (λ l. at x ∷ l) rest
    ]

-- the same for rows of each
flat_map-same : {X Y : Type 0} (f g : X → List Y) → ((x : X) → f x ≡ g x) → (xs : List X) → flat_map f xs ≡ flat_map g xs
flat_map-same f g same [] = refl
flat_map-same f g same (x ∷ xs) = rw (same x, flat_map-same f g same xs) refl

-- the places of the rows that fail their test, node after node
pub rows_flat : {R : Type 0} (rows_at : Text → List R) (number : R → ℕ) (test : Node → R → Bool) (nodes : List Node)
    → rows_places rows_at number test nodes
    ≡ flat_map (λ node. map (λ row. let p : Place = (node.name, number row) in
    p) (filter (λ row. not (test node row)) (rows_at node.name))) nodes
rows_flat rows_at number test nodes =
    flat_map-same _ _ (λ node. flat_unless (test node) (λ row. let p : Place = (node.name, number row) in
    p) (rows_at node.name)) nodes

-- what is left of a list, one element further on
split : {X : Type 0} (xs : List X) (i : ℕ) (x : X) → i < length xs → x ≡ get_or xs i x → drop i xs ≡ x ∷ drop (i + 1) xs
split xs i x lt is =
    let next : suc i ≡ i + 1 = omega arith in
    drop-cons xs i x lt ∙ ap (λ y. y ∷ drop (suc i) xs) (sym is) ∙ ap (λ (n : ℕ). x ∷ drop n xs) next

-- ---- roots

roots_cons : (test : ℕ → Spec → Bool) (place : ℕ) (spec : Spec) (more : List Spec)
    → broken_roots test place (spec ∷ more) ≡ unless (test place spec) (unwrap_or spec.top.name [], place)
    ++ broken_roots test (place + 1) more
roots_cons test place spec more =
    elim (test place spec) as (λ b. cond b (broken_roots test (place + 1) more)
    ((unwrap_or spec.top.name [], place) ∷ broken_roots test (place + 1) more) ≡ unless b (unwrap_or spec.top.name [], place)
    ++ broken_roots test (place + 1) more) [ true ↦ refl | false ↦ refl ]

-- one root more was gone over
pub roots_step : (test : ℕ → Spec → Bool) (specs : List Spec) (i : ℕ) (spec : Spec) (acc more whole : List Place) → i < length specs
    → spec ≡ get_or specs i spec
    → more ≡ acc ++ unless (test i spec) (unwrap_or spec.top.name [], i) → acc ++ broken_roots test i (drop i specs) ≡ whole
    → more ++ broken_roots test (i + 1) (drop (i + 1) specs) ≡ whole
roots_step test specs i spec acc more whole lt is grown before =
    let here = unless (test i spec) (unwrap_or spec.top.name [], i) in
    ap (λ l. l ++ broken_roots test (i + 1) (drop (i + 1) specs)) grown
    ∙ append_assoc acc here (broken_roots test (i + 1) (drop (i + 1) specs))
    ∙ ap (λ l. acc ++ l) (sym (ap (broken_roots test i) (split specs i spec lt is) ∙ roots_cons test i spec (drop (i + 1) specs))) ∙ before

-- ---- the least

-- one place more was compared
pub least_step : (places : List Place) (i : ℕ) (p : Place) (best more whole : Option Place) → i < length places → p ≡ get_or places i p
    → more ≡ lesser_of best (Some p) → lesser_of best (least (drop i places)) ≡ whole → lesser_of more (least (drop (i + 1) places)) ≡ whole
least_step places i p best more whole lt is grown before =
    ap (λ o. lesser_of o (least (drop (i + 1) places))) grown ∙ lesser_of-assoc best (Some p) (least (drop (i + 1) places))
    ∙ ap (λ l. lesser_of best (least l)) (sym (split places i p lt is)) ∙ before

-- ---- numbers of demands

-- a test of some of what is given is one of some that give it
pub any-filter_map : {X Y : Type 0} (test : Y → Bool) (f : X → Option Y) (xs : List X)
    → list_any test (filter_map f xs) ≡ list_any (λ x. is_some_and (f x) test) xs
any-filter_map test f [] = refl
any-filter_map test f (x ∷ xs) =
    let rest = any-filter_map test f xs in
    elim (f x) as (λ o. f x ≡ o → list_any test (filter_map f (x ∷ xs)) ≡ list_any (λ x. is_some_and (f x) test) (x ∷ xs)) [
      | None ↦ λ e. rw (e) rest
      | Some y ↦ λ e. rw (e, rest) refl
    ] refl

-- ---- the first broken rule

-- a rule that is broken is the first
pub first_said : (made : Asked) (problem : Problem) (graph : Content) (rules : List Rule) (i : ℕ) (rule : Rule) (said whole : Verdict)
    → i < length rules → rule ≡ get_or rules i rule
    → Some said ≡ found_of rule (least (breaks_of made rule problem graph)) → first_broken made (drop i rules) problem graph ≡ whole
    → said ≡ whole
first_said made problem graph rules i rule said whole lt is found before =
    told (least (breaks_of made rule problem graph)) found ∙ ap (λ l. first_broken made l problem graph) (sym (split rules i rule lt is))
    ∙ before
  where
    told : (o : Option Place) → Some said ≡ found_of rule o → said ≡ broken_or rule o (first_broken made (drop (i + 1) rules) problem graph)
    told None e = absurd (let no : Some said ≡ None = e in cc)
    told (Some p) e = cc

-- a rule that is kept leaves the verdict to those behind it
pub first_later : (made : Asked) (problem : Problem) (graph : Content) (rules : List Rule) (i : ℕ) (rule : Rule) (whole : Verdict)
    → i < length rules → rule ≡ get_or rules i rule
    → None ≡ found_of rule (least (breaks_of made rule problem graph)) → first_broken made (drop i rules) problem graph ≡ whole
    → first_broken made (drop (i + 1) rules) problem graph ≡ whole
first_later made problem graph rules i rule whole lt is found before =
    told (least (breaks_of made rule problem graph)) found ∙ ap (λ l. first_broken made l problem graph) (sym (split rules i rule lt is))
    ∙ before
  where
    told : (o : Option Place) → None ≡ found_of rule o
        → first_broken made (drop (i + 1) rules) problem graph ≡ broken_or rule o (first_broken made (drop (i + 1) rules) problem graph)
    told None e = refl
    told (Some p) e = absurd (let no : None ≡ Some (verdicts.Broken rule p.0 p.1) = e in cc)
