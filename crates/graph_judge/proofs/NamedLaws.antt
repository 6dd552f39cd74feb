-- A graph stays one where only the virtuals of its edges change; what rows add to these, row by row.
use Rattle.std.proofs.Common.{◌≡◌, refl, sym, ap, subst, ◌∙◌, Bool, true, false, ◌&&◌, List, [], ◌∷◌, ◌++◌, map, cond, Option, Some, None}
use Rattle.std.specs.List.{filter, filter_map, flat_map, cons_option}
use Rattle.std.specs.Option.{option_to_list}
use Rattle.std.proofs.lemmas.List.Elements.{All-contains}
use Rattle.reachability.proofs.CountLaws.{image_of}
use Rattle.keyed_lists.proofs.RiseLaws.{all_from}
use Rattle.graph_core.specs.Graphs.{Text, Content, HasNode, IsGraph, ends_of, pair_cmp}
use Rattle.graph_core.specs.declared.node.Edge.{Edge}
use Rattle.graph_core.specs.declared.node.Node.{Node}
use Rattle.std.specs.List.Sorted.{IsStrictlySortedBy}
use Rattle.recipe_data.specs.declared.recipe.DependRow.{DependRow}
use Rattle.problem.specs.Problems.{Problem}
use Rattle.graph_rules.specs.Built.{asks}
use Rattle.graph_rules.specs.Named.{is_on_virtual}
use Rattle.graph_judge.specs.Answered.{answered}

module _ (f : Edge → Edge) (same : (e : Edge) → ends_of (f e) ≡ ends_of e) where
  ends_stay : (es : List Edge) → map ends_of (map f es) ≡ map ends_of es
  ends_stay [] = refl
  ends_stay (e ∷ es) = λ i. same e i ∷ ends_stay es i

  pub still_graph : (g : Content) → IsGraph g → IsGraph (record g { edges = map f g.edges })
  still_graph g is = record {
    nodes = is.nodes;
    edges = subst (IsStrictlySortedBy pair_cmp) (sym (ends_stay g.edges)) is.edges;
    providers = is.providers;
    parents = all_from (λ (e : Edge). HasNode g e.parent) (map f g.edges) (λ e has.
        let from = image_of f g.edges e has in
        subst (HasNode g) (ap (λ (p : Text × Text). p.0) (sym (same from.0)) ∙ ap (λ (x : Edge). x.parent) from.2)
        (All-contains (λ (x : Edge). HasNode g x.parent) g.edges from.0 is.parents from.1));
    children = all_from (λ (e : Edge). HasNode g e.child) (map f g.edges) (λ e has.
        let from = image_of f g.edges e has in
        subst (HasNode g) (ap (λ (p : Text × Text). p.1) (sym (same from.0)) ∙ ap (λ (x : Edge). x.child) from.2)
        (All-contains (λ (x : Edge). HasNode g x.child) g.edges from.0 is.children from.1));
    packages = is.packages;
  }

-- ---- rows

pub cons_is : {X : Type 0} (o : Option X) (xs : List X) → option_to_list o ++ xs ≡ cons_option o xs
cons_is None xs = refl
cons_is (Some x) xs = refl

-- what passes two tests, row by row
module _ {R X : Type 0} (p q : R → Bool) (f : R → Option X) where
  by_row : (row : R) (rest : List R) → cond (p row && q row) (option_to_list (f row)) [] ++ filter_map f (filter p (filter q rest))
      ≡ filter_map f (filter p (filter q (row ∷ rest)))
  by_row row rest =
      let kept = filter q rest in
      let more = filter_map f (filter p kept) in
      elim (q row) as (λ b. cond (p row && b) (option_to_list (f row)) [] ++ more ≡ filter_map f (filter p (cond b (row ∷ kept) kept))) [
        | true ↦
            elim (p row) as (λ a. cond (a && true) (option_to_list (f row)) []
            ++ more ≡ filter_map f (cond a (row ∷ filter p kept) (filter p kept)))
            [ true ↦ cons_is (f row) more | false ↦ refl ]
        | false ↦ elim (p row) as (λ a. cond (a && false) (option_to_list (f row)) [] ++ more ≡ more) [ true ↦ refl | false ↦ refl ]
      ]

  pub by_rows : (rows : List R) → flat_map (λ row. cond (p row && q row) (option_to_list (f row)) []) rows
      ≡ filter_map f (filter p (filter q rows))
  by_rows [] = refl
  by_rows (row ∷ rest) =
      ap (λ l. cond (p row && q row) (option_to_list (f row)) [] ++ l) (by_rows rest) ∙ by_row row rest

-- the virtuals that rows add are those of the rows that hold, ask for the child and are on one
pub answered_are : (problem : Problem) (graph : Content) (node : Node) (child : Text) (rows : List DependRow)
    → flat_map (answered problem graph node child) rows
    ≡ filter_map (λ row. row.part.name) (filter (is_on_virtual problem) (filter (asks problem graph node child) rows))
answered_are problem graph node child rows =
    by_rows (is_on_virtual problem) (asks problem graph node child) (λ row. row.part.name) rows
