-- What parts of a graph have that literals spell: an edge a kind, and each what is offered.
use Rattle.std.proofs.Common.{◌≡◌, refl, ap, ◌∙◌, Bool, true, false, ℕ, List, [], ◌∷◌, Option, Some, None, inl, inr}
use Rattle.std.specs.Prelude.{if◌then◌else◌}
use Rattle.std.specs.List.{list_all}
use Rattle.std.proofs.lemmas.Bool.{cases_Bool}
use Rattle.clause_store.specs.Lits.{lit_true}
use Rattle.graph_core.specs.Graphs.{Text, Content, edge_of, ends_of}
use Rattle.graph_core.specs.declared.node.Edge.{Edge}
use Rattle.condition_rules.specs.Words.{is_one_text}
use Rattle.problem.specs.Nodes.{has_kind}
use Rattle.graph_rules.proofs.Lists.{In, list_all-from}
use Rattle.literal_table.specs.Choices.{Choices, chosen, choice_values}
use Rattle.literal_table.specs.Spells.{SpellsEdge, chosen_kinds}
use Rattle.literal_table.specs.declared.block.EdgeLits.{EdgeLits}
use Rattle.graph_formulas.proofs.Names.{found-ends}
use Rattle.graph_formulas.proofs.AllVariants.{among-In}

some-injective : {T : Type 0} {x y : T} → Some x ≡ Some y → x ≡ y
some-injective same = cc

-- a spelled edge has a kind
pub spelled-kind : (v : ℕ → Bool) (c : Option EdgeLits) (e : Edge) → SpellsEdge v c (Some e) → has_kind e.kinds ≡ true
spelled-kind v None e s = absurd (let none : Some e ≡ None = s in cc)
spelled-kind v (Some b) e s = spelled-kind-cases (has_kind (chosen_kinds v b)) refl s
  where
    spelled-kind-cases : (a : Bool) → has_kind (chosen_kinds v b) ≡ a → Some e.kinds ≡ (if a then Some (chosen_kinds v b) else None)
        → has_kind e.kinds ≡ true
    spelled-kind-cases true is same = let k : e.kinds ≡ chosen_kinds v b = some-injective same in ap has_kind k ∙ is
    spelled-kind-cases false is same = absurd (let none : Some e.kinds ≡ None = same in cc)

-- the child of an edge is at its place
pub edge-child : (graph : Content) (parent child : Text) (e : Edge) → edge_of graph parent child ≡ Some e → e.child ≡ child
edge-child graph parent child e here = ap (λ p. p.1) (found-ends ends_of graph.edges parent child e here).1

-- each text of a list is among them
pub all-among : (xs : List Text) → list_all (is_one_text xs) xs ≡ true
all-among xs = list_all-from (is_one_text xs) xs (λ x there. among-In xs x there)

one-more : {T : Type 0} (x y : T) (ys zs : List T) → (In x ys → In x zs) → In x (y ∷ ys) → In x (y ∷ zs)
one-more x y ys zs rest (inl same) = inl same
one-more x y ys zs rest (inr later) = inr (rest later)

-- what is chosen is offered
pub chosen-offered : {T : Type 0} (v : ℕ → Bool) (cs : Choices T) (x : T) → In x (chosen v cs) → In x (choice_values cs)
chosen-offered v [] x none = none
chosen-offered v (c ∷ cs) x there = elim (cases_Bool (lit_true v c.1)) [
  | inl t ↦ let here : In x (c.0 ∷ chosen v cs) = rw t at there in
      one-more x c.0 (chosen v cs) (choice_values cs) (chosen-offered v cs x) here
  | inr f ↦ let here : In x (chosen v cs) = rw f at there in inr (chosen-offered v cs x here)
]
