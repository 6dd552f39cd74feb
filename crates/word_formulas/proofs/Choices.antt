-- The virtuals that an edge may name: each stands once.
use Rattle.std.proofs.Common.{◌≡◌, refl, sym, ap, ◌∙◌, Bool, true, false, cond, List, [], ◌∷◌, map, filter, Option, Some, None, Contains}
use Rattle.std.specs.List.{find}
use Rattle.std.specs.Option.{option_to_list}
use Rattle.std.specs.Str.{bytes_eq}
use Rattle.std.specs.Ordering.{is_eq, eq_by_cmp, ordering_reverse}
use Rattle.std.specs.declared.cmp.Ordering.{Ordering}
use Rattle.std.specs.declared.cmp.Ordering.TheVariants.{Less, Equal, Greater}
use Rattle.std.specs.Cmp.Lexicographic.{nat_list_cmp_total}
use Rattle.std.proofs.lemmas.Option.{none-some}
use Rattle.std.proofs.lemmas.List.Elements.{All-contains, filter_agree}
use Rattle.variant_values.specs.Texts.{byte_cmp}
use Rattle.variant_values.proofs.Texts.{ties_are_equal}
use Rattle.keyed_lists.specs.Keyed.{IsInOrder, find_key}
use Rattle.keyed_lists.proofs.OfReachability.CountLaws.{has_image}
use Rattle.keyed_lists.proofs.KeyedLaws.{find_none}
use Rattle.keyed_lists.proofs.Lent.{tells_alike}
use Rattle.keyed_lists.proofs.LookupLaws.{find_sound}
use Rattle.keyed_lists.proofs.RiseLaws.{rises_above, rises_rest, rises_none}
use Rattle.clause_store.specs.declared.Lit.{Lit}
use Rattle.graph_core.specs.Graphs.{Text}
use Rattle.graph_core.proofs.PairLaws.{pair_total, pair_exact}
use Rattle.literal_table.specs.Choices.{Choices, passing}
use Rattle.literal_table.specs.Tables.{Table, IsTable, ends_of_edge, edge_lits_of, virtual_choices, edge_virtuals, value_of}
use Rattle.literal_table.specs.declared.block.EdgeLits.{EdgeLits}

-- ---- choices in order

-- where none is found none passes
none-kept : {X : Type 0} (p : X → Bool) (xs : List X) → find p xs ≡ None → filter p xs ≡ []
none-kept p [] e = refl
none-kept p (x ∷ xs) e = by-test (p x) e (none-kept p xs)
  where
    by-test : (b : Bool) → cond b (Some x) (find p xs) ≡ None → (find p xs ≡ None → filter p xs ≡ [])
        → cond b (x ∷ filter p xs) (filter p xs) ≡ []
    by-test true e rest = absurd (none-some x (sym e))
    by-test false e rest = rest e

reversed-eq : (r : Ordering) → is_eq (ordering_reverse r) ≡ is_eq r
reversed-eq Less = refl
reversed-eq Equal = refl
reversed-eq Greater = refl

told-alike : (p q : Text) → bytes_eq p q ≡ eq_by_cmp byte_cmp q p
told-alike p q = sym (tells_alike p q) ∙ ap is_eq (nat_list_cmp_total.antisymm p q) ∙ reversed-eq (byte_cmp q p)

not-both : (r : Ordering) → r ≡ Less → r ≡ Equal → ⊥
not-both r less equal = let both : Less ≡ Equal = sym less ∙ equal in cc

module _ (text : Text) where
  abbrev pub has : Text × Lit → Bool
  has choice = eq_by_cmp byte_cmp choice.0 text

  in-order-kept : (choices : Choices Text) → IsInOrder byte_cmp value_of choices
      → filter has choices ≡ option_to_list (find_key byte_cmp value_of choices text)
  in-order-kept [] rising = refl
  in-order-kept (c ∷ cs) rising = by-order (byte_cmp c.0 text) refl
      (in-order-kept cs (rises_rest byte_cmp c.0 (map value_of cs) rising))
    where
      later : byte_cmp c.0 text ≡ Equal → (y : Text × Lit) → Contains cs y → byte_cmp y.0 text ≡ Equal → ⊥
      later tie y there is = not-both (byte_cmp c.0 y.0)
          (rises_above byte_cmp c.0 (map value_of cs) rising y.0 (has_image value_of cs y there))
          (ap (byte_cmp c.0) (ties_are_equal y.0 text is) ∙ tie)

      by-order : (r : Ordering) → byte_cmp c.0 text ≡ r → filter has cs ≡ option_to_list (find_key byte_cmp value_of cs text)
          → cond (is_eq r) (c ∷ filter has cs) (filter has cs) ≡ option_to_list (cond (is_eq r) (Some c) (find_key byte_cmp value_of cs text))
      by-order Less is rest = rest
      by-order Equal is rest = ap (λ l. c ∷ l) (none-kept has cs
          (find_none nat_list_cmp_total ties_are_equal value_of cs text (later is)))
      by-order Greater is rest = rest

  -- of choices in order the one that is found passes, and no other
  pub found-passes : (choices : Choices Text) → IsInOrder byte_cmp value_of choices
      → passing (bytes_eq text) choices ≡ option_to_list (find_key byte_cmp value_of choices text)
  found-passes choices rising =
      filter_agree (λ (c : Text × Lit). bytes_eq text c.0) has (λ c. told-alike text c.0) choices ∙ in-order-kept choices rising

-- ---- the virtuals of an edge

-- the virtuals that an edge may name stand in order
pub virtuals-in-order : (table : Table) → IsTable table → (parent child : Text) → IsInOrder byte_cmp value_of (edge_virtuals table parent child)
virtuals-in-order table is parent child = by-edge (edge_lits_of table parent child) refl
  where
    by-edge : (r : Option EdgeLits) → edge_lits_of table parent child ≡ r → IsInOrder byte_cmp value_of (virtual_choices r)
    by-edge None e = rises_none byte_cmp
    by-edge (Some d) e = All-contains (λ (x : EdgeLits). IsInOrder byte_cmp value_of x.virtuals) table.edges d is.virtuals
        (find_sound pair_total pair_exact ends_of_edge table.edges (parent, child) d e).0
