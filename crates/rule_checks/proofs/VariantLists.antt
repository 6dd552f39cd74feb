-- Lists of variants are the same by their texts exactly where they are one.
use Rattle.std.proofs.Common.{◌≡◌, refl, sym, subst, Bool, true, false, List, [], ◌∷◌, ◌↔◌, IsTrue}
use Rattle.std.specs.Str.{bytes_eq}
use Rattle.std.specs.Cmp.Lexicographic.{pointwise}
use Rattle.std.proofs.lemmas.Bool.{and_from}
use Rattle.graph_core.specs.Graphs.{Text}
use Rattle.graph_rules.specs.Kept.{Variants, same_variants}
use Rattle.graph_rules.proofs.Lists.{bytes_eq-itself}
use Rattle.graph_rules.proofs.KeptLaws.{variants-same}

texts-themselves : (texts : List Text) → pointwise bytes_eq texts texts ≡ true
texts-themselves [] = refl
texts-themselves (text ∷ more) = and_from _ _ (bytes_eq-itself text) (texts-themselves more)

variants-themselves : (a : Variants) → same_variants a a ≡ true
variants-themselves [] = refl
variants-themselves (v ∷ more) = and_from _ _ (and_from _ _ (bytes_eq-itself v.0) (texts-themselves v.1)) (variants-themselves more)

-- a test that decides equality of variants is that of the book
pub variants-decide : (r : Bool) (a b : Variants) → (IsTrue r ↔ (a ≡ b)) → r ≡ same_variants a b
variants-decide true a b h = sym (subst (λ c. same_variants a c ≡ true) (h.0 refl) (variants-themselves a))
variants-decide false a b h =
    elim (same_variants a b) as (λ s. same_variants a b ≡ s → false ≡ s) [
      | true ↦ λ is. h.1 (variants-same a b is)
      | false ↦ λ is. refl
    ] refl
