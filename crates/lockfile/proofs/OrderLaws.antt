-- Dependencies in the order of their hashes: what is written is the same.
use Rattle.std.proofs.Common.{◌≡◌, refl, sym, ap, subst, ◌∙◌, List, [], ◌∷◌, map, fold, All}
use Rattle.std.specs.Ordering.{match_ordering}
use Rattle.std.specs.declared.cmp.Ordering.{Ordering}
use Rattle.std.specs.declared.cmp.Ordering.TheVariants.{Less, Equal, Greater}
use Rattle.std.proofs.lemmas.List.Elements.{All-contains}
use Rattle.std.specs.Prelude.{Contains}
use Rattle.keyed_lists.specs.Keyed.{IsInOrder}
use Rattle.keyed_lists.proofs.RiseLaws.{all_from, rises_none}
use Rattle.reachability.proofs.CountLaws.{first_or_later, has_first, has_later}
use Rattle.std.proofs.Common.{◌⊎◌, inl, inr, ⊎_elim, ◌↔◌}
use Rattle.variant_values.specs.Texts.{byte_cmp, with_text}
use Rattle.variant_values.proofs.Keys.{lacks_all}
use Rattle.variant_values.proofs.Texts.{ties_are_equal, with_text_in_order}
use Rattle.serde_json.specs.Data.{Members, member, put}
use Rattle.graph_core.specs.Graphs.{Text}
use Rattle.reuse_db.specs.Canonical.{dependency_data, dependency_members}
use Rattle.reuse_db.specs.declared.record.Dependency.{Dependency}
use Rattle.lockfile.specs.Again.{by_hash, placed}
use Rattle.lockfile.proofs.WrittenLaws.{members_by, written}

abbrev hash_in : Dependency → Text
hash_in d = d.hash

abbrev listed : List Dependency → Members
listed = members_by hash_in dependency_data

put_listed : (d : Dependency) (es : List Dependency) → put d.hash (dependency_data d) (listed es) ≡ listed (placed d es)
put_listed d [] = refl
put_listed d (e ∷ es) = put_listed-cases (byte_cmp d.hash e.hash) refl (put_listed d es)
  where
    put_listed-cases : (r : Ordering) → byte_cmp d.hash e.hash ≡ r → put d.hash (dependency_data d) (listed es) ≡ listed (placed d es)
        → match_ordering r (member d.hash (dependency_data d) (listed (e ∷ es))) (member e.hash (dependency_data d) (listed es))
        (member e.hash (dependency_data e) (put d.hash (dependency_data d) (listed es)))
        ≡ listed (match_ordering r (d ∷ e ∷ es) (d ∷ es) (e ∷ placed d es))
    put_listed-cases Less is rest = refl
    put_listed-cases Equal is rest = ap (λ key. member key (dependency_data d) (listed es)) (sym (ties_are_equal d.hash e.hash is))
    put_listed-cases Greater is rest = ap (member e.hash (dependency_data e)) rest

folded : (es ds : List Dependency) → fold (λ ms d. put d.hash (dependency_data d) ms) (listed es) ds
    ≡ listed (fold (λ sorted d. placed d sorted) es ds)
folded es [] = refl
folded es (d ∷ ds) = ap (λ ms. fold (λ ms d. put d.hash (dependency_data d) ms) ms ds) (put_listed d es) ∙ folded (placed d es) ds

keys_placed : (d : Dependency) (es : List Dependency) → map hash_in (placed d es) ≡ with_text (map hash_in es) d.hash
keys_placed d [] = refl
keys_placed d (e ∷ es) = keys_placed-cases (byte_cmp d.hash e.hash) refl (keys_placed d es)
  where
    keys_placed-cases : (r : Ordering) → byte_cmp d.hash e.hash ≡ r → map hash_in (placed d es) ≡ with_text (map hash_in es) d.hash
        → map hash_in (match_ordering r (d ∷ e ∷ es) (d ∷ es) (e ∷ placed d es)) ≡ match_ordering r (d.hash ∷ e.hash ∷ map hash_in es)
        (e.hash ∷ map hash_in es) (e.hash ∷ with_text (map hash_in es) d.hash)
    keys_placed-cases Less is rest = refl
    keys_placed-cases Equal is rest = ap (λ key. key ∷ map hash_in es) (ties_are_equal d.hash e.hash is)
    keys_placed-cases Greater is rest = ap (λ keys. e.hash ∷ keys) rest

order_from : (es ds : List Dependency) → IsInOrder byte_cmp hash_in es
    → IsInOrder byte_cmp hash_in (fold (λ sorted d. placed d sorted) es ds)
order_from es [] o = o
order_from es (d ∷ ds) o = order_from (placed d es) ds (rw (keys_placed d es) (with_text_in_order (map hash_in es) d.hash o))

-- dependencies by their hashes are in order
pub in_order : (ds : List Dependency) → IsInOrder byte_cmp hash_in (by_hash ds)
in_order ds = order_from [] ds (rises_none byte_cmp)

-- each is one of those that were placed
from_placed : (d : Dependency) (es : List Dependency) (q : Dependency) → Contains (placed d es) q → (d ≡ q) ⊎ Contains es q
from_placed d [] q has = first_or_later d [] q has
from_placed d (e ∷ es) q has = from_placed-cases (byte_cmp d.hash e.hash) has (from_placed d es q)
  where
    from_placed-cases : (r : Ordering) → Contains (match_ordering r (d ∷ e ∷ es) (d ∷ es) (e ∷ placed d es)) q
        → (Contains (placed d es) q → (d ≡ q) ⊎ Contains es q) → (d ≡ q) ⊎ Contains (e ∷ es) q
    from_placed-cases Less h rest = first_or_later d (e ∷ es) q h
    from_placed-cases Equal h rest = ⊎_elim (λ same. inl same) (λ later. inr (has_later e es q later)) (first_or_later d es q h)
    from_placed-cases Greater h rest = ⊎_elim
        (λ same. inr (subst (Contains (e ∷ es)) same (has_first e es)))
        (λ later. ⊎_elim (λ same. inl same) (λ there. inr (has_later e es q there)) (rest later))
        (first_or_later e (placed d es) q h)

from_folded : (es ds : List Dependency) (q : Dependency) → Contains (fold (λ sorted d. placed d sorted) es ds) q → Contains es q
    ⊎ Contains ds q
from_folded es [] q has = inl has
from_folded es (d ∷ ds) q has = ⊎_elim
    (λ early. ⊎_elim (λ same. inr (subst (Contains (d ∷ ds)) same (has_first d ds))) (λ old. inl old) (from_placed d es q early))
    (λ late. inr (has_later d ds q late))
    (from_folded (placed d es) ds q has)

-- what holds of all dependencies holds of them in that order
pub still : (P : Dependency → Type 0) (ds : List Dependency) → All P ds → All P (by_hash ds)
still P ds all =
    all_from P (by_hash ds) (λ d has. ⊎_elim (λ none. absurd (lacks_all d none)) (λ there. All-contains P ds d all there)
    (from_folded [] ds d has))

-- what is written of them is the same
pub same_members : (ds : List Dependency) → dependency_members (by_hash ds) ≡ dependency_members ds
same_members ds = written hash_in dependency_data (by_hash ds) (in_order ds) ∙ sym (folded [] ds)

-- ---- where no two have one hash, each stays

in_placed : (d : Dependency) (es : List Dependency) → Contains (placed d es) d
in_placed d [] = has_first d []
in_placed d (e ∷ es) = in_placed-cases (byte_cmp d.hash e.hash) (in_placed d es)
  where
    in_placed-cases : (r : Ordering) → Contains (placed d es) d → Contains (match_ordering r (d ∷ e ∷ es) (d ∷ es) (e ∷ placed d es)) d
    in_placed-cases Less rest = has_first d (e ∷ es)
    in_placed-cases Equal rest = has_first d es
    in_placed-cases Greater rest = has_later e (placed d es) d rest

still_placed : (d : Dependency) (es : List Dependency) (q : Dependency) → (q.hash ≡ d.hash → q ≡ d) → Contains es q
    → Contains (placed d es) q
still_placed d [] q once has = absurd (lacks_all q has)
still_placed d (e ∷ es) q once has = still_placed-cases (byte_cmp d.hash e.hash) refl (λ later. still_placed d es q once later)
  where
    still_placed-cases : (r : Ordering) → byte_cmp d.hash e.hash ≡ r → (Contains es q → Contains (placed d es) q)
        → Contains (match_ordering r (d ∷ e ∷ es) (d ∷ es) (e ∷ placed d es)) q
    still_placed-cases Less is rest = has_later d (e ∷ es) q has
    still_placed-cases Equal is rest = ⊎_elim
        (λ same. subst (Contains (d ∷ es)) (sym (once (ap hash_in (sym same) ∙ sym (ties_are_equal d.hash e.hash is)))) (has_first d es))
        (λ later. has_later d es q later)
        (first_or_later e es q has)
    still_placed-cases Greater is rest = ⊎_elim
        (λ same. subst (Contains (e ∷ placed d es)) same (has_first e (placed d es)))
        (λ later. has_later e (placed d es) q (rest later))
        (first_or_later e es q has)

in_folded : (es ds : List Dependency) (q : Dependency) → ((d : Dependency) → Contains ds d → q.hash ≡ d.hash → q ≡ d) → Contains es q
    ⊎ Contains ds q → Contains (fold (λ sorted d. placed d sorted) es ds) q
in_folded es [] q once has = ⊎_elim (λ old. old) (λ none. absurd (lacks_all q none)) has
in_folded es (d ∷ ds) q once has = in_folded (placed d es) ds q (λ e there. once e (has_later d ds e there)) (⊎_elim
    (λ old. inl (still_placed d es q (once d (has_first d ds)) old))
    (λ new. ⊎_elim (λ same. inl (subst (Contains (placed d es)) same (in_placed d es))) (λ later. inr later) (first_or_later d ds q new))
    has)

-- the same dependencies, in another order
pub same_dependencies : (ds : List Dependency) → ((a b : Dependency) → Contains ds a → Contains ds b → a.hash ≡ b.hash → a ≡ b)
    → (d : Dependency)
    → Contains ds d ↔ Contains (by_hash ds) d
same_dependencies ds once d = (
  λ has. in_folded [] ds d (λ e there. once d e has there) (inr has),
  λ has. ⊎_elim (λ none. absurd (lacks_all d none)) (λ there. there) (from_folded [] ds d has),
)
