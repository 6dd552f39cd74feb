-- A JSON text has the keys of each object in byte order.
use Rattle.std.proofs.Common.{◌≡◌, refl, ap, subst, ℕ, List, [], ◌∷◌, Option, Some, option_map, option_and_then}
use Rattle.std.specs.Ordering.{match_ordering}
use Rattle.std.specs.declared.cmp.Ordering.{Ordering}
use Rattle.std.specs.declared.cmp.Ordering.TheVariants.{Less, Equal, Greater}
use Rattle.std.proofs.lemmas.Option.{none-some}
use Rattle.keyed_lists.proofs.RiseLaws.{rises_none}
use Rattle.variant_values.specs.Texts.{IsInByteOrder, byte_cmp, with_text}
use Rattle.variant_values.proofs.Texts.{with_text_in_order}
use Rattle.json.specs.Json as json
use Rattle.json.specs.Lex.{tokens}
use Rattle.serde_json.specs.Data.{Data, null, boolean, number, string, array, object, Items, no_items, item, Members, no_members, member, put}
use Rattle.serde_json.specs.Find.{get_member}
use Rattle.serde_json.specs.Read.{max_depth, number_of, of_json, of_items, of_members}
use Rattle.spec_grammar.proofs.StepLaws.{some_of, some_then}
use Rattle.json_readers.specs.Json.{IsJson}

-- ---- options

some_same : {A : Type 0} (x y : A) → (let T : Type 0 = Option A in let l : T = Some x in let r : T = Some y in l ≡ r) → x ≡ y
some_same x y e = cc

-- ---- objects in order

abbrev pub keys_in : Members → List (List ℕ)
keys_in no_members = []
keys_in (member key d ms) = key ∷ keys_in ms

abbrev mutual
  pub IsOrdered : Data → Type 0
  IsOrdered null = Unit {0}
  IsOrdered (boolean b) = Unit {0}
  IsOrdered (number n) = Unit {0}
  IsOrdered (string text) = Unit {0}
  IsOrdered (array ds) = AreOrderedItems ds
  IsOrdered (object ms) = IsInByteOrder (keys_in ms) × AreOrderedMembers ms

  pub AreOrderedItems : Items → Type 0
  AreOrderedItems no_items = Unit {0}
  AreOrderedItems (item d ds) = IsOrdered d × AreOrderedItems ds

  pub AreOrderedMembers : Members → Type 0
  AreOrderedMembers no_members = Unit {0}
  AreOrderedMembers (member key d ms) = IsOrdered d × AreOrderedMembers ms

-- ---- a member that is put to others

keys_put : (k : List ℕ) (d : Data) (ms : Members) → keys_in (put k d ms) ≡ with_text (keys_in ms) k
keys_put k d no_members = refl
keys_put k d (member l e ms) = keys_put-cases (byte_cmp k l) (keys_put k d ms)
  where
    keys_put-cases : (r : Ordering) → keys_in (put k d ms) ≡ with_text (keys_in ms) k
        → keys_in (match_ordering r (member k d (member l e ms)) (member l d ms) (member l e (put k d ms)))
        ≡ match_ordering r (k ∷ l ∷ keys_in ms) (l ∷ keys_in ms) (l ∷ with_text (keys_in ms) k)
    keys_put-cases Less rest = refl
    keys_put-cases Equal rest = refl
    keys_put-cases Greater rest = ap (λ keys. l ∷ keys) rest

members_put : (k : List ℕ) (d : Data) (ms : Members) → IsOrdered d → AreOrderedMembers ms → AreOrderedMembers (put k d ms)
members_put k d no_members here all = (here, tt)
members_put k d (member l e ms) here all = members_put-cases (byte_cmp k l) (members_put k d ms here all.1)
  where
    members_put-cases : (r : Ordering) → AreOrderedMembers (put k d ms)
        → AreOrderedMembers (match_ordering r (member k d (member l e ms)) (member l d ms) (member l e (put k d ms)))
    members_put-cases Less rest = (here, all)
    members_put-cases Equal rest = (here, all.1)
    members_put-cases Greater rest = (all.0, rest)

put_ordered : (k : List ℕ) (d : Data) (ms : Members) → IsOrdered d → IsOrdered (object ms) → IsOrdered (object (put k d ms))
put_ordered k d ms here all = (rw (keys_put k d ms) (with_text_in_order (keys_in ms) k all.0), members_put k d ms here all.1)

-- ---- what is read

mutual
  json_ordered : (j : json.Json) (d : Data) → of_json j ≡ Some d → IsOrdered d
  json_ordered json.null d e = subst IsOrdered (some_same null d e) tt
  json_ordered (json.boolean b) d e = subst IsOrdered (some_same (boolean b) d e) tt
  json_ordered (json.number s) d e = subst IsOrdered (some_of number (number_of s) d e).2 tt
  json_ordered (json.string s) d e = subst IsOrdered (some_same (string s) d e) tt
  json_ordered (json.array js) d e =
      let at = some_of array (of_items js) d e in
      subst IsOrdered at.2 (items_ordered js at.0 at.1)
  json_ordered (json.object ms) d e =
      let at = some_of object (of_members ms no_members) d e in
      subst IsOrdered at.2 (members_ordered ms no_members at.0 (rises_none byte_cmp, tt) at.1)

  items_ordered : (js : json.Items) (ds : Items) → of_items js ≡ Some ds → AreOrderedItems ds
  items_ordered json.no_items ds e = subst AreOrderedItems (some_same no_items ds e) tt
  items_ordered (json.item j js) ds e =
      let first = some_then (λ d. option_map (item d) (of_items js)) (of_json j) ds e in
      let rest = some_of (item first.0) (of_items js) ds first.2 in
      subst AreOrderedItems rest.2 (json_ordered j first.0 first.1, items_ordered js rest.0 rest.1)

  members_ordered : (ms : json.Members) (found out : Members) → IsOrdered (object found) → of_members ms found ≡ Some out
      → IsOrdered (object out)
  members_ordered json.no_members found out ordered e = subst (λ (l : Members). IsOrdered (object l)) (some_same found out e) ordered
  members_ordered (json.member k j ms) found out ordered e =
      let first = some_then (λ d. of_members ms (put k d found)) (of_json j) out e in
      members_ordered ms (put k first.0 found) out (put_ordered k first.0 found (json_ordered j first.0 first.1) ordered) first.2

-- the keys of each object of a text are in order
pub text_ordered : (bytes : List ℕ) (d : Data) → IsJson bytes d → IsOrdered d
text_ordered bytes d is =
    let parsed = option_and_then (λ p. json.if_last p.0 p.1) (json.value max_depth (tokens bytes)) in
    let at = some_then of_json parsed d is.1 in
    json_ordered at.0 d at.2

-- what stands at a key
pub member_ordered : (key : List ℕ) (ms : Members) (d : Data) → AreOrderedMembers ms → get_member key ms ≡ Some d → IsOrdered d
member_ordered key no_members d all e = absurd (none-some d e)
member_ordered key (member l found ms) d all e = member_ordered-cases (byte_cmp key l) (member_ordered key ms d all.1) e
  where
    member_ordered-cases : (r : Ordering) → (get_member key ms ≡ Some d → IsOrdered d)
        → match_ordering r (get_member key ms) (Some found) (get_member key ms) ≡ Some d → IsOrdered d
    member_ordered-cases Less rest is = rest is
    member_ordered-cases Equal rest is = subst IsOrdered (some_same found d is) all.0
    member_ordered-cases Greater rest is = rest is
