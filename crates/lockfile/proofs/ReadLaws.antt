-- What a value that was read has: each package that provides is one of the nodes.
use Rattle.std.proofs.Common.{◌≡◌, refl, sym, ap, subst, ℕ, Bool, true, false, Option, Some, None, Ok, List, [], ◌∷◌, All, Contains, ◌⊎◌, inl, inr, ⊎_elim, codes, cond}
use Rattle.std.specs.List.{list_any}
use Rattle.std.specs.Cmp.Lexicographic.{bytes_decides}
use Rattle.std.specs.Option.{is_some, option_and_then}
use Rattle.std.specs.Str.{bytes_eq}
use Rattle.std.proofs.lemmas.Option.{none-some}
use Rattle.reachability.proofs.CountLaws.{has_first, has_later, first_or_later}
use Rattle.reachability.proofs.SpreadLaws.{among_decides}
use Rattle.keyed_lists.proofs.RiseLaws.{all_from}
use Rattle.variant_values.specs.Texts.{with_text, with_texts}
use Rattle.variant_values.proofs.Keys.{lacks_all}
use Rattle.variant_values.proofs.Texts.{adds_text}
use Rattle.serde_json.specs.Data.{Data, Members, no_members, member}
use Rattle.serde_json.specs.Find.{as_str}
use Rattle.json_readers.specs.Faults.{Reading, given}
use Rattle.json_readers.specs.Texts.{text_of}
use Rattle.json_readers.specs.Maps.{entries_of, entry_of, map_of}
use Rattle.json_readers.specs.Objects.{field, first_odd, members_of}
use Rattle.json_readers.specs.Lists.{list_of}
use Rattle.json_readers.proofs.Steps.{no_ok, bind_ok, below_ok, form_ok}
use Rattle.json_readers.proofs.Steps as steps
use Rattle.json_texts.specs.Forms.{name_meaning}
use Rattle.graph_core.specs.Graphs.{Text}
use Rattle.graph_core.specs.declared.node.Origin.{Origin}
use Rattle.record_reader.specs.Files.{may_name_virtuals}
use Rattle.record_reader.specs.Records.{back_at}
use Rattle.reuse_db.specs.declared.record.Record.{Record}
use Rattle.lockfile.specs.Files.{AreProvided, node_among, body_at, file_at, lock_file_keys, head_at, node_names, node_at, node_keys, origin_by, providers_at, roots_at}
use Rattle.lockfile.specs.declared.node.Body.{Body}
use Rattle.lockfile.specs.declared.node.NodeHead.{NodeHead}
use Rattle.lockfile.specs.declared.file.File.{File}
use Rattle.lockfile.specs.declared.node.LockedNode.{LockedNode}

-- ---- steps that gave a value

-- what stands at a key was read
field_ok : {T : Type 0} (read : Data → Reading T) (odd : Option (List ℕ)) (key : List ℕ) (ms : Members) (x : T)
    → field read odd key ms ≡ Ok x → (d : Data) × (read d ≡ Ok x)
field_ok read odd key ms x e = let found = steps.field_ok read odd key ms x e in (found.0, found.2)

given_ok : {T : Type 0} (r : Option T) (x : T) → given r ≡ Ok x → r ≡ Some x
given_ok None x e = absurd (no_ok _ x _ refl e)
given_ok (Some y) x e = let same : y ≡ x = cc in ap (λ z. Some z) same

-- ---- maps

-- each entry of a map was read
entries_ok : {T : Type 0} (means : List ℕ → Option (List ℕ)) (read : Data → Reading T) (ms : Members) (xs : List (List ℕ × T))
    → entries_of means read ms ≡ Ok xs
    → (x : List ℕ × T) → Contains xs x → (d : Data) × (read d ≡ Ok x.1)
entries_ok means read no_members xs e x has =
    let none : [] ≡ xs = cc in
    absurd (lacks_all x (subst (λ l. Contains l x) (sym none) has))
entries_ok means read (member key d ms) xs e x has =
    let first = bind_ok (entry_of means read key d) _ xs e in
    let rest = bind_ok (entries_of means read ms) _ xs first.2 in
    let is : (key, first.0) ∷ rest.0 ≡ xs = let same = rest.2 in cc in
    ⊎_elim
    (λ same. (
      d,
      subst (λ (p : List ℕ × _). read d ≡ Ok p.1) same
          (form_ok (is_some (means key)) (read d) first.0 (below_ok key _ first.0 first.1)),
    ))
    (λ later. entries_ok means read ms rest.0 rest.1 x later)
    (first_or_later (key, first.0) rest.0 x (subst (λ l. Contains l x) (sym is) has))

-- ---- names

among_test : (b : Bool) (s t : Text) → cond b (Some s) None ≡ Some t → (b ≡ true) × (s ≡ t)
among_test true s t e = (refl, cc)
among_test false s t e = absurd (none-some t e)

among_ok : (names : List Text) (s t : Text) → node_among names s ≡ Some t → Contains names t
among_ok names s t e =
    let told = among_test (list_any (bytes_eq s) names) s t e in
    subst (Contains names) told.1 ((among_decides bytes_eq bytes_decides names s).0 told.0)

text_ok : (names : List Text) (found : Option (List ℕ)) (t : Text) → option_and_then (node_among names) found ≡ Some t → Contains names t
text_ok names None t e = absurd (none-some t e)
text_ok names (Some s) t e = among_ok names s t e

-- the set of texts has just these
from_set : (kept words : List Text) (q : Text) → Contains (with_texts kept words) q → Contains kept q ⊎ Contains words q
unfolding with_texts
from_set kept [] q has = inl has
from_set kept (word ∷ words) q has = ⊎_elim
    (λ old. ⊎_elim
    (λ same. inr (subst (Contains (word ∷ words)) (sym same) (has_first word words)))
    (λ older. inl older)
    ((adds_text kept word q).0 old))
    (λ later. inr (has_later word words q later))
    (from_set (with_text kept word) words q has)

of_names : (names : List Text) (q : Text) → Contains (with_texts [] names) q → Contains names q
of_names names q has = ⊎_elim (λ none. absurd (lacks_all q none)) (λ there. there) (from_set [] names q has)

-- ---- the whole

provider_ok : (nodes : List LockedNode) (d : Data) (providers : List (Text × Text))
    → map_of name_meaning (text_of (node_among (with_texts [] (node_names nodes)))) d ≡ Ok providers
    → All (λ provider. Contains (node_names nodes) provider.1) providers
provider_ok nodes d providers e =
    let members = bind_ok (members_of d) _ providers e in
    let names = with_texts [] (node_names nodes) in
    all_from (λ (provider : Text × Text). Contains (node_names nodes) provider.1) providers (λ provider has.
    let read = entries_ok name_meaning (text_of (node_among names)) members.0 providers members.2 provider has in
    of_names (node_names nodes) provider.1 (text_ok names (as_str read.0) provider.1 (given_ok _ provider.1 read.1)))

-- each package that provides in a file that was read is one of its nodes
pub provided : (d : Data) (file : File) → file_at d ≡ Ok file → AreProvided file
unfolding file_at
provided d file e =
    let ms = bind_ok (members_of d) _ file e in
    let odd = first_odd lock_file_keys ms.0 in
    let nodes = bind_ok (field (list_of (node_at (may_name_virtuals ms.0))) odd (codes "nodes") ms.0) _ file ms.2 in
    let providers = bind_ok (providers_at nodes.0 odd ms.0) _ file nodes.2 in
    let roots = bind_ok (roots_at odd ms.0) _ file providers.2 in
    let is : record { nodes = nodes.0; providers = providers.0; roots = roots.0.0; version = roots.0.1 } ≡ file = let same =
    roots.2 in cc in
    let read = field_ok _ odd (codes "providers") ms.0 providers.0 providers.1 in
    subst AreProvided is (provider_ok nodes.0 read.0 providers.0 read.1)

-- ---- nodes

-- what was read of a node, from its three runs of keys
pub node_read : (may_name_virtuals : Bool) (d : Data) (ms : Members) (odd : Option Text) (head : NodeHead) (body : Body) (described : Record)
    (origin : Origin)
    → members_of d ≡ Ok ms → odd ≡ first_odd node_keys ms → head_at may_name_virtuals odd ms ≡ Ok head
    → body_at odd ms ≡ Ok body → back_at head.front body.middle odd ms ≡ Ok described
    → origin ≡ origin_by head.entry body.origin body.middle.hash
    → node_at may_name_virtuals d ≡ Ok (record { described = described; origin = origin })
unfolding node_at
node_read may_name_virtuals d ms odd head body described origin members is first second third by = rw (members, ← is, first, second, third, by) refl
