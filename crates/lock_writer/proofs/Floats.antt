-- A lock file has no floats.
use Rattle.std.proofs.Common.{◌≡◌, refl, ap, subst, ◌∙◌, ℕ, false, List, [], ◌∷◌, map, fold}
use Rattle.std.proofs.lemmas.Bool.{or_from}
use Rattle.serde_json.specs.Data.{Data, string, Members, no_members, put}
use Rattle.serde_json.specs.View.{items_of}
use Rattle.serde_json.specs.Written.{compact_text, has_float, items_have_float, members_have_float}
use Rattle.spec_grammar.specs.declared.part.Spec.{Spec}
use Rattle.graph_core.specs.Graphs.{Text, Content}
use Rattle.graph_core.specs.declared.node.Node.{Node}
use Rattle.graph_core.specs.declared.node.Origin.{Origin}
use Rattle.graph_core.specs.declared.node.Origin.TheVariants.{Built, External, Installed}
use Rattle.reuse_db.specs.declared.record.Record.{Record}
use Rattle.reuse_db.proofs.Texts.{first_of, no_floats, put_float, second_of}
use Rattle.lock_writer.specs.Hashes.{node_record}
use Rattle.lock_writer.specs.Texts.{entry_data, node_data, data_of_node, root_data, lock_data}

entry_float : (origin : Origin) → has_float (entry_data origin) ≡ false
entry_float Built = refl
entry_float (External entry) = refl
entry_float (Installed hash) = refl

node_float : (entry : Record) (origin : Origin) → has_float (node_data entry origin) ≡ false
unfolding node_data
node_float entry origin =
    let all = no_floats entry in
    let behind_compiler = second_of _ _ all in
    let behind_dependencies = second_of _ _ behind_compiler in
    let behind_external = second_of _ _ behind_dependencies in
    or_from _ _ (first_of _ _ all)
    (or_from _ _ (first_of _ _ behind_compiler)
    (or_from _ _ (entry_float origin)
    (or_from _ _ (first_of _ _ behind_dependencies)
    (or_from _ _ (first_of _ _ behind_external) refl))))

nodes_float : (g : Content) (records : List Record) (nodes : List Node)
    → items_have_float (items_of (map (data_of_node g records) nodes)) ≡ false
nodes_float g records [] = refl
nodes_float g records (node ∷ nodes) = or_from _ _ (node_float (node_record g records node) node.origin) (nodes_float g records nodes)

providers_float : (providers : List (Text × Text)) (ms : Members) → members_have_float ms ≡ false
    → members_have_float (fold (λ ms p. put p.0 (string p.1) ms) ms providers) ≡ false
providers_float [] ms h = h
providers_float (p ∷ providers) ms h = providers_float providers (put p.0 (string p.1) ms) (put_float p.0 (string p.1) ms refl h)

roots_float : (g : Content) (roots : List Spec) → items_have_float (items_of (map (root_data g) roots)) ≡ false
roots_float g [] = refl
roots_float g (root ∷ roots) = roots_float g roots

-- a lock file has no floats
pub lock_float : (g : Content) (records : List Record) (roots : List Spec) → has_float (lock_data g records roots) ≡ false
unfolding lock_data
lock_float g records roots =
    or_from _ _ (nodes_float g records g.nodes)
    (or_from _ _ (providers_float g.providers no_members refl)
    (or_from _ _ (roots_float g roots) refl))

-- the text of a value without floats
pub written : (v d : Data) (text : List ℕ) → v ≡ d → has_float d ≡ false → (has_float v ≡ false → text ≡ compact_text v)
    → text ≡ compact_text d
written v d text is none told = subst (λ w. text ≡ compact_text w) is (told (ap has_float is ∙ none))
