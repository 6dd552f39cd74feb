-- A lock file nests a few levels.
use Rattle.std.proofs.Common.{◌≡◌, subst, ℕ, suc, max, ◌≤◌, List, [], ◌∷◌, map, fold, Option, Some, None, arith}
use Rattle.std.specs.Ordering.{nat_cmp, match_ordering}
use Rattle.std.specs.declared.cmp.Ordering.TheVariants.{Less, Equal, Greater}
use Rattle.std.specs.Cmp.Lexicographic.{slice_cmp}
use Rattle.serde_json.specs.Data.{Data, string, Members, no_members, member, put, depth, items_depth, members_depth}
use Rattle.serde_json.specs.Read.{max_depth}
use Rattle.serde_json.specs.View.{items_of}
use Rattle.spec_grammar.specs.declared.part.Spec.{Spec}
use Rattle.graph_core.specs.Graphs.{Text, Content}
use Rattle.graph_core.specs.declared.node.Compiler.{Compiler}
use Rattle.graph_core.specs.declared.node.Origin.{Origin}
use Rattle.graph_core.specs.declared.node.Origin.TheVariants.{Built, External, Installed}
use Rattle.reuse_db.specs.Canonical.{texts_data, compiler_data, external_data, variant_members, kind_texts, virtual_members, dependency_data, dependency_members, values_of}
use Rattle.reuse_db.specs.declared.record.Dependency.{Dependency}
use Rattle.reuse_db.specs.declared.record.Record.{Record}
use Rattle.lock_writer.specs.Hashes.{node_record}
use Rattle.lock_writer.specs.Texts.{entry_data, node_data, data_of_node, provider_members, root_data, lock_data}

both : (a b n : ℕ) → a ≤ n → b ≤ n → max a b ≤ n
both a b n p q = omega (arith, p, q)

first_of : (a b n : ℕ) → max a b ≤ n → a ≤ n
first_of a b n p = omega (arith, p)

second_of : (a b n : ℕ) → max a b ≤ n → b ≤ n
second_of a b n p = omega (arith, p)

some : (n : ℕ) → 0 ≤ n
some n = omega arith

deeper : (a n : ℕ) → a ≤ n → suc a ≤ suc n
deeper a n p = omega (arith, p)

-- ---- lists and maps

items_within : {X : Type 0} (f : X → Data) (n : ℕ) (xs : List X) → ((x : X) → depth (f x) ≤ n) → items_depth (items_of (map f xs)) ≤ n
items_within f n [] each = some n
items_within f n (x ∷ xs) each = both (depth (f x)) (items_depth (items_of (map f xs))) n (each x) (items_within f n xs each)

put_within : (n : ℕ) (k : Text) (d : Data) (ms : Members) → depth d ≤ n → members_depth ms ≤ n → members_depth (put k d ms) ≤ n
put_within n k d no_members p q = both (depth d) 0 n p (some n)
put_within n k d (member l e ms) p q =
    let first = first_of (depth e) (members_depth ms) n q in
    let rest = second_of (depth e) (members_depth ms) n q in
    elim (slice_cmp nat_cmp k l) as (λ r. members_depth
    (match_ordering r (member k d (member l e ms)) (member l d ms) (member l e (put k d ms))) ≤ n) [
      | Less ↦ both (depth d) (members_depth (member l e ms)) n p q
      | Equal ↦ both (depth d) (members_depth ms) n p rest
      | Greater ↦ both (depth e) (members_depth (put k d ms)) n first (put_within n k d ms p rest)
    ]

fold_within : {X : Type 0} (key : X → Text) (f : X → Data) (n : ℕ) (xs : List X) (ms : Members) → ((x : X) → depth (f x) ≤ n)
    → members_depth ms ≤ n
    → members_depth (fold (λ ms x. put (key x) (f x) ms) ms xs) ≤ n
fold_within key f n [] ms each h = h
fold_within key f n (x ∷ xs) ms each h = fold_within key f n xs (put (key x) (f x) ms) each (put_within n (key x) (f x) ms (each x) h)

values_within : (n : ℕ) (ms : Members) → members_depth ms ≤ n → items_depth (values_of ms) ≤ n
values_within n no_members h = h
values_within n (member k d ms) h = both (depth d) (items_depth (values_of ms)) n (first_of (depth d) (members_depth ms) n h)
    (values_within n ms (second_of (depth d) (members_depth ms) n h))

-- ---- the parts of a node

texts_within : (texts : List Text) → depth (texts_data texts) ≤ 1
texts_within texts = deeper (items_depth (items_of (map string texts))) 0 (items_within string 0 texts (λ text. some 0))

compiler_within : (compiler : Option Compiler) → depth (compiler_data compiler) ≤ 3
compiler_within None = some 3
compiler_within (Some compiler) = omega arith

external_within : (external : Option Text) → depth (external_data external) ≤ 3
external_within None = some 3
external_within (Some prefix) = some 3

entry_within : (origin : Origin) → depth (entry_data origin) ≤ 3
entry_within Built = some 3
entry_within (External entry) = some 3
entry_within (Installed hash) = some 3

virtuals_within : (names : List Text) → members_depth (virtual_members names) ≤ 1
virtuals_within [] = some 1
virtuals_within (name ∷ names) = both _ 0 1 (texts_within (name ∷ names)) (some 1)

dependency_within : (d : Dependency) → depth (dependency_data d) ≤ 2
dependency_within d = deeper _ 1 (both 0 _ 1 (some 1) (both _ _ 1 (texts_within (kind_texts d.kinds)) (virtuals_within d.virtuals)))

dependencies_within : (dependencies : List Dependency) → suc (items_depth (values_of (dependency_members dependencies))) ≤ 3
dependencies_within dependencies =
    deeper _ 2 (values_within 2 (dependency_members dependencies)
    (fold_within (λ (d : Dependency). d.hash) dependency_data 2 dependencies no_members dependency_within (some 2)))

variants_within : (variants : List (Text × List Text)) → suc (members_depth (variant_members variants)) ≤ 3
variants_within variants =
    let within : members_depth (variant_members variants) ≤ 1 =
    fold_within (λ (v : Text × List Text). v.0) (λ (v : Text × List Text). texts_data v.1) 1 variants no_members
    (λ v. texts_within v.1) (some 1) in
    omega (arith, within)

node_within : (entry : Record) (origin : Origin) → depth (node_data entry origin) ≤ 4
unfolding node_data
node_within entry origin =
    deeper _ 3
    (both _ _ 3 (compiler_within entry.compiler)
    (both _ _ 3 (dependencies_within entry.dependencies)
    (both _ _ 3 (entry_within origin)
    (both _ _ 3 (external_within entry.external)
    (both _ _ 3 (some 3)
    (both _ _ 3 (some 3)
    (both _ _ 3 (some 3)
    (both _ _ 3 (some 3)
    (both _ _ 3 (some 3)
    (both _ _ 3 (variants_within entry.variants)
    (both _ _ 3 (some 3) (some 3))))))))))))

-- ---- the whole

nodes_within : (g : Content) (records : List Record) → suc (items_depth (items_of (map (data_of_node g records) g.nodes))) ≤ 5
nodes_within g records =
    deeper _ 4 (items_within (data_of_node g records) 4 g.nodes (λ node. node_within (node_record g records node) node.origin))

providers_within : (providers : List (Text × Text)) → suc (members_depth (provider_members providers)) ≤ 5
providers_within providers =
    let within : members_depth (provider_members providers) ≤ 4 =
    fold_within (λ (p : Text × Text). p.0) (λ (p : Text × Text). string p.1) 4 providers no_members (λ p. some 4) (some 4) in
    deeper _ 4 within

roots_within : (g : Content) (roots : List Spec) → suc (items_depth (items_of (map (root_data g) roots))) ≤ 5
roots_within g roots = deeper _ 4 (items_within (root_data g) 4 roots (λ root. omega arith))

lock_within : (g : Content) (records : List Record) (roots : List Spec) → depth (lock_data g records roots) ≤ 6
unfolding lock_data
lock_within g records roots =
    deeper _ 5
    (both _ _ 5 (nodes_within g records)
    (both _ _ 5 (providers_within g.providers)
    (both _ _ 5 (roots_within g roots)
    (both _ _ 5 (some 5) (some 5)))))

-- it is read again
pub lock_shallow : (v : Data) (g : Content) (records : List Record) (roots : List Spec) → v ≡ lock_data g records roots
    → depth v ≤ max_depth
lock_shallow v g records roots is =
    omega (arith, subst (λ d. depth d ≤ 6) (let back : lock_data g records roots ≡ v = cc in back) (lock_within g records roots))
