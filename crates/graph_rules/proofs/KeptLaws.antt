-- A kept node is the node of its record or its entry.
use Rattle.std.proofs.Common.{◌≡◌, refl, sym, ap, ◌∙◌, Bool, true, ℕ, List, [], ◌∷◌, Option, Some, None, slice_get}
use Rattle.std.specs.Option.{option_eq}
use Rattle.std.specs.Str.{bytes_eq}
use Rattle.std.specs.Cmp.Lexicographic.{pointwise}
use Rattle.std.proofs.lemmas.Bool.{and_parts}
use Rattle.problem.specs.OfGraphCore.Graphs.{Text, Content}
use Rattle.problem.specs.OfGraphCore.Node.{Node}
use Rattle.problem.specs.OfGraphCore.Compiler.{Compiler}
use Rattle.problem.specs.OfGraphCore.OriginVariants.{External, Installed}
use Rattle.graph_rules.proofs.Lists.{some-and, bytes_eq-same}
use Rattle.problem.specs.Problems.{same_compiler, package_entry_of, externals_in, record_at, Problem}
use Rattle.graph_rules.specs.Kept.{Variants, same_variants, same_attributes, external_node, keeps_origin, keeps_kept}
use Rattle.problem.specs.OfReuseDb.Installed.{installed_node}
use Rattle.problem.specs.OfSiteSettings.ExternalEntry.{ExternalEntry}
use Rattle.problem.specs.OfReuseDb.Record.{Record}

-- lists whose elements are equal by a test are equal
pub lists-same : {X : Type 0} (e : X → X → Bool) → ((x y : X) → e x y ≡ true → x ≡ y) → (xs ys : List X)
    → pointwise e xs ys ≡ true → xs ≡ ys
lists-same e same [] [] h = refl
lists-same e same [] (y ∷ ys) h = absurd cc
lists-same e same (x ∷ xs) [] h = absurd cc
lists-same e same (x ∷ xs) (y ∷ ys) h =
    let parts = and_parts (e x y) (pointwise e xs ys) h in
    let first = same x y parts.0 in
    let rest = lists-same e same xs ys parts.1 in
    λ i. first i ∷ rest i

options-same : {X : Type 0} (e : X → X → Bool) → ((x y : X) → e x y ≡ true → x ≡ y) → (a b : Option X) → option_eq e a b ≡ true → a ≡ b
options-same e same None None h = refl
options-same e same None (Some y) h = absurd cc
options-same e same (Some x) None h = absurd cc
options-same e same (Some x) (Some y) h = ap Some (same x y h)

compilers-same : (a b : Compiler) → same_compiler a b ≡ true → a ≡ b
compilers-same a b h =
    let parts = and_parts (bytes_eq a.name b.name) (bytes_eq a.version b.version) h in
    let name = bytes_eq-same a.name b.name parts.0 in
    let version = bytes_eq-same a.version b.version parts.1 in
    λ i. record { name = name i; version = version i }

-- variants that the test calls the same are equal
pub variants-same : (a b : Variants) → same_variants a b ≡ true → a ≡ b
variants-same = lists-same _ (λ v w h.
    let parts = and_parts (bytes_eq v.0 w.0) (pointwise bytes_eq v.1 w.1) h in
    let name = bytes_eq-same v.0 w.0 parts.0 in
    let values = lists-same bytes_eq bytes_eq-same v.1 w.1 parts.1 in
    λ i. (name i, values i))

-- nodes with the same attributes and origin are one
pub same-node : (a b : Node) → same_attributes a b ≡ true → a.origin ≡ b.origin → a ≡ b
unfolding same_attributes
same-node a b h origin =
    let p6 = and_parts _ _ h in
    let p5 = and_parts _ _ p6.0 in
    let p4 = and_parts _ _ p5.0 in
    let p3 = and_parts _ _ p4.0 in
    let p2 = and_parts _ _ p3.0 in
    let p1 = and_parts _ _ p2.0 in
    let name = bytes_eq-same a.name b.name p1.0 in
    let version = bytes_eq-same a.version b.version p1.1 in
    let variants = variants-same a.variants b.variants p2.1 in
    let compiler = options-same same_compiler compilers-same a.compiler b.compiler p3.1 in
    let os = bytes_eq-same a.os b.os p4.1 in
    let target = bytes_eq-same a.target b.target p5.1 in
    let prefix = options-same bytes_eq bytes_eq-same a.prefix b.prefix p6.1 in
    λ i. record {
      name = name i;
      version = version i;
      variants = variants i;
      compiler = compiler i;
      os = os i;
      target = target i;
      prefix =
          prefix i;
      origin = origin i;
    }

-- an installed node that is kept is its record
pub installed-is : (problem : Problem) (graph : Content) (node : Node) (hash : Text) → keeps_kept problem graph node ≡ true
    → node.origin ≡ Installed hash
    → (entry : Record) × (record_at problem hash ≡ Some entry) × (node.name ≡ entry.name)
    × (node ≡ record (installed_node entry) { origin = Installed hash })
unfolding keeps_kept installed_node same_attributes
installed-is problem graph node hash h is =
    let kept : keeps_origin problem graph node (Installed hash) ≡ true = ap (keeps_origin problem graph node) (sym is) ∙ h in
    let found = some-and (record_at problem hash) _ kept in
    let same = (and_parts _ _ (and_parts _ _ found.2).0).0 in
    let whole = same-node node (record (installed_node found.0) { origin = Installed hash }) same is in
    (found.0, found.1, ap (λ (n : Node). n.name) whole, whole)

-- an external node that is kept is its completed entry
pub external-is : (problem : Problem) (graph : Content) (node : Node) (place : ℕ) → keeps_kept problem graph node ≡ true
    → node.origin ≡ External place
    → (entry : ExternalEntry) × (slice_get (externals_in (package_entry_of problem node.name)) place ≡ Some entry)
    × (node ≡ external_node problem node.name place entry)
unfolding keeps_kept external_node
external-is problem graph node place h is =
    let kept : keeps_origin problem graph node (External place) ≡ true = ap (keeps_origin problem graph node) (sym is) ∙ h in
    let found = some-and (slice_get (externals_in (package_entry_of problem node.name)) place) _ (and_parts _ _ kept).0 in
    (found.0, found.1, same-node node (external_node problem node.name place found.0) found.2 is)
