-- What the literals of a table stand for: a line for each choice.
use Rattle.std.specs.Prelude.{ℕ, List, [], ◌++◌, codes}
use Rattle.std.specs.List.{flat_map}
use Rattle.clause_store.specs.declared.Lit.{Lit}
use Rattle.literal_table.specs.Choices.{Choices}
use Rattle.literal_table.specs.Tables.{Table}
use Rattle.literal_table.specs.declared.block.Block.{Block}
use Rattle.literal_table.specs.declared.block.EdgeLits.{EdgeLits}
use Rattle.literal_table.specs.declared.block.ProviderLits.{ProviderLits}
use Rattle.dimacs_text.specs.Signs.{lit_text}
use Rattle.dimacs_text.specs.Meanings.{word_text, origin_text, compiler_text, prefix_text}

-- a literal, which kind of choice it is, the name at which it is made, and further words
unfoldable pub choice_line : Lit → List ℕ → List ℕ → List ℕ → List ℕ
choice_line lit kind name words =
    codes "c " ++ (lit_text lit ++ (kind ++ (codes " " ++ (name ++ (words ++ codes "\n")))))

-- the choices of an attribute, which a text is given of
abbrev pub choice_lines : {T : Type 0} → (T → List ℕ) → List ℕ → List ℕ → Choices T → List ℕ
choice_lines meaning kind name choices = flat_map (λ c. choice_line c.1 kind name (meaning c.0)) choices

-- ---- variants

unfoldable pub value_text : List ℕ → List ℕ → List ℕ
value_text variant value = codes " " ++ (variant ++ (codes "=" ++ value))

-- the values of a variant
abbrev pub value_lines : List ℕ → List ℕ × Choices (List ℕ) → List ℕ
value_lines name variant = flat_map (λ c. choice_line c.1 (codes "variant") name (value_text variant.0 c.0)) variant.1

-- ---- names, edges, virtuals

-- a name: that it has a node, where that comes from, its version and its variants
unfoldable pub package_text : Block → List ℕ
package_text b =
    choice_line b.present (codes "node") b.name []
    ++ (choice_lines origin_text (codes "origin") b.name b.origins
    ++ (choice_lines word_text (codes "version") b.name b.versions
    ++ flat_map (value_lines b.name) b.variants))

-- what it is made with and for
unfoldable pub machine_text : Block → List ℕ
machine_text b =
    choice_lines compiler_text (codes "compiler") b.name b.compilers
    ++ (choice_lines word_text (codes "os") b.name b.os
    ++ (choice_lines word_text (codes "target") b.name b.targets
    ++ choice_lines prefix_text (codes "prefix") b.name b.prefixes))

abbrev pub block_text : Block → List ℕ
block_text b = package_text b ++ machine_text b

unfoldable pub kind_text : List ℕ → List ℕ → List ℕ
kind_text child word = codes " " ++ (child ++ (codes " " ++ word))

-- that an edge names a virtual
abbrev pub name_line : EdgeLits → List ℕ × Lit → List ℕ
name_line e choice = choice_line choice.1 (codes "names") e.parent (kind_text e.child choice.0)

-- an edge by its parent, its child and each kind, and each virtual that it may name
unfoldable pub edge_text : EdgeLits → List ℕ
edge_text e =
    choice_line e.build (codes "edge") e.parent (kind_text e.child (codes "build"))
    ++ (choice_line e.link (codes "edge") e.parent (kind_text e.child (codes "link"))
    ++ (choice_line e.run (codes "edge") e.parent (kind_text e.child (codes "run")) ++ flat_map (name_line e) e.virtuals))

-- a virtual, and which package provides it
abbrev pub provider_text : ProviderLits → List ℕ
provider_text p = choice_lines word_text (codes "provider") p.name p.packages

-- names, edges and virtuals, in the table's order
unfoldable pub table_text : Table → List ℕ
table_text t = flat_map block_text t.blocks ++ (flat_map edge_text t.edges ++ flat_map provider_text t.providers)
