-- The canonical text of a spec.
use Rattle.std.specs.Prelude.{◌≡◌, ◌<◌, ℕ, true, List, [], ◌∷◌, ◌++◌, length, map, Option, Some, None, IsSome, if◌then◌else◌, codes}
use Rattle.std.specs.List.{All}
use Rattle.std.specs.Str.{bytes_eq}
use Rattle.version_order.specs.declared.item.Item.{Item as VersionItem}
use Rattle.variant_values.specs.Texts.{IsInByteOrder}
use Rattle.spec_grammar.specs.Items.{spell_values, spell_list}
use Rattle.spec_grammar.specs.Right.{needs_name}
use Rattle.spec_grammar.specs.Meaning.{PartVariants}
use Rattle.spec_grammar.specs.declared.mode.Mode.{Mode}
use Rattle.spec_grammar.specs.declared.part.Part.{Part}
use Rattle.spec_grammar.specs.declared.part.Spec.{Spec}
use Rattle.spec_grammar.specs.declared.part.TargetItem.{TargetItem}

-- a word, where there is one
abbrev pub word_text : Option (List ℕ) → List ℕ
word_text None = []
word_text (Some w) = w

-- ` KEY=w`, where there is a word
abbrev pub key_text : List ℕ → Option (List ℕ) → List ℕ
key_text key None = []
key_text key (Some w) = key ++ w

abbrev pub values_text : List ℕ → List (List ℕ) → List ℕ
values_text w values = w ++ 61 ∷ spell_values values

-- `+v` for the value `true`, `~v` for `false`, and `v=a` for another
abbrev pub one_text : List ℕ → List ℕ → List ℕ
one_text w value =
    if bytes_eq value (codes "true") then 43 ∷ w
    else if bytes_eq value (codes "false") then 126 ∷ w
    else values_text w (value ∷ [])

abbrev pub variant_text : List ℕ → List (List ℕ) → List ℕ
variant_text w [] = values_text w []
variant_text w (v ∷ []) = one_text w v
variant_text w (v ∷ u ∷ values) = values_text w (v ∷ u ∷ values)

abbrev pub variants_text : PartVariants → List ℕ
variants_text [] = []
variants_text (v ∷ variants) = 32 ∷ (variant_text v.0 v.1 ++ variants_text variants)

abbrev pub part_compiler_text : Option (List ℕ × Option (List VersionItem)) → List ℕ
part_compiler_text None = []
part_compiler_text (Some c) = 32 ∷ 37 ∷ (c.0 ++ spell_list c.1)

abbrev pub target_text : TargetItem → List ℕ
target_text t = if t.range then word_text t.low ++ 58 ∷ word_text t.high else word_text t.low

-- targets, each after a comma
abbrev pub more_targets : List TargetItem → List ℕ
more_targets [] = []
more_targets (t ∷ targets) = 44 ∷ (target_text t ++ more_targets targets)

abbrev pub targets_items : List TargetItem → List ℕ
targets_items [] = []
targets_items (t ∷ targets) = target_text t ++ more_targets targets

abbrev pub targets_text : Option (List TargetItem) → List ℕ
targets_text None = []
targets_text (Some targets) = codes " target=" ++ targets_items targets

unfoldable pub part_text : Part → List ℕ
part_text p =
    word_text p.name ++ (spell_list p.versions ++ (variants_text p.variants ++ (part_compiler_text p.compiler
    ++ (key_text (codes " platform=") p.platform ++ (key_text (codes " os=") p.os ++ targets_text p.targets)))))

-- each part after ` ^`
abbrev pub below_text : List Part → List ℕ
below_text [] = []
below_text (p ∷ below) = codes " ^" ++ (part_text p ++ below_text below)

unfoldable pub spec_text : Spec → List ℕ
spec_text s = part_text s.top ++ below_text s.below

-- ---- what holds of each spec that was read

-- only the first part of a condition may have no name
abbrev pub AreNamed : Mode → Spec → Type 0
AreNamed mode s = (needs_name mode ≡ true → IsSome s.top.name) × All (λ p. IsSome p.name) s.below

abbrev pub variant_names : PartVariants → List (List ℕ)
variant_names variants = map (λ v. v.0) variants

-- each part names a variant once, in byte order
abbrev pub AreInOrder : Spec → Type 0
AreInOrder s = All (λ p. IsInByteOrder (variant_names p.variants)) (s.top ∷ s.below)

-- each variant of a part has a value
abbrev pub AreValued : Spec → Type 0
AreValued s = All (λ p. All (λ v. 0 < length v.1) p.variants) (s.top ∷ s.below)
