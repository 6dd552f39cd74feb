-- What items stand for.
use Rattle.std.specs.Prelude.{◌≡◌, ℕ, ◌==◌, Bool, true, false, List, [], ◌∷◌, ◌++◌, map, Option, Some, None, is_some, option_map, option_and_then, if◌then◌else◌, codes}
use Rattle.std.specs.List.{before_first, after_first, list_any}
use Rattle.std.specs.Str.{bytes_eq}
use Rattle.std.specs.Ordering.{nat_cmp}
use Rattle.std.specs.declared.cmp.Ordering.{Ordering}
use Rattle.std.specs.declared.cmp.Ordering.TheVariants.{Less, Equal, Greater}
use Rattle.std.specs.Cmp.Lexicographic.{slice_cmp}
use Rattle.variant_values.specs.Texts.{with_text}
use Rattle.spec_grammar.specs.Keys.{key_of, is_colon}
use Rattle.spec_grammar.specs.declared.key.KeyKind.{KeyKind}
use Rattle.spec_grammar.specs.declared.key.KeyKind.TheVariants as key
use Rattle.spec_grammar.specs.declared.item.SpecItem.{SpecItem}
use Rattle.spec_grammar.specs.declared.item.SpecItem.TheVariants.{Name, Versions, Variant, Compiler, Key, Caret}
use Rattle.spec_grammar.specs.declared.item.Mark.{Mark}
use Rattle.spec_grammar.specs.declared.item.Mark.TheVariants.{Plus, Tilde, Minus}
use Rattle.spec_grammar.specs.declared.part.Part.{Part}
use Rattle.spec_grammar.specs.declared.part.Spec.{Spec}
use Rattle.spec_grammar.specs.declared.part.TargetItem.{TargetItem}
use Rattle.spec_grammar.specs.declared.draft.Draft.{Draft}

-- ---- values

-- `True` and `False` count as `true` and `false`
abbrev pub truth : List ℕ → List ℕ
truth w = if bytes_eq w (codes "True") then codes "true" else if bytes_eq w (codes "False") then codes "false" else w

-- the texts and these values, in byte order, each once
unfoldable pub put_all : List (List ℕ) → List (List ℕ) → List (List ℕ)
put_all texts [] = texts
put_all texts (w ∷ values) = put_all (with_text texts (truth w)) values

-- ---- constraints

abbrev pub empty_part : Option (List ℕ) → Part
empty_part w = record { name = w; versions = None; variants = []; compiler = None; platform = None; os = None; targets = None }

abbrev pub PartVariants : Type 0
PartVariants = List (List ℕ × List (List ℕ))

abbrev pub has_variant : List ℕ → PartVariants → Bool
has_variant w variants = list_any (λ v. bytes_eq v.0 w) variants

abbrev pub set_at : Ordering → (List ℕ × List (List ℕ)) → (List ℕ × List (List ℕ)) → PartVariants → PartVariants → PartVariants
set_at Less new v variants more = new ∷ v ∷ variants
set_at Equal new v variants more = new ∷ v ∷ variants
set_at Greater new v variants more = v ∷ more

-- a variant more, in byte order of names
unfoldable pub with_variant : (List ℕ × List (List ℕ)) → PartVariants → PartVariants
with_variant new [] = new ∷ []
with_variant new (v ∷ variants) = set_at (slice_cmp nat_cmp new.0 v.0) new v variants (with_variant new variants)

-- whether a change was made, and if so that it led to the next value, which then is there
abbrev pub Becomes : {T : Type 0} → Option T → Bool → T → Type 0
Becomes next true new = next ≡ Some new
Becomes next false new = next ≡ None

-- each of these gives None where the part has the same already
abbrev pub set_variant : List ℕ → List (List ℕ) → Part → Option Part
set_variant w values part = if has_variant w part.variants then None else Some
    (record part { variants = with_variant (w, values) part.variants })

abbrev pub set_platform : List ℕ → Part → Option Part
set_platform w part = if is_some part.platform then None else Some (record part { platform = Some (truth w) })

abbrev pub set_os : List ℕ → Part → Option Part
set_os w part = if is_some part.os then None else Some (record part { os = Some (truth w) })

-- an end of a target range
abbrev pub end_of : List ℕ → Option (List ℕ)
end_of [] = None
end_of (b ∷ rest) = Some (b ∷ rest)

unfoldable pub target_of : List ℕ → TargetItem
target_of w =
    if list_any is_colon w then record { low = end_of (before_first is_colon w); high = end_of (after_first is_colon w); range = true }
    else record { low = Some (truth w); high = None; range = false }

abbrev pub set_targets : List (List ℕ) → Part → Option Part
set_targets values part = if is_some part.targets then None else Some (record part { targets = Some (map target_of values) })

abbrev pub is_dash : ℕ → Bool
is_dash b = b == 45

-- P-O-T
abbrev pub set_arch : List ℕ → Part → Option Part
set_arch value part =
    let rest = after_first is_dash value in
    option_and_then (λ p. option_and_then (λ q. set_targets (after_first is_dash rest ∷ []) q) (set_os (before_first is_dash rest) p))
    (set_platform (before_first is_dash value) part)

abbrev pub first_value : List (List ℕ) → List ℕ
first_value [] = []
first_value (w ∷ values) = w

abbrev pub set_key : KeyKind → List ℕ → List (List ℕ) → Part → Option Part
set_key key.Platform w values part = set_platform (first_value values) part
set_key key.Os w values part = set_os (first_value values) part
set_key key.Arch w values part = set_arch (first_value values) part
set_key key.Target w values part = set_targets values part
set_key key.Flags w values part = None
set_key key.Variant w values part = set_variant w (put_all [] values) part

-- `+v` is `v=true`, `-v` and `~v` are `v=false`
abbrev pub mark_value : Mark → List ℕ
mark_value Plus = codes "true"
mark_value Tilde = codes "false"
mark_value Minus = codes "false"

-- the part with a constraint more
abbrev pub add : SpecItem → Part → Option Part
add (Name w) part = None
add (Versions items) part = if is_some part.versions then None else Some (record part { versions = Some items })
add (Variant mark w) part = set_variant w (mark_value mark ∷ []) part
add (Compiler w items) part = if is_some part.compiler then None else Some (record part { compiler = Some (w, items) })
add (Key w values) part = set_key (key_of w) w values part
add Caret part = None

-- ---- specs

-- a spec, by its first part and the parts after `^`, of which this is the last
abbrev pub spec_with : Option Part → List Part → Part → Spec
spec_with None below part = record { top = part; below = below }
spec_with (Some top) below part = record { top = top; below = below ++ part ∷ [] }

-- the part at hand is over, and `^` stands behind it
abbrev pub nest_in : Draft → Option Part → Part → Draft
nest_in draft None part = record draft { top = Some part; part = None }
nest_in draft (Some top) part = record draft { below = draft.below ++ part ∷ []; part = None }

abbrev pub nest : Draft → Part → Draft
nest draft part = nest_in draft draft.top part

-- the specs, where the part at hand is the last
abbrev pub finished_specs : Draft → Part → List Spec
finished_specs draft part = draft.specs ++ spec_with draft.top draft.below part ∷ []

-- the part at hand is the last of its spec
abbrev pub end_spec : Draft → Part → Draft
end_spec draft part = record { specs = finished_specs draft part; top = None; below = []; part = None }

-- a NAME names the part at hand, begins one behind `^`, or begins another spec
abbrev pub begin_part : List ℕ → Draft → Option Part → Draft
begin_part w draft None = record draft { part = Some (empty_part (Some w)) }
begin_part w draft (Some part) =
    if is_some part.name then record (end_spec draft part) { part = Some (empty_part (Some w)) }
    else record draft { part = Some (record part { name = Some w }) }

-- a constraint belongs to the nearest NAME before it
abbrev pub constrain : SpecItem → Draft → Option Part → Option Draft
constrain item draft None = None
constrain item draft (Some part) = option_map (λ next. record draft { part = Some next }) (add item part)

-- an item more; None where it sets the same again
abbrev pub take_item : SpecItem → Draft → Option Draft
take_item (Name w) draft = Some (begin_part w draft draft.part)
take_item (Versions items) draft = constrain (Versions items) draft draft.part
take_item (Variant mark w) draft = constrain (Variant mark w) draft draft.part
take_item (Compiler w items) draft = constrain (Compiler w items) draft draft.part
take_item (Key w values) draft = constrain (Key w values) draft draft.part
take_item Caret draft = option_map (nest draft) draft.part
