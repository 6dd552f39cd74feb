-- The keys with a meaning of their own, and the values that each key takes.
use Rattle.std.specs.Prelude.{◌≡◌, ◌≤◌, ℕ, ◌==◌, ◌&&◌, ◌||◌, not, Bool, true, false, List, [], ◌∷◌, ◌++◌, count_by, if◌then◌else◌, codes}
use Rattle.std.specs.List.{AllByRecursion, list_all}
use Rattle.std.specs.Str.{bytes_eq}
use Rattle.spec_grammar.specs.Signs.{is_value_byte}
use Rattle.spec_grammar.specs.declared.key.KeyKind.{KeyKind}
use Rattle.spec_grammar.specs.declared.key.KeyKind.TheVariants.{Platform, Os, Arch, Target, Flags, Variant}

abbrev pub names_flags : List ℕ → Bool
names_flags w =
    bytes_eq w (codes "cflags") || bytes_eq w (codes "cxxflags") || bytes_eq w (codes "fflags")
    || bytes_eq w (codes "cppflags") || bytes_eq w (codes "ldflags") || bytes_eq w (codes "ldlibs")

unfoldable pub key_of : List ℕ → KeyKind
key_of w =
    if bytes_eq w (codes "platform") then Platform
    else if bytes_eq w (codes "os") then Os
    else if bytes_eq w (codes "arch") then Arch
    else if bytes_eq w (codes "target") then Target
    else if names_flags w then Flags
    else Variant

-- not `-`
abbrev pub is_other : ℕ → Bool
is_other b = not (b == 45)

abbrev pub is_colon : ℕ → Bool
is_colon b = b == 58

-- a part of P-O-T
abbrev pub is_piece : List ℕ → Bool
is_piece [] = false
is_piece (b ∷ rest) = list_all (λ c. is_value_byte c && is_other c) (b ∷ rest)

-- `t`, `a:b`, `a:`, `:b` or `:`
abbrev pub IsTarget : List ℕ → Type 0
IsTarget value = count_by is_colon value ≤ 1

-- P-O-T: two `-`, no part is empty, and the last is one target item
abbrev pub IsArch : List ℕ → Type 0
IsArch value =
    (p : List ℕ) × (o : List ℕ) × (t : List ℕ) × (is_piece p ≡ true) × (is_piece o ≡ true) × (is_piece t ≡ true) × IsTarget t
    × (value ≡ p ++ 45 ∷ (o ++ 45 ∷ t))

abbrev pub IsOne : List (List ℕ) → Type 0
IsOne [] = ⊥
IsOne (v ∷ []) = Unit {0}
IsOne (v ∷ u ∷ values) = ⊥

-- the values that a key takes
abbrev pub Takes : KeyKind → List (List ℕ) → Type 0
Takes Platform values = IsOne values
Takes Os values = IsOne values
Takes Arch values = IsOne values × AllByRecursion IsArch values
Takes Target values = AllByRecursion IsTarget values
Takes Flags values = ⊥
Takes Variant values = Unit {0}
