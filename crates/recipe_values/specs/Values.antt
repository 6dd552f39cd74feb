-- Values: what stands between two commas, and what it stands for.
use Rattle.std.specs.Prelude.{ℕ, ◌==◌, ◌&&◌, nat_lt, Bool, true, false, List, [], ◌∷◌, length, Option, Some, None, Ok, Err, if◌then◌else◌, codes}
use Rattle.std.specs.List.{list_all, slice_get}
use Rattle.std.specs.Char.{is_ascii_digit}
use Rattle.std.specs.Str.{bytes_eq}
use Rattle.recipe_lexer.specs.declared.token.Token.{Token}
use Rattle.recipe_statements.specs.Lines.{word, is_text_kind}
use Rattle.recipe_values.specs.declared.value.Scalar.{Scalar}
use Rattle.recipe_values.specs.declared.value.Scalar.TheVariants.{Text, Number, Truth, Nothing}
use Rattle.recipe_values.specs.declared.value.Value.TheVariants.{One}
use Rattle.recipe_values.specs.declared.value.PlacedValue.{PlacedValue}
use Rattle.recipe_values.specs.declared.segment.Atom.{Atom}
use Rattle.recipe_values.specs.declared.segment.Atom.TheVariants.{Plain, Inner}
use Rattle.recipe_values.specs.declared.segment.Segment.{Segment}
use Rattle.recipe_values.specs.Reads.{Read, then_read, join}
use Rattle.recipe_values.specs.Strings.{string, as_text}

-- ---- segments

abbrev pub is_empty : List Atom → Bool
is_empty atoms = length atoms == 0

abbrev pub atom_place : Atom → ℕ
atom_place (Plain t) = t.start
atom_place (Inner place read) = place

abbrev pub place_by : Option Atom → ℕ → ℕ
place_by None stop = stop
place_by (Some a) stop = atom_place a

-- the first byte of a segment, or that of what stands behind it where it has nothing
abbrev pub place_of : Segment → ℕ
place_of s = place_by (slice_get s.atoms 0) s.stop

-- ---- single values

abbrev pub one : ℕ → Scalar → PlacedValue
one place scalar = record { value = One scalar; place = place; token = place }

abbrev pub is_digits : List ℕ → Bool
is_digits w = nat_lt 0 (length w) && list_all is_ascii_digit w

-- `True`, `False`, `None` and whole numbers are values; another word is none
abbrev pub word_value : ℕ → List ℕ → Read PlacedValue
word_value place w =
    if bytes_eq w (codes "True") then Ok (one place (Truth true))
    else if bytes_eq w (codes "False") then Ok (one place (Truth false))
    else if bytes_eq w (codes "None") then Ok (one place Nothing)
    else if is_digits w then Ok (one place (Number w))
    else Err place

-- a value is read before what stands behind it is looked at, and nothing may stand there
abbrev pub unless_more : ℕ → List Atom → Read PlacedValue → Read PlacedValue
unless_more place behind read = then_read read (λ r. if is_empty behind then Ok r else Err place)

-- ---- strings beside each other

-- the text of an atom, which is to be a string; the value starts at `place`
abbrev pub atom_text : List ℕ → ℕ → Atom → Read (List ℕ)
atom_text bytes place (Plain t) = if is_text_kind t.kind then string bytes t else Err place
atom_text bytes place (Inner start read) = Err place

-- the texts of atoms, joined
unfoldable pub texts : List ℕ → ℕ → List Atom → Read (List ℕ)
texts bytes place [] = Ok []
texts bytes place (a ∷ more) = join (atom_text bytes place a) (texts bytes place more)

abbrev pub text_value : ℕ → Read (List ℕ) → Read PlacedValue
text_value place text = then_read text (λ w. Ok (one place (Text w)))

-- ---- values

-- a value that begins with a token
abbrev pub plain_value : List ℕ → Token → List Atom → Read PlacedValue
plain_value bytes t more =
    if is_text_kind t.kind then text_value t.start (as_text t.start (join (string bytes t) (texts bytes t.start more)))
    else unless_more t.start more (word_value t.start (word bytes t))

abbrev pub value_by : List ℕ → List Atom → ℕ → Read PlacedValue
value_by bytes [] stop = Err stop
value_by bytes (Plain t ∷ more) stop = plain_value bytes t more
value_by bytes (Inner place read ∷ more) stop = unless_more place more read

-- the value that a segment is
unfoldable pub segment_value : List ℕ → Segment → Read PlacedValue
segment_value bytes s = value_by bytes s.atoms s.stop
