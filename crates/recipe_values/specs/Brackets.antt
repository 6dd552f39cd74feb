-- Brackets, and what stands between the commas in them.
use Rattle.std.specs.Prelude.{ℕ, ◌==◌, ◌&&◌, ◌||◌, Bool, not, List, [], ◌∷◌, length, Ok, Err, if◌then◌else◌}
use Rattle.recipe_lexer.specs.declared.token.Token.{Token}
use Rattle.recipe_lexer.specs.declared.token.TokenKind.{TokenKind}
use Rattle.recipe_lexer.specs.declared.token.TokenKind.TheVariants.{Op}
use Rattle.recipe_values.specs.declared.value.Scalar.{Scalar}
use Rattle.recipe_values.specs.declared.value.Scalar.TheVariants.{Nested}
use Rattle.recipe_values.specs.declared.value.Element.{Element}
use Rattle.recipe_values.specs.declared.value.Value.{Value}
use Rattle.recipe_values.specs.declared.value.Value.TheVariants.{One, Many}
use Rattle.recipe_values.specs.declared.value.PlacedValue.{PlacedValue}
use Rattle.recipe_values.specs.declared.segment.Atom.{Atom}
use Rattle.recipe_values.specs.declared.segment.Atom.TheVariants.{Plain, Inner}
use Rattle.recipe_values.specs.declared.segment.Segment.{Segment}
use Rattle.recipe_values.specs.declared.levels.Level.{Level}
use Rattle.recipe_values.specs.declared.levels.Levels.{Levels}
use Rattle.recipe_values.specs.Reads.{Read, then_read, join}
use Rattle.recipe_values.specs.Values.{is_empty, segment_value}

-- ---- segments of a bracket

-- a comma may stand last, and nothing behind it
abbrev pub without_last : List Segment → List Segment
without_last [] = []
without_last (s ∷ []) = if is_empty s.atoms then [] else s ∷ []
without_last (s ∷ t ∷ more) = s ∷ without_last (t ∷ more)

abbrev pub segments_of : Level → List Segment
segments_of level = without_last (level.here ∷ level.behind)

-- ---- tuples, lists, and values in brackets

-- a tuple or list in another one counts as such and no more
abbrev pub scalar_of : Value → Scalar
scalar_of (One scalar) = scalar
scalar_of (Many elements) = Nested

abbrev pub element : PlacedValue → Element
element r = record { scalar = scalar_of r.value; place = r.place }

unfoldable pub elements : List ℕ → List Segment → Read (List Element)
elements bytes [] = Ok []
elements bytes (s ∷ more) = join (then_read (segment_value bytes s) (λ r. Ok (element r ∷ []))) (elements bytes more)

abbrev pub collection : ℕ → List Element → PlacedValue
collection place found = record { value = Many found; place = place; token = place }

abbrev pub many : List ℕ → ℕ → List Segment → Read PlacedValue
many bytes place segments = then_read (elements bytes segments) (λ found. Ok (collection place found))

-- a value in brackets has its first byte at the bracket
abbrev pub bracketed : ℕ → Read PlacedValue → Read PlacedValue
bracketed place read = then_read read (λ r. Ok (record r { place = place }))

-- where no comma stands in them, round brackets with something in them stand around a value
abbrev pub is_around : ℕ → Level → Bool
is_around sign level = sign == 40 && not (is_empty level.here.atoms) && length level.behind == 0

-- what brackets stand for that begin with this sign
unfoldable pub group : List ℕ → ℕ → ℕ → Level → Read PlacedValue
group bytes sign place level =
    if is_around sign level then bracketed place (segment_value bytes level.here)
    else if sign == 40 || sign == 91 then many bytes place (segments_of level)
    else Err place

-- ---- the tokens of a call, from the right

abbrev pub nothing_before : ℕ → Segment
nothing_before stop = record { atoms = []; stop = stop }

-- no token yet; a closing bracket stands behind
abbrev pub ending : ℕ → Level
ending stop = record { here = nothing_before stop; behind = [] }

abbrev pub put_atom : Atom → Levels → Levels
put_atom a levels =
    record levels { inner = record levels.inner { here = record levels.inner.here { atoms = a ∷ levels.inner.here.atoms } } }

abbrev pub cut : ℕ → Levels → Levels
cut place levels =
    record levels { inner = record { here = nothing_before place; behind = levels.inner.here ∷ levels.inner.behind } }

abbrev pub enter : ℕ → Levels → Levels
enter place levels = record { inner = ending place; around = levels.inner ∷ levels.around }

-- a bracket that nothing closes would be passed over; the tokens of a call have none
abbrev pub leave_by : List ℕ → ℕ → ℕ → Level → List Level → Levels
leave_by bytes sign place level [] = record { inner = level; around = [] }
leave_by bytes sign place level (outer ∷ around) =
    put_atom (Inner place (group bytes sign place level)) (record { inner = outer; around = around })

abbrev pub leave : List ℕ → ℕ → ℕ → Levels → Levels
leave bytes sign place levels = leave_by bytes sign place levels.inner levels.around

abbrev pub ends_bracket : ℕ → Bool
ends_bracket b = b == 41 || b == 93 || b == 125

abbrev pub begins_bracket : ℕ → Bool
begins_bracket b = b == 40 || b == 91 || b == 123

abbrev pub with_sign : List ℕ → ℕ → Token → Levels → Levels
with_sign bytes b t levels =
    if ends_bracket b then enter t.start levels
    else if begins_bracket b then leave bytes b t.start levels
    else if b == 44 then cut t.start levels
    else put_atom (Plain t) levels

abbrev pub with_kind : List ℕ → TokenKind → Token → Levels → Levels
with_kind bytes (Op b) t levels = with_sign bytes b t levels
with_kind bytes kind t levels = put_atom (Plain t) levels

-- the brackets that a list of tokens stands in, which ends in front of `stop`
unfoldable pub levels_of : List ℕ → ℕ → List Token → Levels
levels_of bytes stop [] = record { inner = ending stop; around = [] }
levels_of bytes stop (t ∷ rest) = with_kind bytes t.kind t (levels_of bytes stop rest)

-- what stands between the commas of a call that has these tokens in its brackets, the closing one at `stop`
unfoldable pub arguments_of : List ℕ → ℕ → List Token → List Segment
arguments_of bytes stop tokens = segments_of (levels_of bytes stop tokens).inner
