-- The forms that are not read, by the first bytes of an item.
use Rattle.std.specs.Prelude.{ℕ, ◌&&◌, ◌||◌, not, Bool, true, false, List, take, drop, Option, Some, None, if◌then◌else◌, codes, nat_eq}
use Rattle.std.specs.List.{starts_with}
use Rattle.spec_grammar.specs.Signs.{name_length}
use Rattle.spec_grammar.specs.Keys.{key_of}
use Rattle.spec_grammar.specs.Right.{may_nest, may_have_all}
use Rattle.spec_grammar.specs.declared.key.KeyKind.{KeyKind}
use Rattle.spec_grammar.specs.declared.key.KeyKind.TheVariants as key
use Rattle.spec_grammar.specs.declared.mode.Mode.{Mode}
use Rattle.spec_grammar.specs.declared.fault.Form.{Form}
use Rattle.spec_grammar.specs.declared.fault.Form.TheVariants.{Propagation, ConcreteAssign, AnyValue, Quoted, Flags, Reference, EdgeAttributes, Namespace, NestedDependency, ProvidesForm}

abbrev pub begins : List ℕ → List ℕ → Bool
begins mark text = starts_with nat_eq text mark

abbrev pub is_flags : KeyKind → Bool
is_flags key.Flags = true
is_flags other = false

-- behind a NAME; `named` says whether the NAME begins a part
unfoldable pub form_behind : Mode → Bool → List ℕ → List ℕ → Option Form
form_behind mode named w rest =
    if begins (codes "==") rest then Some Propagation
    else if begins (codes ":=") rest then Some ConcreteAssign
    else if begins (codes "=*") rest then Some AnyValue
    else if begins (codes "=\"") rest || begins (codes "='") rest then Some Quoted
    else if begins (codes "=") rest && is_flags (key_of w) then Some Flags
    else if begins (codes ".") rest && named then Some Namespace
    else if begins (codes "=") rest && not (may_have_all mode) then Some ProvidesForm
    else None

-- at a sign
unfoldable pub form_of_sign : Mode → List ℕ → Option Form
form_of_sign mode text =
    if begins (codes "++") text || begins (codes "~~") text || begins (codes "--") text then Some Propagation
    else if begins (codes "/") text then Some Reference
    else if begins (codes "^[") text then Some EdgeAttributes
    else if begins (codes "^") text && not (may_nest mode) then Some NestedDependency
    else if (begins (codes "+") text || begins (codes "~") text || begins (codes "-") text || begins (codes "%") text)
    && not (may_have_all mode) then Some ProvidesForm
    else None

-- the form that an item begins
abbrev pub form_with : Mode → Bool → ℕ → List ℕ → Option Form
form_with mode named n text = if nat_eq n 0 then form_of_sign mode text else form_behind mode named (take n text) (drop n text)

unfoldable pub form_at : Mode → Bool → List ℕ → Option Form
form_at mode named text = form_with mode named (name_length text) text
