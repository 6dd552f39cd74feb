-- What can be told in one way only.
use Rattle.std.proofs.Common.{◌≡◌, sym, ap, ◌∙◌, ℕ, List, Option, Some, None, Result, Ok, unwrap_or}
use Rattle.serde_json.specs.Data.{Data}
use Rattle.json_readers.specs.Json.{IsJson}

-- bytes are the text of one value at most
pub json_one : (bytes : List ℕ) (d e : Data) → IsJson bytes d → IsJson bytes e → d ≡ e
json_one bytes d e h k = ap (λ o. unwrap_or o d) (sym h.1 ∙ k.1)

-- a result is one value at most
pub ok_one : {T E : Type 0} (r : Result T E) (x y : T) → r ≡ Ok x → r ≡ Ok y → x ≡ y
ok_one {T = T} {E = E} r x y p q = let is : (let R : Type 0 = Result T E in let l : R = Ok x in let s : R = Ok y in l ≡ s) = sym p ∙ q in cc

-- an option is one value at most
pub some_one : {A : Type 0} (o : Option A) (x y : A) → o ≡ Some x → o ≡ Some y → x ≡ y
some_one {A = A} o x y p q = let is : (let T : Type 0 = Option A in let l : T = Some x in let r : T = Some y in l ≡ r) = sym p ∙ q in cc

-- an option is not none and a value
pub none_or_some : {A B : Type 0} (o : Option A) (x : A) → o ≡ None → o ≡ Some x → B
none_or_some {A = A} o x p q = absurd (let is : (let T : Type 0 = Option A in let l : T = None in let r : T = Some x in l ≡ r) =
    sym p ∙ q in cc)
