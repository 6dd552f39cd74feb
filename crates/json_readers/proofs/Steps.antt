-- Steps of readers that gave a value.
use Rattle.std.proofs.Common.{◌≡◌, refl, sym, ap, ◌∙◌, ℕ, Bool, true, false, cond, Option, Some, None, Result, Ok, Err, List}
use Rattle.std.specs.Option.{is_some}
use Rattle.std.specs.Ordering.{nat_cmp, is_le}
use Rattle.std.specs.Cmp.Lexicographic.{slice_cmp}
use Rattle.serde_json.specs.Data.{Data, null, boolean, number, string, array, object, Items, Members}
use Rattle.serde_json.specs.Find.{as_array, get_member}
use Rattle.json_readers.specs.declared.fault.Misfit.{Misfit}
use Rattle.json_readers.specs.Faults.{Reading, ◌>>=◌, below, given, wrong_kind}
use Rattle.json_readers.specs.Maps.{entry_of, first_other, named}
use Rattle.json_readers.specs.Objects.{field, first_unknown, known, may, members_of, need, read_needed, read_optional, unless_odd, unless_unknown}

-- a reading is no fault and a value
pub no_ok : {T E : Type 0} (m : E) (x : T) (r : Result T E) → r ≡ Err m → r ≡ Ok x → ⊥
no_ok m x r is e = let wrong : Err m ≡ Ok x = sym is ∙ e in cc

-- what was read is one value
pub ok_same : {T : Type 0} (x y : T) → (let R : Type 0 = Reading T in let l : R = Ok x in let r : R = Ok y in l ≡ r) → x ≡ y
ok_same x y e = cc

-- both steps gave a value
pub bind_ok : {A B : Type 0} (r : Reading A) (f : A → Reading B) (y : B) → (r >>= f) ≡ Ok y → (x : A) × (r ≡ Ok x) × (f x ≡ Ok y)
bind_ok (Ok x) f y e = (x, refl, e)
bind_ok (Err m) f y e = absurd (no_ok m y _ refl e)

-- a value that was read below a key
pub below_ok : {T : Type 0} (key : List ℕ) (r : Reading T) (x : T) → below key r ≡ Ok x → r ≡ Ok x
below_ok key (Ok y) x e = e
below_ok key (Err m) x e = absurd (no_ok _ x _ refl e)

-- a value that was read where a text has its form
pub form_ok : {T : Type 0} (b : Bool) (r : Reading T) (x : T) → cond b r wrong_kind ≡ Ok x → r ≡ Ok x
form_ok true r x e = e
form_ok false r x e = absurd (no_ok _ x _ refl e)

-- a value that was read where a step may refuse
pub unless_ok : {T : Type 0} (b : Bool) (m : Misfit) (r : Reading T) (x : T) → cond b (Err m) r ≡ Ok x → r ≡ Ok x
unless_ok true m r x e = absurd (no_ok m x _ refl e)
unless_ok false m r x e = e

-- ---- lists and objects

-- a value that was read as a list
pub items_ok : (d : Data) (ds : Items) → given (as_array d) ≡ Ok ds → d ≡ array ds
items_ok null ds e = absurd (no_ok _ ds _ refl e)
items_ok (boolean b) ds e = absurd (no_ok _ ds _ refl e)
items_ok (number n) ds e = absurd (no_ok _ ds _ refl e)
items_ok (string text) ds e = absurd (no_ok _ ds _ refl e)
items_ok (array found) ds e = ap array (ok_same found ds e)
items_ok (object ms) ds e = absurd (no_ok _ ds _ refl e)

-- a value that was read as an object
pub members_ok : (d : Data) (ms : Members) → members_of d ≡ Ok ms → d ≡ object ms
members_ok null ms e = absurd (no_ok _ ms _ refl e)
members_ok (boolean b) ms e = absurd (no_ok _ ms _ refl e)
members_ok (number n) ms e = absurd (no_ok _ ms _ refl e)
members_ok (string text) ms e = absurd (no_ok _ ms _ refl e)
members_ok (array ds) ms e = absurd (no_ok _ ms _ refl e)
members_ok (object found) ms e = ap object (ok_same found ms e)

unless_unknown_ok : (found ms : Members) (odd : Option (List ℕ)) → unless_unknown found odd ≡ Ok ms → found ≡ ms
unless_unknown_ok found ms None e = ok_same found ms e
unless_unknown_ok found ms (Some key) e = absurd (no_ok _ ms _ refl e)

-- a value that was read as an object with known keys
pub known_ok : (keys : List (List ℕ)) (d : Data) (ms : Members) → known keys d ≡ Ok ms → d ≡ object ms
known_ok keys d ms e =
    let found = bind_ok (members_of d) (λ found. unless_unknown found (first_unknown keys found)) ms e in
    members_ok d found.0 found.1 ∙ ap object (unless_unknown_ok found.0 ms _ found.2)

-- a value that was read as an object whose keys have a form
pub named_ok : (means : List ℕ → Option (List ℕ)) (d : Data) (ms : Members) → named means d ≡ Ok ms → d ≡ object ms
named_ok means d ms e =
    let found = bind_ok (members_of d) (λ found. unless_unknown found (first_other means found)) ms e in
    members_ok d found.0 found.1 ∙ ap object (unless_unknown_ok found.0 ms _ found.2)

-- ---- what stands at a key

-- a value that was read of what must be there
pub needed_ok : {T : Type 0} (read : Data → Reading T) (found : Option Data) (x : T) → read_needed read found ≡ Ok x
    → (d : Data) × (found ≡ Some d) × (read d ≡ Ok x)
needed_ok read None x e = absurd (no_ok _ x _ refl e)
needed_ok read (Some d) x e = (d, refl, e)

-- what stands at a key that must be there
pub need_ok : {T : Type 0} (read : Data → Reading T) (key : List ℕ) (ms : Members) (x : T) → need read key ms ≡ Ok x
    → (d : Data) × (get_member key ms ≡ Some d) × (read d ≡ Ok x)
need_ok read key ms x e = needed_ok read (get_member key ms) x (below_ok key _ x e)

optional_ok : {T : Type 0} (read : Data → Reading T) (found : Option Data) (x : T) → read_optional read found ≡ Ok (Some x)
    → (d : Data) × (found ≡ Some d) × (read d ≡ Ok x)
optional_ok {T} read None x e = absurd (let wrong : None ≡ Some x = ok_same {T = Option T} None (Some x) e in cc)
optional_ok {T} read (Some d) x e =
    let y = bind_ok {B = Option T} (read d) (λ y. Ok (Some y)) (Some x) e in
    let same : Some y.0 ≡ Some x = ok_same {T = Option T} (Some y.0) (Some x) y.2 in
    let one : y.0 ≡ x = cc in
    (d, refl, y.1 ∙ ap Ok one)

-- what stands at a key, if it is there
pub may_ok : {T : Type 0} (read : Data → Reading T) (key : List ℕ) (ms : Members) (x : T) → may read key ms ≡ Ok (Some x)
    → (d : Data) × (get_member key ms ≡ Some d) × (read d ≡ Ok x)
may_ok {T} read key ms x e = optional_ok read (get_member key ms) x (below_ok {T = Option T} key _ (Some x) e)

-- a value that was read behind the check of odd keys
pub odd_ok : {T : Type 0} (key : List ℕ) (odd : Option (List ℕ)) (r : Reading T) (x : T) → unless_odd key odd r ≡ Ok x → r ≡ Ok x
odd_ok key None r x e = e
odd_ok key (Some k) r x e = unless_ok (is_le (slice_cmp nat_cmp k key)) _ r x e

-- what stands at a key among others that must be there
pub field_ok : {T : Type 0} (read : Data → Reading T) (odd : Option (List ℕ)) (key : List ℕ) (ms : Members) (x : T)
    → field read odd key ms ≡ Ok x → (d : Data) × (get_member key ms ≡ Some d) × (read d ≡ Ok x)
field_ok read odd key ms x e = need_ok read key ms x (odd_ok key odd _ x e)

-- an entry of a map
pub entry_ok : {T : Type 0} (means : List ℕ → Option (List ℕ)) (read : Data → Reading T) (key : List ℕ) (d : Data) (x : T)
    → entry_of means read key d ≡ Ok x → read d ≡ Ok x
entry_ok means read key d x e = form_ok (is_some (means key)) (read d) x (below_ok key _ x e)
