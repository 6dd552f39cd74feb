-- The items of a list, read by a loop.
use Rattle.std.proofs.Common.{◌≡◌, sym, ap, ◌∙◌, subst, ℕ, ◌+◌, ◌<◌, ◌≤◌, List, [], ◌∷◌, ◌++◌, length, drop, get_or, decimal, Ok, Err}
use Rattle.std.proofs.lemmas.List.{drop_more, drop_all}
use Rattle.serde_json.specs.Data.{Data}
use Rattle.serde_json.specs.View.{view, items_view}
use Rattle.serde_json.specs.declared.value.Value.{Value}
use Rattle.settings_reader.specs.Told.{Told, Tells, Below}
use Rattle.settings_reader.specs.Parsed.{AreEach, items_at}
use Rattle.settings_reader.specs.declared.stop.Stop.{Stop}
use Rattle.settings_reader.proofs.Each.{Continues, each_end, each_more, each_stop}

-- what is still to be read at a place
abbrev pub rest_at : ℕ → List Value → List (List ℕ × Data)
rest_at i items = items_at i (items_view (drop i items))

rest_more : (items : List Value) (i : ℕ) (x : Value) → i < length items → x ≡ get_or items i x
    → rest_at i items ≡ (decimal i, view x) ∷ rest_at (i + 1) items
rest_more items i x lt is =
    ap (λ l. items_at i (items_view l)) (drop_more items i x lt) ∙ ap (λ y. (decimal i, view y) ∷ rest_at (i + 1) items) (sym is)

abbrev pub So : {T : Type 0} → (Data → Told T) → List Value → ℕ → List T → Type 0
So tells items i read = Continues (λ key. tells) (items_at 0 (items_view items)) (rest_at i items) read

at_item : {T : Type 0} (tells : Data → Told T) (items : List Value) (i : ℕ) (x : Value) (read : List T) → So tells items i read
    → i < length items → x ≡ get_or items i x
    → Continues (λ key. tells) (items_at 0 (items_view items)) ((decimal i, view x) ∷ rest_at (i + 1) items) read
at_item tells items i x read was lt is =
    let P : List (List ℕ × Data) → Type 0 = λ rest. Continues (λ key. tells) (items_at 0 (items_view items)) rest read in
    subst P (rest_more items i x lt is) was

-- one item of a list more was read
pub item_more : {T : Type 0} (tells : Data → Told T) (items : List Value) (i : ℕ) (x : Value) (read new : List T) (y : T)
    → So tells items i read → i < length items → x ≡ get_or items i x
    → Below (decimal i) (tells (view x)) (Ok y) → new ≡ read ++ y ∷ [] → So tells items (i + 1) new
item_more tells items i x read new y was lt is below more =
    each_more (λ key. tells) (items_at 0 (items_view items)) (decimal i) (view x) (rest_at (i + 1) items) read new y
    (at_item tells items i x read was lt is) below more

-- an item that is refused refuses the list
pub item_stop : {T : Type 0} (tells : Data → Told T) (items : List Value) (i : ℕ) (x : Value) (read : List T) (s : Stop)
    → So tells items i read → i < length items → x ≡ get_or items i x
    → Tells {T = T} (Err s) (Below (decimal i) (tells (view x)))
    → Tells {T = List T} (Err s) (AreEach (λ key. tells) (items_at 0 (items_view items)))
item_stop tells items i x read s was lt is below =
    each_stop (λ key. tells) (items_at 0 (items_view items)) (decimal i) (view x) (rest_at (i + 1) items) read s
    (at_item tells items i x read was lt is) below

-- at the end all items were read
pub item_end : {T : Type 0} (tells : Data → Told T) (items : List Value) (i : ℕ) (read : List T) → So tells items i read → length items ≤ i
    → AreEach (λ key. tells) (items_at 0 (items_view items)) (Ok read)
item_end tells items i read was le =
    let P : List (List ℕ × Data) → Type 0 = λ rest. Continues (λ key. tells) (items_at 0 (items_view items)) rest read in
    each_end (λ key. tells) (items_at 0 (items_view items)) read (subst P (ap (λ l. items_at i (items_view l)) (drop_all i items le)) was)
