-- What readers make of a value counts no more than the value weighs.
use Rattle.std.proofs.Common.{◌≡◌, sym, subst, ℕ, ◌+◌, ◌≤◌, List, [], ◌∷◌, length, Option, Some, None, Ok, sum_by, arith}
use Rattle.std.proofs.lemmas.List.Sums.{sum_by-cons}
use Rattle.serde_json.specs.Data.{Data, null, boolean, number, string, array, object, Items, no_items, item, Members, no_members, member}
use Rattle.serde_json.specs.Find.{as_array, get_member}
use Rattle.std.specs.Prelude.{decimal}
use Rattle.json_readers.specs.Faults.{Reading, ◌>>=◌, below, given}
use Rattle.json_readers.specs.Lists.{and_then, items_from, list_of}
use Rattle.json_readers.specs.Maps.{and_entry, entries_of, entry_of, known_map_of, map_of, named}
use Rattle.json_readers.specs.Objects.{field, may, members_of, need, null_or}
use Rattle.json_readers.specs.Sets.{filled, filled_by, set_of, unrepeated}
use Rattle.file_limits.specs.Weights.{weight, items_weight, members_weight, weight_or_none, weight_at}
use Rattle.json_readers.proofs.Steps.{below_ok, bind_ok, entry_ok, field_ok, items_ok, may_ok, members_ok, named_ok, need_ok, ok_same}

-- what is read of a value counts no more than the value weighs
abbrev pub CountsWithin : {T : Type 0} → (T → ℕ) → (Data → Reading T) → Type 0
CountsWithin {T} count read = (d : Data) (x : T) → read d ≡ Ok x → count x ≤ weight d

-- what is not there counts nothing
abbrev pub count_or_none : {T : Type 0} → (T → ℕ) → Option T → ℕ
count_or_none count None = 0
count_or_none count (Some x) = count x

-- each value weighs something
pub some-weight : (d : Data) → 1 ≤ weight d
some-weight null = omega arith
some-weight (boolean b) = omega arith
some-weight (number n) = omega arith
some-weight (string text) = omega arith
some-weight (array ds) = omega arith
some-weight (object ms) = omega arith

-- a reader of which nothing is counted
pub none-counts : {T : Type 0} (read : Data → Reading T) → CountsWithin (λ x. 0) read
none-counts read d x e = omega arith

-- a reader whose values count one each
pub one-counts : {T : Type 0} (read : Data → Reading T) → CountsWithin (λ x. 1) read
one-counts read d x e = some-weight d

-- a reader whose values count less
pub less-counts : {T : Type 0} (count fewer : T → ℕ) (read : Data → Reading T) → ((x : T) → fewer x ≤ count x) → CountsWithin count read
    → CountsWithin fewer read
less-counts count fewer read le within d x e = omega (arith, le x, within d x e)

-- a reader whose values are seen by a function
pub seen-counts : {A B : Type 0} (count : A → ℕ) (seen : B → ℕ) (read : Data → Reading A) (f : A → B) → ((x : A) → seen (f x) ≤ count x)
    → CountsWithin count read → CountsWithin seen (λ d. read d >>= λ x. Ok (f x))
seen-counts {A} {B} count seen read f le within d y e =
    let x = bind_ok {B = B} (read d) (λ x. Ok (f x)) y e in
    subst (λ z. seen z ≤ weight d) (ok_same (f x.0) y x.2) (omega (arith, le x.0, within d x.0 x.1))

-- null counts nothing
pub null_or-counts : {T : Type 0} (count : T → ℕ) (read : Data → Reading T) → CountsWithin count read
    → CountsWithin (count_or_none count) (null_or read)
null_or-counts {T} count read within d x e = null_or-counts-cases d x e
  where
    some : (d : Data) (x : Option T) → (read d >>= λ y. Ok (Some y)) ≡ Ok x → count_or_none count x ≤ weight d
    some = seen-counts count (count_or_none count) read (λ y. Some y) (λ y. omega arith) within

    null_or-counts-cases : (d : Data) (x : Option T) → null_or read d ≡ Ok x → count_or_none count x ≤ weight d
    null_or-counts-cases null x e = subst (λ o. count_or_none count o ≤ 1) (ok_same {T = Option T} None x e) (omega arith)
    null_or-counts-cases (boolean b) x e = some (boolean b) x e
    null_or-counts-cases (number n) x e = some (number n) x e
    null_or-counts-cases (string text) x e = some (string text) x e
    null_or-counts-cases (array ds) x e = some (array ds) x e
    null_or-counts-cases (object ms) x e = some (object ms) x e

-- ---- lists

module _ {T : Type 0} (count : T → ℕ) (read : Data → Reading T) (within : CountsWithin count read) where
  -- the items, each with one more
  pub items-count : (i : ℕ) (ds : Items) (xs : List T) → items_from read i ds ≡ Ok xs → length xs + sum_by count xs ≤ items_weight ds
  items-count i no_items xs e = subst (λ (l : List T). length l + sum_by count l ≤ 0) (ok_same [] xs e) (omega arith)
  items-count i (item d ds) xs e =
      let first = bind_ok {B = List T} (below (decimal i) (read d)) (λ x. and_then x (items_from read (i + 1) ds)) xs e in
      let rest = bind_ok {B = List T} (items_from read (i + 1) ds) (λ ys. Ok (first.0 ∷ ys)) xs first.2 in
      subst (λ (l : List T). length l + sum_by count l ≤ 1 + weight d + items_weight ds) (ok_same (first.0 ∷ rest.0) xs rest.2)
      (omega (
        arith,
        sum_by-cons count first.0 rest.0,
        within d first.0 (below_ok (decimal i) _ first.0 first.1),
        items-count (i + 1) ds rest.0 rest.1,
      ))

  -- a list, with its length
  pub list-counts : CountsWithin (λ xs. length xs + sum_by count xs) (list_of read)
  list-counts d xs e =
      let ds = bind_ok {B = List T} (given (as_array d)) (items_from read 0) xs e in
      let all = items-count 0 ds.0 xs ds.2 in
      subst (λ v. length xs + sum_by count xs ≤ weight v) (sym (items_ok d ds.0 ds.1)) (omega arith)

  -- a list without repeats, with its length
  pub set-counts : (means : List ℕ → Option (List ℕ)) (key : Option (List ℕ))
      → CountsWithin (λ xs. length xs + sum_by count xs) (set_of means key read)
  set-counts means key d xs e =
      let once = bind_ok {B = List T} (given (as_array d) >>= unrepeated means key) (λ _. list_of read d) xs e in
      list-counts d xs once.2

  -- ---- maps

  -- the members, each with its key, its signs and one more
  pub entries-count : (means : List ℕ → Option (List ℕ)) (ms : Members) (xs : List (List ℕ × T)) → entries_of means read ms ≡ Ok xs
      → sum_by (λ entry. length entry.0 + 4 + count entry.1) xs ≤ members_weight ms
  entries-count means no_members xs e =
      subst (λ (l : List (List ℕ × T)). sum_by (λ entry. length entry.0 + 4 + count entry.1) l ≤ 0) (ok_same [] xs e) (omega arith)
  entries-count means (member key d ms) xs e =
      let first = bind_ok {B = List (List ℕ × T)} (entry_of means read key d) (λ x. and_entry key x (entries_of means read ms)) xs e in
      let rest = bind_ok {B = List (List ℕ × T)} (entries_of means read ms) (λ ys. Ok ((key, first.0) ∷ ys)) xs first.2 in
      subst (λ (l : List (List ℕ × T)). sum_by (λ entry. length entry.0 + 4 + count entry.1) l ≤ members_weight (member key d ms))
      (ok_same ((key, first.0) ∷ rest.0) xs rest.2)
      (omega (
        arith,
        sum_by-cons (λ (entry : List ℕ × T). length entry.0 + 4 + count entry.1) (key, first.0) rest.0,
        within d first.0 (entry_ok means read key d first.0 first.1),
        entries-count means ms rest.0 rest.1,
      ))

  without_keys : (xs : List (List ℕ × T))
      → length xs + sum_by (λ entry. count entry.1) xs ≤ sum_by (λ entry. length entry.0 + 4 + count entry.1) xs
  without_keys [] = omega arith
  without_keys (x ∷ xs) =
      omega (
        arith,
        sum_by-cons (λ (entry : List ℕ × T). count entry.1) x xs,
        sum_by-cons (λ (entry : List ℕ × T). length entry.0 + 4 + count entry.1) x xs,
        without_keys xs,
      )

  -- a map, with its length
  pub map-counts : (means : List ℕ → Option (List ℕ))
      → CountsWithin (λ xs. length xs + sum_by (λ entry. count entry.1) xs) (map_of means read)
  map-counts means d xs e =
      let ms = bind_ok {B = List (List ℕ × T)} (members_of d) (λ ms. entries_of means read ms) xs e in
      let all = entries-count means ms.0 xs ms.2 in
      subst (λ v. length xs + sum_by (λ (entry : List ℕ × T). count entry.1) xs ≤ weight v) (sym (members_ok d ms.0 ms.1))
      (omega (arith, without_keys xs))

  -- a map whose keys are all known, with its length
  pub known_map-counts : (means : List ℕ → Option (List ℕ))
      → CountsWithin (λ xs. length xs + sum_by (λ entry. count entry.1) xs) (known_map_of means read)
  known_map-counts means d xs e =
      let ms = bind_ok {B = List (List ℕ × T)} (named means d) (λ ms. entries_of means read ms) xs e in
      let all = entries-count means ms.0 xs ms.2 in
      subst (λ v. length xs + sum_by (λ (entry : List ℕ × T). count entry.1) xs ≤ weight v) (sym (named_ok means d ms.0 ms.1))
      (omega (arith, without_keys xs))

  -- ---- keys of an object

  at-key : (key : List ℕ) (ms : Members) (x : T) → (d : Data) × (get_member key ms ≡ Some d) × (read d ≡ Ok x) → count x ≤ weight_at ms key
  at-key key ms x h = subst (λ o. count x ≤ weight_or_none o) (sym h.1) (within h.0 x h.2)

  -- what must stand at a key
  pub need-counts : (key : List ℕ) (ms : Members) (x : T) → need read key ms ≡ Ok x → count x ≤ weight_at ms key
  need-counts key ms x e = at-key key ms x (need_ok read key ms x e)

  -- what may stand at a key
  pub may-counts : (key : List ℕ) (ms : Members) (found : Option T) → may read key ms ≡ Ok found
      → count_or_none count found ≤ weight_at ms key
  may-counts key ms None e = omega arith
  may-counts key ms (Some x) e = at-key key ms x (may_ok read key ms x e)

  -- what must stand at a key among others
  pub field-counts : (odd : Option (List ℕ)) (key : List ℕ) (ms : Members) (x : T) → field read odd key ms ≡ Ok x
      → count x ≤ weight_at ms key
  field-counts odd key ms x e = at-key key ms x (field_ok read odd key ms x e)

-- a list that is not empty
pub filled-counts : {T : Type 0} (count : List T → ℕ) (read : Data → Reading (List T)) → CountsWithin count read
    → CountsWithin count (filled_by read)
filled-counts {T} count read within d xs e =
    let ys = bind_ok {B = List T} (read d) filled xs e in
    subst (λ (l : List T). count l ≤ weight d) (same ys.0 xs ys.2) (within d ys.0 ys.1)
  where
    same : (ys xs : List T) → filled ys ≡ Ok xs → ys ≡ xs
    same [] xs e = absurd (cc)
    same (y ∷ ys) xs e = ok_same (y ∷ ys) xs e
