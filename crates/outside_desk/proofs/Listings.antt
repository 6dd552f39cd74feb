-- Names in a folder, and the keys of a set of texts.
use Rattle.std.proofs.Common.{◌≡◌, refl, sym, ap, subst, ◌∙◌, ℕ, List, [], ◌∷◌, map, drop, length, Bool, true, false, Option, Some, None, String, option_copied, Vec, if◌then◌else◌, MatchOption}
use Rattle.std.specs.Bool.{nat_eq}
use Rattle.std.specs.List.{starts_with, AllByRecursion}
use Rattle.std.specs.Str.Pattern.{FindsTextPrefix, StripsPrefix}
use Rattle.std.proofs.Common.{Bor}
use Rattle.std.specs.String.{string_bytes}
use Rattle.std.specs.Ordering.{nat_cmp, match_ordering}
use Rattle.std.specs.Cmp.Lexicographic.{slice_cmp}
use Rattle.std.specs.BTreeSet.{insert_key}
use Rattle.std.specs.declared.cmp.Ordering.TheVariants.{Less, Equal, Greater}
use Rattle.std.specs.declared.alloc.Global.{Global}
use Rattle.std.proofs.lemmas.List.{nil_from_length}
use Rattle.std.proofs.lemmas.Str.Pattern.{starts_text}
use Rattle.std.specs.Str.{IsCharBoundary}
use Rattle.std.proofs.lemmas.Cmp.{nat_list_cmp_total}
use Rattle.std.specs.List.Sorted.{IsStrictlySortedBy}
use Rattle.std.specs.Map.{keys_of}
use Rattle.std.specs.BTreeMap.{BTreeMap}
use Rattle.std.specs.FinMap.{entries, keys, empty, from_entries, entries-insert, len-entries, len-empty, put}
use Rattle.std.specs.declared.cmp.Ordering.{Ordering}
use Rattle.outside_desk.specs.FileMap.{file_of, files_of}
use Rattle.outside_desk.specs.Listing.{behind, with_name, AreInOrder}

chosen : (b : Bool) (t : Bool) (x : List ℕ) → b ≡ t → (if b then Some x else None) ≡ (if t then Some x else None)
chosen b t x e = ap (λ c. if c then Some x else None) e

-- a prefix stripped from a path leaves what stands behind it
pub strip_is : (front text : List ℕ) (r : Option (Bor (List ℕ)))
    → MatchOption r (FindsTextPrefix front text None) (λ x. StripsPrefix (FindsTextPrefix front) text x.now)
    → option_copied r ≡ behind front text
unfolding behind
strip_is front text None h = chosen false (starts_with nat_eq text front) (drop (length front) text) (starts_text false front text h)
strip_is front text (Some x) (k, is, same, len) =
    ap Some (same ∙ ap (λ n. drop n text) is.0)
    ∙ chosen true (starts_with nat_eq text front) (drop (length front) text)
    (starts_text true front text (k, is, subst (IsCharBoundary text) (sym is.0) is.2))

-- texts by their bytes
abbrev pub text_order : String Global → String Global → Ordering
text_order a b = slice_cmp nat_cmp (string_bytes a) (string_bytes b)

texts_above : (name : String Global) (names : List (String Global))
    → AllByRecursion (λ n. text_order name n ≡ Less) names
    → AllByRecursion (λ n. slice_cmp nat_cmp (string_bytes name) n ≡ Less) (map string_bytes names)
texts_above name [] above = tt
texts_above name (n ∷ names) above = (above.0, texts_above name names above.1)

-- the texts of a set are in order
pub texts_rise : (names : List (String Global)) → IsStrictlySortedBy text_order names → AreInOrder (map string_bytes names)
unfolding IsStrictlySortedBy
texts_rise [] rise = tt
texts_rise (name ∷ names) rise = (texts_above name names rise.0, texts_rise names rise.1)

-- a set of texts by their bytes
pub inserted : (names : List (String Global)) (name : String Global)
    → map string_bytes (insert_key text_order names name) ≡ with_name (map string_bytes names) (string_bytes name)
inserted [] name = refl
inserted (n ∷ names) name =
    elim (slice_cmp nat_cmp (string_bytes name) (string_bytes n)) as
    (λ o. map string_bytes (match_ordering o (name ∷ n ∷ names) (n ∷ names) (n ∷ insert_key text_order names name))
    ≡ match_ordering o (string_bytes name ∷ string_bytes n ∷ map string_bytes names) (string_bytes n ∷ map string_bytes names)
    (string_bytes n ∷ with_name (map string_bytes names) (string_bytes name))) [
      | Less ↦ refl
      | Equal ↦ refl
      | Greater ↦ ap (λ rest. string_bytes n ∷ rest) (inserted names name)
    ]

-- ---- the paths of files

put_front : (k v : List ℕ) (e : List ℕ × List ℕ) (es : List (List ℕ × List ℕ)) → slice_cmp nat_cmp k e.0 ≡ Less
    → put (slice_cmp nat_cmp) k v (e ∷ es) ≡ (k, v) ∷ e ∷ es
put_front k v e es below = rw below refl

-- the entries of a map are those that it is made of, where their keys rise
pub entries_are : (es : List (String Global × Vec ℕ Global)) → IsStrictlySortedBy text_order (keys_of es)
    → entries (from_entries {R = slice_cmp nat_cmp} (map file_of es)) ≡ map file_of es
unfolding IsStrictlySortedBy
entries_are [] rise = nil_from_length (entries empty) (sym (len-entries empty) ∙ len-empty (slice_cmp nat_cmp) (List ℕ))
entries_are (e ∷ []) rise = entries-insert nat_list_cmp_total (from_entries []) (string_bytes e.0) e.1.items
    ∙ ap (put (slice_cmp nat_cmp) (string_bytes e.0) e.1.items) (entries_are [] tt)
entries_are (e ∷ f ∷ es) rise =
    entries-insert nat_list_cmp_total (from_entries (map file_of (f ∷ es))) (string_bytes e.0) e.1.items
    ∙ ap (put (slice_cmp nat_cmp) (string_bytes e.0) e.1.items) (entries_are (f ∷ es) rise.1)
    ∙ put_front (string_bytes e.0) e.1.items (file_of f) (map file_of es) rise.0.0

paths : (es : List (String Global × Vec ℕ Global)) → map (λ e. e.0) (map file_of es) ≡ map string_bytes (keys_of es)
paths [] = refl
paths (e ∷ es) = ap (λ rest. string_bytes e.0 ∷ rest) (paths es)

-- the paths of the files that a map stands for
pub keys_are : (m : BTreeMap (String Global) (Vec ℕ Global)) → IsStrictlySortedBy text_order (keys_of m.entries)
    → keys (files_of m) ≡ map string_bytes (keys_of m.entries)
keys_are m rise = ap (map (λ e. e.0)) (entries_are m.entries rise) ∙ paths m.entries
