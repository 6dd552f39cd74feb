-- A `BTreeMap` with text keys, as a finite map from bytes to bytes.
use Rattle.std.proofs.Common.{◌≡◌, refl, sym, ap, ◌∙◌, ℕ, List, [], ◌∷◌, map, Bool, true, false, cond, Option, Some, Vec, String}
use Rattle.std.specs.Option.{option_map}
use Rattle.std.specs.Str.{bytes_eq}
use Rattle.std.specs.Ordering.{nat_cmp}
use Rattle.std.specs.Cmp.{eq_by_cmp_equiv}
use Rattle.std.specs.Cmp.Lexicographic.{slice_cmp, nat_list_cmp_total}
use Rattle.std.specs.Map.{lookup, update}
use Rattle.std.specs.BTreeMap.{BTreeMap, is_at, get_by_text}
use Rattle.std.specs.FinMap.{get, find, insert, get-insert, get-from_entries, same_map, nat_cmp-IsAntisymmetric, slice_cmp-IsAntisymmetric}
use Rattle.std.specs.declared.alloc.Global.{Global}
use Rattle.std.proofs.lemmas.Map.Text.{is_eq-slice_cmp, text_cmp}
use Rattle.outside_desk.specs.FileMap.{file_of, files_of}

-- the bytes of a vector
abbrev pub items_of : Option (Vec ℕ Global) → Option (List ℕ)
items_of file = option_map (λ v. v.items) file

-- a look-up by path in the map is the one in its entries
pub find_file : (es : List (String Global × Vec ℕ Global)) (q : List ℕ)
    → find (slice_cmp nat_cmp) q (map file_of es) ≡ items_of (lookup (is_at (text_cmp q)) es)
find_file [] q = refl
find_file (e ∷ es) q =
    rw (find_file es q) (elim (is_at (text_cmp q) e.0) as
    (λ b. cond b (Some e.1.items) (items_of (lookup (is_at (text_cmp q)) es))
    ≡ items_of (cond b (Some e.1) (lookup (is_at (text_cmp q)) es))) [ true ↦ refl | false ↦ refl ])

-- what the files have at a path
pub get-files_of : (m : BTreeMap (String Global) (Vec ℕ Global)) (q : List ℕ) → get (files_of m) q ≡ items_of (get_by_text m q)
get-files_of m q = get-from_entries nat_list_cmp_total (map file_of m.entries) q ∙ find_file m.entries q

chosen_items : (b : Bool) (v : Vec ℕ Global) (f : Option (Vec ℕ Global)) → items_of (cond b (Some v) f) ≡ cond b (Some v.items) (items_of f)
chosen_items true v f = refl
chosen_items false v f = refl

-- a map that was changed at one path stands for the files with that file
pub files_of-put : (m n : BTreeMap (String Global) (Vec ℕ Global)) (path : List ℕ) (v : Vec ℕ Global)
    → ((q : List ℕ) → get_by_text n q ≡ update bytes_eq (get_by_text m) path (Some v) q) → files_of n ≡ insert (files_of m) path v.items
files_of-put m n path v h = same_map nat_list_cmp_total (slice_cmp-IsAntisymmetric nat_cmp-IsAntisymmetric) _ _ (λ q.
    get-files_of n q ∙ ap items_of (h q) ∙ chosen_items (bytes_eq path q) v (get_by_text m q)
    ∙ ap (λ f. cond (bytes_eq path q) (Some v.items) f) (sym (get-files_of m q))
    ∙ ap (λ b. cond b (Some v.items) (get (files_of m) q)) (sym (is_eq-slice_cmp path q) ∙ (eq_by_cmp_equiv nat_list_cmp_total).symm path q)
    ∙ sym (get-insert nat_list_cmp_total (files_of m) path v.items q))
