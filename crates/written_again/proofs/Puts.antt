-- A file that is put.
use Rattle.std.proofs.Common.{◌≡◌, ◌≢◌, refl, ap, ◌∙◌, cond, ℕ, Bool, true, false, List, [], ◌∷◌, map, Option, Some, None}
use Rattle.std.specs.Prelude.{Decides}
use Rattle.std.specs.Ordering.{nat_cmp}
use Rattle.std.specs.List.{filter_map, cons_option}
use Rattle.std.specs.Cmp.Lexicographic.{slice_cmp, nat_list_cmp_total}
use Rattle.std.specs.FinMap.{get, insert, entries, put, get-insert, entries-insert}
use Rattle.std.specs.FinMap.Entries.{by_order}
use Rattle.std.specs.Str.{bytes_eq}
use Rattle.std.specs.declared.cmp.Ordering.{Ordering}
use Rattle.std.specs.declared.cmp.Ordering.TheVariants.{Less, Equal, Greater}
use Rattle.std.proofs.lemmas.Map.Text.{is_eq-slice_cmp}
use Rattle.std.proofs.lemmas.Slice.Eq.{bytes_eq-Decides}
use Rattle.outside_desk.specs.Files.{Files}
use Rattle.outside_desk.specs.Listing.{name_below, names_in, with_names}

looked_up : (files : Files) (path bytes other : List ℕ)
    → get (insert files path bytes) other ≡ cond (bytes_eq other path) (Some bytes) (get files other)
looked_up files path bytes other =
    get-insert nat_list_cmp_total files path bytes other ∙ ap (λ b. cond b (Some bytes) (get files other)) (is_eq-slice_cmp other path)

-- it stands at its path
pub there : (files : Files) (path bytes : List ℕ) → get (insert files path bytes) path ≡ Some bytes
there files path bytes =
    looked_up files path bytes path ∙ ap (λ b. cond b (Some bytes) (get files path)) ((bytes_eq-Decides path path).1 refl)

differs : {P : Type 0} (b : Bool) → Decides b P → ¬ P → b ≡ false
differs true decided not = absurd (not (decided.0 refl))
differs false decided not = refl

-- and changes no other
pub others : (files : Files) (path bytes other : List ℕ) → other ≢ path → get (insert files path bytes) other ≡ get files other
others files path bytes other apart =
    looked_up files path bytes other
    ∙ ap (λ b. cond b (Some bytes) (get files other)) (differs (bytes_eq other path) (bytes_eq-Decides other path) apart)

-- ---- the names in a folder

passed : (f : List ℕ → Option (List ℕ)) (k v : List ℕ) → f k ≡ None → (es : List (List ℕ × List ℕ))
    → filter_map f (map (λ e. e.0) (put (slice_cmp nat_cmp) k v es)) ≡ filter_map f (map (λ e. e.0) es)
passed f k v none [] = ap (λ o. cons_option o []) none
passed f k v none (e ∷ es) = passed-cases (passed f k v none es) (slice_cmp nat_cmp k e.0)
  where
    passed-cases : filter_map f (map (λ (e : List ℕ × List ℕ). e.0) (put (slice_cmp nat_cmp) k v es)) ≡ filter_map f (map (λ e. e.0) es)
        → (o : Ordering) → filter_map f (map (λ (e : List ℕ × List ℕ). e.0)
        (by_order o ((k, v) ∷ e ∷ es) ((e.0, v) ∷ es) (e ∷ put (slice_cmp nat_cmp) k v es)))
        ≡ filter_map f (map (λ e. e.0) (e ∷ es))
    passed-cases later Less = ap (λ o. cons_option o (filter_map f (map (λ e. e.0) (e ∷ es)))) none
    passed-cases later Equal = refl
    passed-cases later Greater = ap (cons_option (f e.0)) later

-- a file that is not in a folder changes no name in it
pub listed : (files : Files) (path bytes folder : List ℕ) → name_below folder path ≡ None
    → names_in (insert files path bytes) folder ≡ names_in files folder
unfolding names_in
listed files path bytes folder none =
    ap (λ es. with_names [] (filter_map (name_below folder) (map (λ e. e.0) es))) (entries-insert nat_list_cmp_total files path bytes)
    ∙ ap (with_names []) (passed (name_below folder) path bytes none (entries files))
