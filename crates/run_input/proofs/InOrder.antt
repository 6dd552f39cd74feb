-- The files of a pile are in byte order of their packages' names.
use Rattle.std.proofs.Common.{◌≡◌, sym, ap, subst, ◌∙◌, ℕ, Bool, true, false, List, [], ◌∷◌, ◌++◌, Option, Some, None, Result, Ok, Err, if◌then◌else◌}
use Rattle.std.specs.Prelude.{◌+◌, ◌^◌, nat_le, nat_lt, length, OnOk}
use Rattle.std.specs.List.Sorted.{IsStrictlySortedBy}
use Rattle.std.proofs.lemmas.List.{map-append, append_assoc, append-nil}
use Rattle.std.proofs.lemmas.Cmp.{nat_list_cmp_total}
use Rattle.std.specs.declared.cmp.Ordering.TheVariants.{Less}
use Rattle.std.specs.FinMap.{keys}
use Rattle.std.specs.List.{filter_map, AllByRecursion}
use Rattle.outside_desk.specs.Files.{Files}
use Rattle.outside_desk.specs.Listing.{name_below, with_name, with_names, names_in}
use Rattle.variant_values.specs.Texts.{byte_cmp, IsInByteOrder}
use Rattle.variant_values.proofs.Keys.{IsStrictlySortedBy-insert_key}
use Rattle.run_answers.specs.declared.refusal.Refusal.{Refusal}
use Rattle.run_answers.specs.declared.refusal.Refusal.TheVariants as refusals
use Rattle.run_answers.specs.declared.stop.ReadStop.{ReadStop}
use Rattle.run_answers.proofs.StageLaws.{ok_same, ok_not_err, then_ok}
use Rattle.run_input.specs.Paths.{packages_path}
use Rattle.run_input.specs.Sources.{Source, SourcePile, Leaves, names_of, no_files, with_source, recipe_file_at, with_entry, with_entries, pile_by, pile_of}

abbrev Names : Type 0
Names = List (List ℕ)

-- ---- the names in a folder

with_names_rise : (names more : Names) → IsInByteOrder names → IsInByteOrder (with_names names more)
with_names_rise names [] ordered = ordered
with_names_rise names (name ∷ more) ordered =
    with_names_rise (with_name names name) more (IsStrictlySortedBy-insert_key nat_list_cmp_total names name ordered)

names_rise : (files : Files) (folder : List ℕ) → IsInByteOrder (names_in files folder)
unfolding names_in IsStrictlySortedBy
names_rise files folder = with_names_rise [] (filter_map (name_below folder) (keys files)) tt

-- ---- a name less, and a file more

all_without : (P : List ℕ → Type 0) (xs : Names) (name : List ℕ) (ys : Names) → AllByRecursion P (xs ++ name ∷ ys)
    → AllByRecursion P (xs ++ ys)
all_without P [] name ys h = h.1
all_without P (x ∷ xs) name ys h = (h.0, all_without P xs name ys h.1)

-- a name that is passed over
pub without : (xs : Names) (name : List ℕ) (ys : Names) → IsInByteOrder (xs ++ name ∷ ys) → IsInByteOrder (xs ++ ys)
unfolding IsStrictlySortedBy
without [] name ys h = h.1
without (x ∷ xs) name ys h = (all_without (λ y. byte_cmp x y ≡ Less) xs name ys h.0, without xs name ys h.1)

chosen : {A : Type 0} (a b c : Bool) (e f g : Refusal) (x y : A)
    → (let T : Type 0 = Result A Refusal in let l : T = (if a then Err e else if b then Err f else if c then Err g else Ok x) in let r : T =
    Ok y in l ≡ r) → x ≡ y
chosen true b c e f g x y is = ok_not_err y e (sym is)
chosen false true c e f g x y is = ok_not_err y f (sym is)
chosen false false true e f g x y is = ok_not_err y g (sym is)
chosen false false false e f g x y is = ok_same x y is

with_file_names : (pile : SourcePile) (name bytes : List ℕ) (next : SourcePile) → with_source pile name bytes ≡ Ok next
    → names_of next ≡ names_of pile ++ name ∷ []
unfolding with_source
with_file_names pile name bytes next is =
    let more : SourcePile = record { files = pile.files ++ (name, bytes) ∷ []; total = pile.total + length bytes } in
    let same : more ≡ next = chosen (nat_le (2 ^ 14) (length pile.files)) (nat_lt (2 ^ 20) (length bytes))
    (nat_lt (2 ^ 28) (pile.total + length bytes))
    refusals.TooManyRecipes (refusals.RecipeTooLarge name) refusals.RecipesTooLarge more next is in
    ap names_of (sym same) ∙ map-append (λ (source : Source). source.0) pile.files ((name, bytes) ∷ [])

-- an entry more, of which the name comes next
entry_rises : (pile : SourcePile) (name : List ℕ) (names : Names) (found : Option (List ℕ)) (next : SourcePile)
    → with_entry pile name found ≡ Ok next → IsInByteOrder (names_of pile ++ name ∷ names) → IsInByteOrder (names_of next ++ names)
entry_rises pile name names None next is ordered =
    subst (λ (p : SourcePile). IsInByteOrder (names_of p ++ names)) (ok_same pile next is) (without (names_of pile) name names ordered)
entry_rises pile name names (Some bytes) next is ordered =
    rw (with_file_names pile name bytes next is) (rw (append_assoc (names_of pile) (name ∷ []) names) ordered)

-- a file more
pub file_rises : (pile : SourcePile) (name bytes : List ℕ) (names : Names) (after : SourcePile) (result : Result (Unit {0}) ReadStop)
    → Leaves (with_source pile name bytes) after result → IsInByteOrder (names_of pile ++ name ∷ names)
    → OnOk result (IsInByteOrder (names_of after ++ names))
file_rises pile name bytes names after (Ok done) left ordered = entry_rises pile name names (Some bytes) after left ordered
file_rises pile name bytes names after (Err stop) left ordered = tt

-- nothing that was refused
pub never : {A : Type 0} (P : Type 0) (result : Result A ReadStop) → OnOk result ⊥ → OnOk result P
never P (Ok x) none = absurd none
never P (Err stop) none = tt

entries_rise : (files : Files) (repo : List ℕ) (pile : SourcePile) (names : Names) (last : SourcePile)
    → with_entries files repo pile names ≡ Ok last → IsInByteOrder (names_of pile ++ names) → IsInByteOrder (names_of last)
entries_rise files repo pile [] last is ordered =
    subst (λ (p : SourcePile). IsInByteOrder (names_of p)) (ok_same pile last is) (subst IsInByteOrder (append-nil (names_of pile)) ordered)
entries_rise files repo pile (name ∷ names) last is ordered =
    let step = then_ok (with_entry pile name (recipe_file_at files repo name)) (λ next. with_entries files repo next names) last is in
    entries_rise files repo step.0 names last step.2 (entry_rises pile name names (recipe_file_at files repo name) step.0 step.1 ordered)

pile_rises : (files : Files) (repo : List ℕ) (names : Names) (pile : SourcePile) → pile_by files repo names ≡ Ok pile → IsInByteOrder names
    → IsInByteOrder (names_of pile)
pile_rises files repo [] pile is ordered = ok_not_err pile _ (sym is)
pile_rises files repo (name ∷ names) pile is ordered = entries_rise files repo no_files (name ∷ names) pile is ordered

-- the files of a repository
pub in_order : (files : Files) (repo : List ℕ) (pile : SourcePile) → pile_of files repo ≡ Ok pile → IsInByteOrder (names_of pile)
unfolding pile_of
in_order files repo pile is = pile_rises files repo (names_in files (packages_path repo)) pile is (names_rise files (packages_path repo))
