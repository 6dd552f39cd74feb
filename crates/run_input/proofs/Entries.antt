-- The entries of a folder, one after the other.
use Rattle.std.proofs.Common.{◌≡◌, ◌≢◌, refl, sym, ap, subst, ◌∙◌, ℕ, ◌+◌, ◌<◌, List, [], ◌∷◌, ◌++◌, map, take, drop, length, get_or, take-append-drop, Option, Some, None, IfSome, Result, Ok, Err, inr, Vec, String, string_bytes}
use Rattle.std.proofs.lemmas.List.{drop_more, map-append, map_more}
use Rattle.std.specs.declared.alloc.Global.{Global}
use Rattle.outside_desk.specs.Files.{Files}
use Rattle.outside_desk.specs.Listing.{Lists, names_in}
use Rattle.variant_values.specs.Texts.{IsInByteOrder}
use Rattle.run_answers.specs.declared.refusal.Refusal.{Refusal}
use Rattle.run_answers.specs.declared.stop.ReadStop.{ReadStop}
use Rattle.run_answers.specs.declared.stop.ReadStop.TheVariants.{Refused, Fault, NoMemory}
use Rattle.run_answers.specs.Stages.{Is, ◌>>=◌}
use Rattle.run_answers.specs.Stops.{Gives}
use Rattle.run_answers.proofs.StageLaws.{ok_same, then_ok}
use Rattle.run_input.specs.Order.{FailsAmong, FailsInside, IsNext}
use Rattle.run_input.specs.Paths.{FailsAtEntry, packages_path}
use Rattle.run_input.specs.Sources.{SourcePile, no_files, recipe_file_at, with_entry, with_entries, pile_by, pile_of}

-- an entry behind others
entry_behind : (files : Files) (repo : List ℕ) (pile : SourcePile) (front : List (List ℕ)) (name : List ℕ) (next made : SourcePile)
    → with_entries files repo pile front ≡ Ok next → with_entry next name (recipe_file_at files repo name) ≡ Ok made
    → with_entries files repo pile (front ++ name ∷ []) ≡ Ok made
entry_behind files repo pile [] name next made so_far here =
    ap (λ (r : Result SourcePile Refusal). r >>= λ n. with_entries files repo n [])
    (subst (λ (p : SourcePile). with_entry p name (recipe_file_at files repo name) ≡ Ok made) (sym (ok_same pile next so_far)) here)
entry_behind files repo pile (x ∷ front) name next made so_far here =
    let step = then_ok (with_entry pile x (recipe_file_at files repo x)) (λ n. with_entries files repo n front) next so_far in
    ap (λ (r : Result SourcePile Refusal). r >>= λ n. with_entries files repo n (front ++ name ∷ [])) step.1
    ∙ entry_behind files repo step.0 front name next made step.2 here

-- ---- the entry at a place

module _ (strings : List (String Global)) (i : ℕ) (s : String Global) (name : List ℕ) (within : i < length strings)
    (here : s ≡ get_or strings i s)
    (is : name ≡ string_bytes s) where
  rest_at : map string_bytes (drop i strings) ≡ name ∷ map string_bytes (drop (i + 1) strings)
  rest_at =
      ap (map string_bytes) (drop_more strings i s within)
      ∙ ap (λ (t : List ℕ). t ∷ map string_bytes (drop (i + 1) strings)) (ap string_bytes (sym here) ∙ sym is)

  front_at : map string_bytes (take (i + 1) strings) ≡ map string_bytes (take i strings) ++ name ∷ []
  front_at =
      map_more string_bytes strings i s within
      ∙ ap (λ (t : List ℕ). map string_bytes (take i strings) ++ t ∷ []) (ap string_bytes (sym here) ∙ sym is)

  split_at : map string_bytes strings ≡ map string_bytes (take i strings) ++ name ∷ map string_bytes (drop (i + 1) strings)
  split_at =
      ap (map string_bytes) (sym (take-append-drop i strings))
      ∙ (map-append string_bytes (take i strings) (drop i strings)
      ∙ ap (λ (l : List (List ℕ)). map string_bytes (take i strings) ++ l) rest_at)

  pub order_at : (front : List (List ℕ)) → IsInByteOrder (front ++ map string_bytes (drop i strings))
      → IsInByteOrder (front ++ name ∷ map string_bytes (drop (i + 1) strings))
  order_at front ordered = subst (λ (l : List (List ℕ)). IsInByteOrder (front ++ l)) rest_at ordered

  -- those to come decide
  pub whole_next : (before : Option Files) (repo : List ℕ) (pile next : SourcePile)
      → IfSome before (λ files. with_entry pile name (recipe_file_at files repo name) ≡ Ok next)
      → IfSome before (λ files. with_entries files repo pile (map string_bytes (drop i strings))
      ≡ with_entries files repo no_files (map string_bytes strings))
      → IfSome before (λ files. with_entries files repo next (map string_bytes (drop (i + 1) strings))
      ≡ with_entries files repo no_files (map string_bytes strings))
  whole_next None repo pile next gave whole = tt
  whole_next (Some files) repo pile next gave whole =
      sym (ap (λ (r : Result SourcePile Refusal). r >>= λ n. with_entries files repo n (map string_bytes (drop (i + 1) strings))) gave)
      ∙ subst
      (λ (l : List (List ℕ)). with_entries files repo pile l ≡ with_entries files repo no_files (map string_bytes strings))
      rest_at whole

  -- those so far are within the limits
  pub so_far_next : (before : Option Files) (repo : List ℕ) (pile next : SourcePile)
      → IfSome before (λ files. with_entry pile name (recipe_file_at files repo name) ≡ Ok next)
      → IfSome before (λ files. with_entries files repo no_files (map string_bytes (take i strings)) ≡ Ok pile)
      → IfSome before (λ files. with_entries files repo no_files (map string_bytes (take (i + 1) strings)) ≡ Ok next)
  so_far_next None repo pile next gave so_far = tt
  so_far_next (Some files) repo pile next gave so_far =
      subst (λ (l : List (List ℕ)). with_entries files repo no_files l ≡ Ok next) (sym front_at)
      (entry_behind files repo no_files (map string_bytes (take i strings)) name pile next so_far gave)

  -- a device fails where the next one is read
  pub entry_failed : (A B : Type 0) (before : Option Files) (repo : List ℕ) (pile : SourcePile) (stop : ReadStop)
      → IfSome before (λ files. with_entries files repo no_files (map string_bytes (take i strings)) ≡ Ok pile)
      → FailsAtEntry {A = A} repo name (Err stop) → FailsAmong {A = B} before repo (map string_bytes strings) (Err stop)
  entry_failed A B before repo pile (Refused refusal) so_far there = tt
  entry_failed A B before repo pile (Fault path) so_far there =
      record { name = name; is_name = there.0; next = over before so_far; is_path = there.1 }
    where
      over : (told : Option Files) → IfSome told (λ files. with_entries files repo no_files (map string_bytes (take i strings)) ≡ Ok pile)
          → IfSome told (λ files. IsNext files repo (map string_bytes strings) name)
      over None so_far = tt
      over (Some files) so_far = record {
        before = map string_bytes (take i strings);
        after = map string_bytes (drop (i + 1) strings);
        among = split_at;
        pile = pile;
        read = so_far;
      }
  entry_failed A B before repo pile NoMemory so_far there = tt

-- ---- of a folder

-- of names that there are
some_pile : (files : Files) (repo : List ℕ) (names : List (List ℕ)) → names ≢ []
    → with_entries files repo no_files names ≡ pile_by files repo names
some_pile files repo [] some = absurd (some refl)
some_pile files repo (name ∷ names) some = refl

module _ (after : Option Files) (repo folder : List ℕ) (names : Vec (String Global) Global) (given : List (String Global))
    (says : given ≡ names.items)
    (at : folder ≡ packages_path repo)
    (listed : IfSome after (λ files. Lists files folder (Ok names))) where
  -- the recipe files in it
  pile_over : (told : Option Files) (result : Result SourcePile ReadStop) → IfSome told (λ files. Lists files folder (Ok names))
      → IfSome told (λ files. Gives result (Is (with_entries files repo no_files (map string_bytes given))))
      → IfSome told (λ files. Gives result (Is (pile_of files repo)))
  unfolding pile_of
  pile_over None result there read = tt
  pile_over (Some files) result there read =
      let inside : map string_bytes given ≡ names_in files (packages_path repo) =
      ap (map string_bytes) says ∙ (there.0 ∙ ap (names_in files) at) in
      subst (λ (r : Result SourcePile Refusal). Gives result (Is r))
      (ap (with_entries files repo no_files) inside
      ∙ some_pile files repo (names_in files (packages_path repo)) (λ none. there.1 (ap (names_in files) at ∙ none))) read

  next_over : (told : Option Files) (name : List ℕ) → IfSome told (λ files. Lists files folder (Ok names))
      → IfSome told (λ files. IsNext files repo (map string_bytes given) name)
      → IfSome told (λ files. IsNext files repo (names_in files (packages_path repo)) name)
  next_over None name there next = tt
  next_over (Some files) name there next =
      subst (λ (l : List (List ℕ)). IsNext files repo l name)
      (ap (map string_bytes) says ∙ (there.0 ∙ ap (names_in files) at)) next

  pub pile_read : (result : Result SourcePile ReadStop)
      → IfSome after (λ files. Gives result (Is (with_entries files repo no_files (map string_bytes given))))
      → IfSome after (λ files. Gives result (Is (pile_of files repo)))
  pile_read result read = pile_over after result listed read

  -- a device fails at an entry of the names in it
  pub inside : {A : Type 0} (result : Result A ReadStop) → FailsAmong after repo (map string_bytes given) result
      → FailsInside after repo result
  inside (Ok x) there = tt
  inside (Err (Refused refusal)) there = tt
  inside (Err (Fault path)) there =
      inr (record {
        name = there.name;
        is_name = there.is_name;
        listed = next_over after there.name listed there.next;
        is_path = there.is_path;
      })
  inside (Err NoMemory) there = tt
