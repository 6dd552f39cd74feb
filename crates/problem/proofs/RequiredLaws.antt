-- What the settings ask of packages, as rows.
use Rattle.std.proofs.Common.{◌≡◌, refl, sym, ap, subst, ◌∙◌, ℕ, suc, ◌+◌, ◌<◌, arith, Bool, true, false, cond, IsTrue, ◌↔◌, Option, Some, None, length, get_or, take, drop, drop-cons, append_assoc, List, [], ◌∷◌, ◌++◌}
use Rattle.std.specs.Cmp.Lexicographic.{nat_list_cmp_total, bytes_decides}
use Rattle.std.specs.List.{find}
use Rattle.std.specs.List.Sorted.{IsStrictlySortedBy}
use Rattle.std.specs.Option.{option_map, option_or}
use Rattle.std.specs.Str.{bytes_eq}
use Rattle.std.proofs.lemmas.Bool.{false≢true}
use Rattle.std.proofs.lemmas.List.{take_more}
use Rattle.std.proofs.lemmas.List.Folds.{find-append}
use Rattle.std.proofs.lemmas.Option.{none-some}
use Rattle.keyed_lists.specs.Keyed.{IsInOrder, find_key, with_one}
use Rattle.keyed_lists.specs.OfVariantValues.Texts.{byte_cmp}
use Rattle.keyed_lists.proofs.KeyedLaws.{in_order-with_one}
use Rattle.keyed_lists.proofs.Lent.{tells_alike}
use Rattle.keyed_lists.proofs.LookupLaws.{find-with_one}
use Rattle.keyed_lists.proofs.OfVariantValues.Texts2.{ties_are_equal}
use Rattle.condition_rules.specs.OfGraphCore.Graphs.{Text}
use Rattle.condition_rules.specs.OfConditions.RequireRow.{RequireRow}
use Rattle.site_settings.specs.declared.settings.PackageEntry.{PackageEntry}
use Rattle.site_settings.specs.declared.settings.RequireEntry.{RequireEntry}
use Rattle.problem.specs.Problems.{row_of, rows_from, required_in}
use Rattle.problem.specs.Required.{AreNamedRows, named_rows, rows_in}

-- one entry more was gone over
pub rows_step : (entries : List RequireEntry) (i : ℕ) (x : RequireEntry) (rows more whole : List RequireRow) → i < length entries
    → x ≡ get_or entries i x → more ≡ rows ++ row_of i x ∷ [] → rows ++ rows_from i (drop i entries) ≡ whole
    → more ++ rows_from (i + 1) (drop (i + 1) entries) ≡ whole
rows_step entries i x rows more whole lt is grown before =
    let next : suc i ≡ i + 1 = omega arith in
    let split : drop i entries ≡ x ∷ drop (i + 1) entries = drop-cons entries i x lt ∙ ap (λ y. y ∷ drop (suc i) entries) (sym is)
    ∙ ap (λ (n : ℕ). x ∷ drop n entries) next in
    ap (λ l. l ++ rows_from (i + 1) (drop (i + 1) entries)) grown
    ∙ append_assoc rows (row_of i x ∷ []) (rows_from (i + 1) (drop (i + 1) entries))
    ∙ ap (λ l. rows ++ rows_from i l) (sym split) ∙ before

-- ---- rows by names

abbrev name_of : Text × List RequireRow → Text
name_of named = named.0

-- what stands at a name is what its entry asks
pub rows_found : (packages : List PackageEntry) (named : List (Text × List RequireRow)) (name : Text) → AreNamedRows packages named
    → rows_in (find_key byte_cmp (λ n. n.0) named name) ≡ required_in (find (λ entry. bytes_eq entry.name name) packages)
rows_found packages named name are = ap rows_in (are.there name) ∙ asked (find (λ entry. bytes_eq entry.name name) packages)
  where
    asked : (found : Option PackageEntry) → rows_in (option_map named_rows found) ≡ required_in found
    asked None = refl
    asked (Some entry) = refl

-- one package more is looked at behind those before it
find_next : (packages : List PackageEntry) (i : ℕ) (x : PackageEntry) (name : Text) → i < length packages → x ≡ get_or packages i x
    → find (λ entry. bytes_eq entry.name name) (take (i + 1) packages)
    ≡ option_or (find (λ entry. bytes_eq entry.name name) (take i packages)) (cond (bytes_eq x.name name) (Some x) None)
find_next packages i x name lt is =
    let split : take (i + 1) packages ≡ take i packages ++ x ∷ [] = take_more packages i x lt
    ∙ ap (λ y. take i packages ++ y ∷ []) (sym is) in
    ap (find (λ entry. bytes_eq entry.name name)) split ∙ find-append (λ entry. bytes_eq entry.name name) (take i packages) (x ∷ [])

-- rows that were put at a name that had none
put_there : (found : Option PackageEntry) (x : PackageEntry) (same : Bool) (old : Option (Text × List RequireRow))
    → old ≡ option_map named_rows found → (same ≡ true → old ≡ None)
    → cond same (Some (named_rows x)) old ≡ option_map named_rows (option_or found (cond same (Some x) None))
put_there None x true old is none = refl
put_there None x false old is none = is
put_there (Some y) x true old is none = absurd (none-some (named_rows y) (sym (none refl) ∙ is))
put_there (Some y) x false old is none = is

-- rows that were left out at a name that had some
left_there : (found : Option PackageEntry) (x : PackageEntry) (same : Bool) (old : Option (Text × List RequireRow))
    → old ≡ option_map named_rows found → (same ≡ true → old ≡ None → ⊥)
    → old ≡ option_map named_rows (option_or found (cond same (Some x) None))
left_there None x true old is some = absurd (some refl is)
left_there None x false old is some = is
left_there (Some y) x same old is some = is

-- at the beginning none was gone over
pub named_none : (named : List (Text × List RequireRow)) → named ≡ [] → AreNamedRows [] named
unfolding IsStrictlySortedBy
named_none named none = subst (AreNamedRows []) (sym none) (record { ordered = tt; there = λ name. refl })

-- one package more was gone over
pub named_more : (packages : List PackageEntry) (i : ℕ) (x : PackageEntry) (named more : List (Text × List RequireRow)) (added : Bool)
    → i < length packages → x ≡ get_or packages i x → AreNamedRows (take i packages) named
    → IsTrue added ↔ (find_key byte_cmp (λ n. n.0) named x.name ≡ None)
    → more ≡ cond added (with_one byte_cmp (λ n. n.0) named (named_rows x)) named
    → AreNamedRows (take (i + 1) packages) more
named_more packages i x named more true lt is before fresh grown = record {
  ordered = subst (IsInOrder byte_cmp name_of) (sym grown)
      (in_order-with_one nat_list_cmp_total ties_are_equal name_of named (named_rows x) before.ordered);
  there = λ name.
      ap (λ l. find_key byte_cmp name_of l name) grown
      ∙ find-with_one nat_list_cmp_total ties_are_equal name_of named (named_rows x) name (fresh.0 refl)
      ∙ ap (λ b. cond b (Some (named_rows x)) (find_key byte_cmp name_of named name)) (tells_alike x.name name)
      ∙ put_there (find (λ entry. bytes_eq entry.name name) (take i packages)) x (bytes_eq x.name name)
      (find_key byte_cmp name_of named name) (before.there name)
      (λ same. subst (λ n. find_key byte_cmp name_of named n ≡ None) ((bytes_decides x.name name).0 same) (fresh.0 refl))
      ∙ ap (option_map named_rows) (sym (find_next packages i x name lt is));
}
named_more packages i x named more false lt is before fresh grown = record {
  ordered = subst (IsInOrder byte_cmp name_of) (sym grown) before.ordered;
  there = λ name.
      ap (λ l. find_key byte_cmp name_of l name) grown
      ∙ left_there (find (λ entry. bytes_eq entry.name name) (take i packages)) x (bytes_eq x.name name)
      (find_key byte_cmp name_of named name) (before.there name)
      (λ same none. false≢true
      (fresh.1 (subst (λ n. find_key byte_cmp name_of named n ≡ None) (sym ((bytes_decides x.name name).0 same)) none)))
      ∙ ap (option_map named_rows) (sym (find_next packages i x name lt is));
}
