-- A text is a set of versions, or none.
use Rattle.std.proofs.Common.{◌≡◌, refl, sym, ap, ◌∙◌, ℕ, Bool, true, false, List, Ok, Err, Option, Some, None}
use Rattle.std.proofs.lemmas.Option.{none-some}
use Rattle.version_order.specs.Items.{IsList, Reads, first_empty}
use Rattle.version_order.specs.declared.item.Item.{Item}
use Rattle.version_order.specs.declared.scan.Place.{Place}
use Rattle.version_order.specs.declared.scan.Place.TheVariants as place
use Rattle.version_order.specs.Machine.{run}
use Rattle.version_order.specs.Scan.{is_final, step}
use Rattle.version_order.proofs.AcceptLaws.{list_accepted}
use Rattle.version_order.proofs.RestLaws.{list_from_end}
use Rattle.version_order.proofs.SoFarLaws.{one_reading}
use Rattle.serde_json.specs.Data.{Data}
use Rattle.serde_json.specs.Find.{as_str}
use Rattle.settings_reader.specs.Versions.{IsSet, IsSetIn, IsSetOf, IsVersionSet}
use Rattle.total_readings.proofs.Steps.{Some-told}

none_of : (text : List ℕ) → ((items : List Item) → IsSetOf text items → ⊥) → Some-told (IsSet text)
none_of text never = (Err _, (refl, never))

-- a LIST is a set where no range of it is empty
of_list : (text : List ℕ) (items : List Item) → Reads text items → (o : Option ℕ) → first_empty 0 items ≡ o → Some-told (IsSet text)
of_list text items reads None e = (Ok items, (reads, e))
of_list text items reads (Some p) e =
    none_of text (λ others set.
    let same = one_reading text others items set.0 reads in
    none-some p (sym set.1 ∙ ap (first_empty 0) same ∙ e))

no_list : (text : List ℕ) → (IsList text → ⊥) → Some-told (IsSet text)
no_list text never = none_of text (λ items set. never (items, set.0))

by_end : (text : List ℕ) (s : Place) (b : Bool) → run step place.Item text ≡ Some s → is_final s ≡ b → Some-told (IsSet text)
by_end text s true ran final =
    let list = list_from_end text s ran final in of_list text list.0 list.1 (first_empty 0 list.0) refl
by_end text s false ran final =
    no_list text (λ list.
    let accepted = list_accepted text list in
    let same : s ≡ accepted.0 = let both : Some s ≡ Some accepted.0 = sym ran ∙ accepted.1 in cc in
    let bad : false ≡ true = sym final ∙ ap is_final same ∙ accepted.2 in cc)

by_run : (text : List ℕ) (o : Option Place) → run step place.Item text ≡ o → Some-told (IsSet text)
by_run text None ran = no_list text (λ list. let accepted = list_accepted text list in none-some accepted.0 (sym ran ∙ accepted.1))
by_run text (Some s) ran = by_end text s (is_final s) ran refl

set_in : (o : Option (List ℕ)) → Some-told (IsSetIn o)
set_in None = (Err _, refl)
set_in (Some text) = by_run text (run step place.Item text) refl

pub set_some : (d : Data) → Some-told (IsVersionSet d)
set_some d = set_in (as_str d)
