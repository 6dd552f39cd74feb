-- Texts of sets of versions.
use Rattle.std.specs.Prelude.{◌≡◌, ℕ, List, [], Option, Some, None, Ok, Err}
use Rattle.serde_json.specs.Data.{Data}
use Rattle.serde_json.specs.Find.{as_str}
use Rattle.version_order.specs.Items.{Reads, first_empty}
use Rattle.version_order.specs.declared.item.Item.{Item}
use Rattle.settings_reader.specs.Told.{Told, halt, misread}
use Rattle.settings_reader.specs.declared.stop.What.TheVariants.{WrongKind}

-- the text is the set of these items, of which none is an empty range
abbrev pub IsSetOf : List ℕ → List Item → Type 0
IsSetOf text items = Reads text items × (first_empty 0 items ≡ None)

-- the set, or the wrong kind where the text is none
abbrev pub IsSet : List ℕ → Told (List Item)
IsSet text (Ok items) = IsSetOf text items
IsSet text (Err m) = (m ≡ misread WrongKind []) × ((items : List Item) → IsSetOf text items → ⊥)

abbrev pub IsSetIn : Option (List ℕ) → Told (List Item)
IsSetIn None = halt (misread WrongKind [])
IsSetIn (Some text) = IsSet text

abbrev pub IsVersionSet : Data → Told (List Item)
IsVersionSet d = IsSetIn (as_str d)
