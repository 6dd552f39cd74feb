-- What a database's JSON says. Keys go in byte order, missing and unknown ones among them, and each fault is a wrong kind.
use Rattle.std.specs.Prelude.{◌≡◌, ℕ, ◌==◌, Bool, false, ◌||◌, List, [], ◌∷◌, codes, Option, Some, None, option_and_then, Ok, if◌then◌else◌}
use Rattle.serde_json.specs.Data.{Data, Members}
use Rattle.serde_json.specs.Find.{as_number, as_u64, get_member}
use Rattle.json_readers.specs.Faults.{Reading, ◌>>=◌, wrong_kind}
use Rattle.json_readers.specs.Json.{IsJson}
use Rattle.json_readers.specs.Lists.{list_of}
use Rattle.json_readers.specs.Objects.{members_of, first_odd, field, none_odd}
use Rattle.json_readers.specs.Texts.{whole_number}
use Rattle.record_reader.specs.Records.{record_entry_at}
use Rattle.reuse_db.specs.Databases.{AreRecords}
use Rattle.reuse_db.specs.declared.record.Record.{Record}

abbrev pub file_keys : List (List ℕ)
file_keys = codes "records" ∷ codes "version" ∷ []

abbrev pub is_two : Option ℕ → Bool
is_two None = false
is_two (Some version) = version == 2

-- the number 1 or 2
abbrev pub version_at : Data → Reading ℕ
version_at d = whole_number d >>= λ version. if version == 1 || version == 2 then Ok version else wrong_kind

abbrev pub number_in : Data → Option ℕ
number_in d = option_and_then as_u64 (as_number d)

-- the file's version is 2, in which dependencies may name virtuals; a file of another version is read as one of version 1
abbrev pub may_name_virtuals : Members → Bool
may_name_virtuals ms = is_two (option_and_then number_in (get_member (codes "version") ms))

unfoldable pub records_at : Data → Reading (List Record)
records_at d = do
  ms ← members_of d
  let odd = first_odd file_keys ms in do
    records ← field (list_of (record_entry_at (may_name_virtuals ms))) odd (codes "records") ms
    version ← field version_at odd (codes "version") ms
    _ ← none_odd odd
    Ok records

-- the value says these records, and they have no fault
abbrev pub IsDatabaseOf : Data → List Record → Type 0
IsDatabaseOf d records = (records_at d ≡ Ok records) × AreRecords records

-- the bytes are the JSON text of a database without a fault, which has these records
abbrev pub IsDatabase : List ℕ → List Record → Type 0
IsDatabase bytes records = (d : Data) × IsJson bytes d × IsDatabaseOf d records
