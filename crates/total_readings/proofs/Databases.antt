-- Databases.
use Rattle.std.proofs.Common.{◌≡◌, ◌≢◌, refl, ◌⊎◌, inl, inr, ℕ, List, Option, Some, None, Result, Ok, Err}
use Rattle.serde_json.specs.Data.{Data}
use Rattle.graph_core.specs.Graphs.{Text}
use Rattle.json_readers.specs.Json.{IsJson}
use Rattle.json_readers.specs.declared.fault.Misfit.{Misfit}
use Rattle.record_reader.specs.Faults.{IsTextFault}
use Rattle.record_reader.specs.Files.{IsDatabase, records_at}
use Rattle.reuse_db.specs.Canonical.{right_hash}
use Rattle.reuse_db.specs.Databases.{HasNoTwice, dangling, differing, hashes_of}
use Rattle.reuse_db.specs.declared.fault.DbFault.{DbFault}
use Rattle.reuse_db.specs.declared.fault.DbFault.TheVariants as fault
use Rattle.reuse_db.specs.declared.record.Record.{Record}
use Rattle.total_readings.proofs.Jsons.{json_or_none}
use Rattle.total_readings.proofs.Searches.{first_twice}

-- something can be said of the bytes besides want of memory
abbrev IsSaid : List ℕ → Type 0
IsSaid bytes = ((records : List Record) × IsDatabase bytes records) ⊎ ((f : DbFault) × IsTextFault bytes f × (f ≢ fault.OutOfMemory))

module _ (bytes : List ℕ) (d : Data) (json : IsJson bytes d) where
  module _ (records : List Record) (is : records_at d ≡ Ok records) where
    by_children : differing records ≡ None → HasNoTwice records → (o : Option (Text × Text)) → dangling (hashes_of records) records ≡ o
        → IsSaid bytes
    by_children same once (Some p) e =
        inr (fault.Dangling p.0 p.1, inr (inr (d, json, inr (inr (records, is, (same, once, e))))), λ same. cc)
    by_children same once None e = inl (records, (d, json, (is, record { same = same; once = once; known = e })))

    by_hashes : (o : Option Record) → differing records ≡ o → IsSaid bytes
    by_hashes (Some entry) e =
        inr (
          fault.HashDiffers entry.hash (right_hash entry),
          inr (inr (d, json, inr (inr (records, is, (entry, e, refl, refl))))),
          λ same.
              cc,
        )
    by_hashes None e = elim (first_twice records) [
      | inl (hash, first) ↦ inr (fault.TwiceHash hash, inr (inr (d, json, inr (inr (records, is, (e, first))))), λ same. cc)
      | inr once ↦ by_children e once (dangling (hashes_of records) records) refl
    ]

  by_value : (r : Result (List Record) Misfit) → records_at d ≡ r → IsSaid bytes
  by_value (Ok records) is = by_hashes records is (differing records) refl
  by_value (Err misfit) is = inr (fault.WrongKind misfit.at, inr (inr (d, json, inr (inl (misfit, is, refl)))), λ same. cc)

pub database_said : (bytes : List ℕ) → IsSaid bytes
database_said bytes = elim (json_or_none bytes) [
  | inl (d, json) ↦ by_value bytes d json (records_at d) refl
  | inr none ↦ inr (fault.NotJson, inr (inl (refl, none)), λ same. cc)
]
