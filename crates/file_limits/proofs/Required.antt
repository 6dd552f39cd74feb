-- What a file says is asked of packages weighs two for each requirement.
use Rattle.std.proofs.Common.{ap, ℕ, ◌*◌, ◌≤◌, Bool, List, [], ◌∷◌, length, Ok, codes, arith}
use Rattle.std.proofs.lemmas.List.Sums.{sum_by-cons}
use Rattle.std.specs.List.{sum_by}
use Rattle.serde_json.specs.Data.{Data, null, boolean, number, string, array, object, Members, no_members, member}
use Rattle.serde_json.specs.Find.{get_member}
use Rattle.json_readers.specs.Objects.{known}
use Rattle.json_readers.proofs.Steps.{known_ok}
use Rattle.settings_reader.specs.Parsed.{IsOptional}
use Rattle.settings_reader.specs.Required as required
use Rattle.settings_reader.specs.Required.{AreRequired, AreRequiredAt, IsChoice, IsRequirement, IsObject, IsOnly}
use Rattle.settings_reader.proofs.Outcomes.{below_ok, ok_no, ok_same, said_ok, then_ok}
use Rattle.site_settings.specs.declared.settings.RequireEntry.{RequireEntry}
use Rattle.file_limits.specs.Weights.{weight, members_weight, weight_at}
use Rattle.file_limits.proofs.Outcomes.{AtMost, list_at_most, optional_at_most}
use Rattle.file_limits.proofs.Sums.{sum-ones, sum-twice}

abbrev requirement_size : RequireEntry → ℕ
requirement_size entry = 2 * 1

-- where one of two keys is there, something is
chosen : (ms : Members) (one_of : Bool) → IsChoice ms (Ok one_of) → 1 ≤ members_weight ms
chosen no_members one_of h = absurd (ok_no one_of _ h)
chosen (member key d ms) one_of h = omega arith

object_most : (d : Data) → AtMost requirement_size (weight d) (IsObject d)
object_most d entry h =
    let ms = then_ok _ _ entry h in
    let one_of = then_ok (IsChoice ms.0) _ entry ms.2 in
    omega (arith, ap weight (known_ok required.keys d ms.0 (said_ok (known required.keys d) ms.0 ms.1)), chosen ms.0 one_of.0 one_of.1)

-- a text has its quotes, and an object its brackets and a key
item_most : (d : Data) → AtMost requirement_size (weight d) (IsRequirement d)
item_most null entry h = object_most null entry h
item_most (boolean b) entry h = object_most (boolean b) entry h
item_most (number n) entry h = object_most (number n) entry h
item_most (string s) entry h = omega arith
item_most (array ds) entry h = object_most (array ds) entry h
item_most (object ms) entry h = object_most (object ms) entry h

alone_most : (text : List ℕ) (entries : List RequireEntry) → required.AreOnly text (Ok entries) → sum_by requirement_size entries ≤ 2
alone_most text entries h =
    let entry = then_ok (IsOnly text) _ entries h in
    omega (arith, ap (sum_by requirement_size) (ok_same entries (entry.0 ∷ []) entry.2), sum_by-cons requirement_size entry.0 [])

required_most : (d : Data) → AtMost (sum_by requirement_size) (weight d) (AreRequired d)
required_most null entries h = list_at_most requirement_size IsRequirement item_most null entries h
required_most (boolean b) entries h = list_at_most requirement_size IsRequirement item_most (boolean b) entries h
required_most (number n) entries h = list_at_most requirement_size IsRequirement item_most (number n) entries h
required_most (string s) entries h = omega (arith, alone_most s entries h)
required_most (array ds) entries h = list_at_most requirement_size IsRequirement item_most (array ds) entries h
required_most (object ms) entries h = list_at_most requirement_size IsRequirement item_most (object ms) entries h

-- what is asked weighs two for each requirement
pub required_at_most : (ms : Members) (entries : List RequireEntry) → AreRequiredAt ms (Ok entries)
    → 2 * length entries ≤ weight_at ms (codes "require")
required_at_most ms entries h =
    let found = get_member (codes "require") ms in
    omega (
      arith,
      optional_at_most requirement_size AreRequired required_most found entries
          (below_ok (codes "require") (IsOptional AreRequired found) entries h),
      sum-twice (λ (entry : RequireEntry). 1) entries,
      sum-ones entries,
    )
