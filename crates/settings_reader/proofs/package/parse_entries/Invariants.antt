use Rattle.serde_json.specs.View.{members_view}
use Rattle.settings_reader.specs.Packages.{IsPackage}
use Rattle.settings_reader.specs.Parsed.{member_pairs}
use Rattle.settings_reader.proofs.Each.{Continues}
use Rattle.settings_reader.proofs.package.parse_entries.Given as goal

abbrev pub invariant-loop-key : goal.invariant-loop-key
invariant-loop-key l = Continues (λ name d. IsPackage name l.platform d) (member_pairs (members_view l.members.entries))
    (member_pairs (members_view l.key-iterator)) l.packages
