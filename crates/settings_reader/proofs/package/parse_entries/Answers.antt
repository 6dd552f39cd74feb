use Rattle.std.proofs.Common.{ap}
use Rattle.serde_json.specs.View.{view, members_view}
use Rattle.settings_reader.specs.Packages.{AreEntries, IsPackage}
use Rattle.settings_reader.specs.Parsed.{member_pairs}
use Rattle.settings_reader.proofs.Each.{member_end, member_more, member_stop}
use Rattle.settings_reader.proofs.Telling.{hands_on}
use Rattle.settings_reader.proofs.package.parse_entries.Goals as goal

pub returns-in_err-parse_entry : goal.returns-in_err-parse_entry
returns-in_err-parse_entry c =
    let platform = c.args.platform.now in
    let members = members_view c.args.members.now.entries in
    let stop = c.in_err-parse_entry.field-0.0 in
    hands_on (AreEntries platform members) stop c.from_residual.result c.from_residual.ensures.1
    (member_stop (λ name. IsPackage name platform) (member_pairs members) _ c.as_str.result.now (view c.in-Some.value.now)
    (members_view c.loop-key.key-iterator) (members_view c.next.new.self)
    c.loop-key.packages stop c.loop-key.invariant (ap members_view c.in-Some.ensures.steps) c.as_str.ensures.value
    c.in_err-parse_entry.ensures)

pub loop-key-preserved : goal.loop-key-preserved
loop-key-preserved c =
    member_more (λ name. IsPackage name c.args.platform.now) (member_pairs (members_view c.args.members.now.entries)) _ c.as_str.result.now
    (view c.in-Some.value.now)
    (members_view c.loop-key.key-iterator) (members_view c.next.new.self) c.loop-key.packages c.push.new.self c.in_ok-parse_entry.field-0
    c.loop-key.invariant (ap members_view c.in-Some.ensures.steps) c.as_str.ensures.value c.in_ok-parse_entry.ensures
    c.in_ok-push.ensures.ok

pub returns : goal.returns
returns c =
    member_end (λ name. IsPackage name c.args.platform.now) (member_pairs (members_view c.args.members.now.entries))
    (members_view c.loop-key.key-iterator) c.loop-key.packages
    c.loop-key.invariant (ap members_view c.in-None.ensures.steps.0)
