use Rattle.std.proofs.Common.{◌≡◌, ◌++◌, drop}
use Rattle.std.specs.List.{flat_map}
use Rattle.scenario_reader.specs.Sections.{line_bytes, content_of}
use Rattle.scenario_reader.proofs.entry.Entry.content.Given as goal

abbrev pub invariant-loop-item : goal.invariant-loop-item
invariant-loop-item l = l.bytes.items ++ flat_map (λ item. line_bytes l.self.quoted item.1) (drop l.item-index l.item-items)
    ≡ content_of l.self
