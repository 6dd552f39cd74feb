use Rattle.std.proofs.Common.{drop}
use Rattle.serde_json.specs.View.{items_view}
use Rattle.settings_reader.specs.Parsed.{items_at}
use Rattle.settings_reader.proofs.Each.{Continues}
use Rattle.settings_reader.proofs.parser.parse_items.Given as goal

abbrev pub invariant-loop-i : goal.invariant-loop-i
invariant-loop-i g l = Continues (λ key. g.P.Parser.tells l.parser) (items_at 0 (items_view l.items))
    (items_at l.i (items_view (drop l.i l.items))) l.read
