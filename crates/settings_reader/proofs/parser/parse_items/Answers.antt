use Rattle.serde_json.specs.View.{items_view}
use Rattle.settings_reader.specs.Parsed.{AreItems}
use Rattle.settings_reader.proofs.Items.{item_end, item_more, item_stop}
use Rattle.settings_reader.proofs.Telling.{hands_on}
use Rattle.settings_reader.proofs.parser.parse_items.Goals as goal

pub returns-in_err-parse_item : goal.returns-in_err-parse_item
returns-in_err-parse_item g c =
    let tells = g.P.Parser.tells c.args.parser.now in
    let items = c.args.items.now in
    let stop = c.in_err-parse_item.field-0.0 in
    hands_on (AreItems tells (items_view items)) stop c.from_residual.result c.from_residual.ensures.1
    (item_stop tells items c.loop-i.i c.index-items-i.result c.loop-i.read stop c.loop-i.invariant c.loop-i-test.true c.index-items-i.is
    c.in_err-parse_item.ensures)

pub loop-i-preserved : goal.loop-i-preserved
loop-i-preserved g c =
    item_more (g.P.Parser.tells c.args.parser.now) c.args.items.now c.loop-i.i c.index-items-i.result c.loop-i.read c.push.new.self
    c.in_ok-parse_item.field-0
    c.loop-i.invariant c.loop-i-test.true c.index-items-i.is c.in_ok-parse_item.ensures c.in_ok-push.ensures.ok

pub returns : goal.returns
returns g c = item_end (g.P.Parser.tells c.args.parser.now) c.args.items.now c.loop-i.i c.loop-i.read c.loop-i.invariant c.loop-i-test.false
