use Rattle.serde_json.specs.View.{view, members_view}
use Rattle.lockfile.proofs.ReadLaws.{node_read}
use Rattle.lockfile.proofs.node.NodeFormReaderLockedNode.read.Goals as goal

pub returns : goal.returns
returns c =
    node_read c.args.self.now.may_name_virtuals (view c.args.value.now) (members_view c.in_ok-members.members.now.entries) _ c.in_ok-head.head
    c.in_ok-body.body
    c.in_ok-described.described c.origin_by-origin.result c.in_ok-members.ensures c.first_odd-odd.ensures
    c.in_ok-head.ensures c.in_ok-body.ensures c.in_ok-described.ensures c.origin_by-origin.ensures
