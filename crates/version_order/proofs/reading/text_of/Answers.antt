use Rattle.version_order.proofs.VersionLaws.{bytes_utf8, version_bytes}
use Rattle.version_order.proofs.reading.text_of.Goals as goal

pub unreachable-requires : goal.unreachable-requires
unreachable-requires c = c.in-Err.ensures.cases.0 (bytes_utf8 c.args.bytes.now (version_bytes c.args.bytes.now c.requires))
