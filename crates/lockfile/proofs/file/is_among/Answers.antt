use Rattle.std.proofs.lemmas.Bool.Decides.{same_from_decides}
use Rattle.std.specs.Cmp.Lexicographic.{bytes_decides}
use Rattle.std.specs.Str.{bytes_eq}
use Rattle.reachability.proofs.SpreadLaws.{among_decides}
use Rattle.lockfile.proofs.file.is_among.Goals as goal

pub returns : goal.returns
returns c = same_from_decides _ _ c.contains.ensures (among_decides bytes_eq bytes_decides c.args.names.now c.args.text.now)
