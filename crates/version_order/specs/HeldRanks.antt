-- The rank of a component as the program holds it.
use Rattle.version_order.specs.Component.{Rank, Word, Number, Other}
use Rattle.version_order.specs.declared.component.Rank.{Rank as HeldRank}
use Rattle.version_order.specs.declared.component.Rank.TheVariants as held

abbrev pub seen_rank : HeldRank → Rank
seen_rank (held.Word word) = Word word
seen_rank (held.Number number) = Number number
seen_rank (held.Other piece) = Other piece.now
