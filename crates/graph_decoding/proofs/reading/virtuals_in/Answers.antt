use Rattle.graph_decoding.specs.Decoding.{assignment_of}
use Rattle.graph_decoding.proofs.ReadingLaws.{set-read}
use Rattle.graph_decoding.proofs.reading.virtuals_in.Goals as goal

pub returns : goal.returns
returns c = set-read (assignment_of c.args.values.now) c.args.choices.now c.in_ok-words.words.items c.from_words.result c.requires
    c.in_ok-words.ensures c.from_words.ensures.texts c.from_words.ensures.ordered
