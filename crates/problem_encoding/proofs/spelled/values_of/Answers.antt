use Rattle.std.proofs.Common.{sym, ap, ◌∙◌, length}
use Rattle.problem_encoding.proofs.Lengths.{unspelled}
use Rattle.problem_encoding.proofs.spelled.values_of.Goals as goal

pub returns-then-vector-tops : goal.returns-then-vector-tops
returns-then-vector-tops c =
    sym (unspelled c.args.encoded.now.bits.tops c.args.vector.now (λ same. c.if-vector-tops.true (same ∙ ap length (sym c.tops.ensures))))
