use Rattle.std.proofs.Common.{◌≡◌, vec_len}
use Rattle.recipe_lexer.specs.Layout.{view, dedents}
use Rattle.recipe_lexer.proofs.line.dedents.Given as goal

abbrev pub invariant-loop-top : goal.invariant-loop-top
invariant-loop-top l = dedents l.start l.place l.spaces (view l.lexer).indents (view l.lexer) ≡ dedents l.start l.place l.spaces
    (view l.fn.lexer).indents (view l.fn.lexer)

abbrev pub decreases-loop-top : goal.decreases-loop-top
decreases-loop-top l = vec_len l.lexer.indents
