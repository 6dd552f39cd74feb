use Rattle.std.proofs.Common.{◌+◌, length, arith}
use Rattle.recipe_lexer.specs.Layout.{text_pieces}
use Rattle.recipe_lexer.proofs.TokenLaws.{tokens_in_order, pieces_cut, cut_at}
use Rattle.recipe_lexer.proofs.WholeLaws.{tokens_whole}
use Rattle.recipe_lexer.proofs.theorems.laws.Goals as goal

pub returns-clause-in_order : goal.returns-clause-in_order
returns-clause-in_order c = tokens_in_order

pub returns-clause-cut : goal.returns-clause-cut
returns-clause-cut c = λ bytes. cut_at 0 0 (0 + length bytes) (length bytes) (text_pieces 0 0 bytes) (pieces_cut 0 0 bytes (omega arith))
    (omega arith) (omega arith)

pub returns-clause-whole : goal.returns-clause-whole
returns-clause-whole c = tokens_whole
