use Rattle.std.proofs.Common.{refl, codes}
use Rattle.recipe_lexer.specs.Layout.{text_tokens, text_pieces, lay, step, begin, indented, indent, bracket, finish}
use Rattle.recipe_lexer.specs.Pieces.{first_piece, solid, string_piece, text_end, closes, breaks}
use Rattle.recipe_values.specs.Strings.{string as string_of, decoded}
use Rattle.recipe_values.specs.Values.{texts, segment_value}
use Rattle.recipe_values.specs.Brackets.{elements, group, levels_of, arguments_of}
use Rattle.recipe_values.proofs.Digits.{ascii_utf8}
use Rattle.recipe_values.proofs.theorems.worked_faults.Goals as goal

pub returns-clause-brackets : goal.returns-clause-brackets
unfolding text_tokens text_pieces lay step begin indented indent bracket finish first_piece solid string_piece text_end closes breaks
    string_of decoded
    texts segment_value elements group levels_of arguments_of
returns-clause-brackets c = rw (ascii_utf8 (codes "a") refl) refl

pub returns-clause-apart : goal.returns-clause-apart
unfolding text_tokens text_pieces lay step begin indented indent bracket finish first_piece solid string_piece text_end closes breaks
    string_of decoded
    texts segment_value elements group levels_of arguments_of
returns-clause-apart c = rw (ascii_utf8 (codes "a") refl) refl
