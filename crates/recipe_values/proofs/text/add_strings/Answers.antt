use Rattle.std.proofs.Common.{◌∙◌, sym, get_or}
use Rattle.std.proofs.lemmas.List.{drop_more}
use Rattle.recipe_values.proofs.Joins.{gives_ok, gives_err}
use Rattle.recipe_values.proofs.Texts.{nothing, string_more, string_fails, strings_end}
use Rattle.recipe_values.proofs.text.add_strings.Goals as goal

pub returns-in-Err : goal.returns-in-Err
returns-in-Err c =
    let l = c.loop-token in
    let tokens = c.args.tokens.now in
    sym l.invariant ∙ string_fails l.text.items l.token-index c.in-Err.place c.args.bytes.now tokens (get_or tokens l.token-index nothing)
    (drop_more tokens l.token-index nothing c.loop-token-test.true) (gives_err _ _ _ _ c.in-Err.is c.in_ok-add_string.ensures)

pub loop-token-preserved : goal.loop-token-preserved
loop-token-preserved c =
    let l = c.loop-token in
    let tokens = c.args.tokens.now in
    sym (string_more l.text.items c.add_string.new.text.items l.token-index c.args.bytes.now tokens (get_or tokens l.token-index nothing)
    (drop_more tokens l.token-index nothing c.loop-token-test.true) (gives_ok _ _ _ _ c.in-Ok.is c.in_ok-add_string.ensures))
    ∙ l.invariant

pub returns : goal.returns
returns c =
    let l = c.loop-token in
    sym l.invariant ∙ strings_end l.text.items l.token-index c.args.bytes.now c.args.tokens.now c.loop-token-test.false
