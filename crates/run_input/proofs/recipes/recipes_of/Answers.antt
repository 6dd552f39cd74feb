use Rattle.std.proofs.Common.{◌≡◌, sym, ap, ◌∙◌, ◌++◌, List, arith}
use Rattle.std.proofs.lemmas.List.{nil_from_length}
use Rattle.recipe_data.specs.declared.recipe.Recipe.{Recipe}
use Rattle.run_input.proofs.Files.{all_read, few_read}
use Rattle.run_input.proofs.Turns.{none_done, cut_at, turn_done, turn_stops, all_done}
use Rattle.run_input.proofs.recipes.recipes_of.Goals as goal

pub turns-init : goal.turns-init
turns-init g c = none_done c.args.files.items c.new-recipes.result.items c.new-recipes.ensures.items

pub turns-preserved : goal.turns-preserved
turns-preserved g c =
    let rest = c.turns.rest.items in
    let turn = c.split_off.new.self.items in
    let cut = cut_at c.min.result rest turn c.in_ok-later.later.items c.in_ok-later.ensures.items c.in_ok-later.ensures.tail in
    let same : c.as_slice.result.now ≡ turn = c.as_slice.ensures.value in
    let both : c.append.new.self.items ≡ c.turns.recipes.items ++ c.in-Ok.more = c.in_ok-append-in-Ok.ensures.items
    ∙ ap (λ (more : List Recipe). c.turns.recipes.items ++ more) c.into_vec.ensures in
    turn_done c.args.files.items rest turn c.in_ok-later.later.items c.turns.recipes.items c.in-Ok.more c.append.new.self.items
    c.turns.invariant cut both (rw same at c.in-Ok.ensures.found) c.in-Ok.ensures.right (rw same at c.in-Ok.ensures.names)

pub returns-in-Err-clause-read : goal.returns-in-Err-clause-read
returns-in-Err-clause-read g c =
    let rest = c.turns.rest.items in
    let turn = c.split_off.new.self.items in
    let cut = cut_at c.min.result rest turn c.in_ok-later.later.items c.in_ok-later.ensures.items c.in_ok-later.ensures.tail in
    let same : c.as_slice.result.now ≡ turn = c.as_slice.ensures.value in
    turn_stops c.args.files.items rest turn c.in_ok-later.later.items c.turns.recipes.items c.in-Err.stop c.turns.invariant cut
    (rw same at c.in-Err.ensures.read)

pub returns-clause-read : goal.returns-clause-read
returns-clause-read g c =
    let none = nil_from_length c.turns.rest.items (grind arith) in
    let all = all_done c.args.files.items c.turns.rest.items c.turns.recipes.items c.turns.invariant none in
    rw c.from_vec.ensures (sym (all_read c.args.files.items c.turns.recipes.items all.0))

pub returns-clause-few_rows : goal.returns-clause-few_rows
returns-clause-few_rows g c =
    let none = nil_from_length c.turns.rest.items (grind arith) in
    let all = all_done c.args.files.items c.turns.rest.items c.turns.recipes.items c.turns.invariant none in
    rw c.from_vec.ensures
    (few_read c.size_laws.ensures.within c.args.files.items c.turns.recipes.items c.requires all.0)
