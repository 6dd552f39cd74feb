use Rattle.std.proofs.Common.{◌≡◌, ◌<◌, ◌^◌, ◌∙◌, ap, length, map, flat_map, List, Bor, arith}
use Rattle.recipe_reader.specs.declared.files.RecipeFile.{RecipeFile}
use Rattle.recipe_reader.proofs.PartLaws.{each_read, flat_is}
use Rattle.recipe_reader.proofs.beside.read_beside.Goals as goal

pub returns-in-Ok-read_each : goal.returns-in-Ok-read_each
returns-in-Ok-read_each g c =
    let now = λ (part : Bor (List RecipeFile)). part.now in
    let parts = c.in-Ok.parts.items in
    let same : flat_map (λ part. part) (map now parts) ≡ c.args.files.now = flat_is now parts ∙ c.in-Ok.ensures in
    let read = c.in-Ok-read_each.answers.items in
    let value : c.deref.result.now ≡ parts = c.deref.ensures.value in
    let count : length c.deref.result.now ≡ length parts = ap length value in
    let long : length read ≡ length parts = omega (arith, c.in-Ok-read_each.ensures.len) in
    let few : length (flat_map (λ part. part) (map now parts)) < 2 ^ 64 = rw same (omega arith) in
    rw same at (c.put_together.ensures (map now parts) (each_read now parts read long
    (λ i d e h. rw value at (c.in-Ok-read_each.ensures.each i d e (omega arith)))) few)
