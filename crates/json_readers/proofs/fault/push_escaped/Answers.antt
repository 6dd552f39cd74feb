use Rattle.std.proofs.Common.{◌≡◌, refl, ℕ, List, [], ◌∷◌, ◌++◌, sym, ap, ◌∙◌, string_bytes, flat_map, map}
use Rattle.std.specs.Str.{encode_utf8_all}
use Rattle.std.proofs.lemmas.Iterator.{YieldsList-from_chars}
use Rattle.std.proofs.lemmas.Iterator.Consumers.{YieldsList-end}
use Rattle.json_readers.specs.Faults.{escaped}
use Rattle.json_readers.proofs.Pointers.{escaped_more}
use Rattle.json_readers.proofs.fault.push_escaped.Goals as goal

map-id : (xs : List ℕ) → map (λ x. x) xs ≡ xs
map-id [] = refl
map-id (x ∷ xs) = ap (λ l. x ∷ l) (map-id xs)

pub loop-c-preserved : goal.loop-c-preserved
loop-c-preserved c = escaped_more _ _ _ c.loop-c.yielded c.in-Some.c c.loop-c.invariant c.in_ok-push_char.ensures

pub returns : goal.returns
returns c =
    let t = YieldsList-end (YieldsList-from_chars c.args.key.now c.utf8.key cc) c.loop-c.yielded _ c.loop-c.yielded_by _ _ c.in-None.is
    c.next.ensures.steps in
    c.loop-c.invariant ∙ ap (λ cs. string_bytes c.args.text.now ++ encode_utf8_all (flat_map escaped cs))
    (sym (map-id c.loop-c.yielded) ∙ t.0)
