use Rattle.std.proofs.Common.{◌≡◌, ◌-◌, ◌∙◌, ◌∷◌, arith, sym, ap, length, take, reverse, List, ℕ}
use Rattle.std.specs.Prelude.{slice_get}
use Rattle.recipe_lexer.proofs.Stacks.{reverse-last, ok_same, dedents_more, last_is}
use Rattle.recipe_lexer.specs.Layout.{view, dedents}
use Rattle.recipe_lexer.proofs.line.dedents.Goals as goal

pub loop-top-preserved : goal.loop-top-preserved
loop-top-preserved c =
    let items = c.loop-top.lexer.indents.items in
    let last = last_is items c.in-Some.top (c.in-Some.ensures ∙ c.last.ensures.value
    ∙ ap (λ (xs : List ℕ). slice_get xs (length xs - 1)) c.deref.ensures.value) in
    let top = reverse-last items c.in-Some.top last.0 last.1 in
    let now = ok_same _ _ c.in_ok-put-in-Some.ensures in
    let rest : reverse c.pop.new.self.items ≡ reverse (take (length items - 1) items) =
    ap reverse (c.pop.ensures.rest ∙ ap (λ n. take n items) (omega (arith, c.loop-top.lexer.indents.ok))) in
    let more = dedents_more c.args.start c.args.place c.args.spaces c.in-Some.top (reverse items) (reverse c.pop.new.self.items)
    (view c.loop-top.lexer) (top ∙ ap (λ r. c.in-Some.top ∷ r) (sym rest)) (c.if-spaces-top.false) (omega arith) in
    ap (λ v. dedents c.args.start c.args.place c.args.spaces v.indents v) (sym now) ∙ sym more ∙ c.loop-top.invariant
