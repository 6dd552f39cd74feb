use Rattle.std.proofs.Common.{◌≡◌, ◌++◌, ◌-◌, ◌<◌, [], ◌∷◌, sym, ap, subst, ◌∙◌, arith, ℕ, List, length, take, drop, OnOk}
use Rattle.std.proofs.lemmas.Grind.{common_steps}
use Rattle.clause_formulas.specs.Statements.{Statement}
use Rattle.term_builder.proofs.Later.{blocks-none, blocks-short, blocks-joined}
use Rattle.term_builder.proofs.governing.+push_blocks.Goals as goal

pub returns-then-times-eq0 : goal.returns-then-times-eq0
returns-then-times-eq0 t c =
    subst (λ (fs : List Statement). OnOk c.push_all.result (c.push_all.new.blocks.items ≡ c.args.blocks.now.items ++ fs))
    (sym (blocks-none c.args.times c.args.size c.args.parts.items c.if-times-eq0.true)) c.push_all.ensures

pub returns-then-len-size : goal.returns-then-len-size
returns-then-len-size t c =
    let fs = c.args.parts.items in
    let short : length fs < c.args.size = grind (arith, common_steps) in
    subst (λ (fs : List Statement). OnOk c.push_blocks.result (c.push_blocks.new.blocks.items ≡ c.args.blocks.now.items ++ fs))
    (sym (blocks-short c.args.times c.args.size fs c.if-times-eq0.false short)) c.push_blocks.ensures

pub returns : goal.returns
returns t c =
    let fs = c.args.parts.items in
    let long : length fs < c.args.size → ⊥ = λ h. grind (arith, common_steps) in
    let at : c.len-2.result - c.args.size ≡ length fs - c.args.size = grind (arith, common_steps) in
    let front : c.split_off.new.self.items ≡ take (length fs - c.args.size) fs = c.in_ok-back.ensures.items
    ∙ ap (λ (n : ℕ). take n fs) at in
    let back : c.in_ok-back.back.items ≡ drop (length fs - c.args.size) fs = c.in_ok-back.ensures.tail ∙ ap (λ (n : ℕ). drop n fs) at in
    let pushed : c.push.new.self.items ≡ c.args.blocks.now.items ++ c.in_ok-block.field-0 ∷ [] = c.in_ok-push.ensures.items in
    subst (λ (fs : List Statement). OnOk c.push_blocks-2.result (c.push_blocks-2.new.blocks.items ≡ fs))
    (blocks-joined c.args.blocks.now.items c.push.new.self.items fs c.split_off.new.self.items c.in_ok-back.back.items
    c.args.times c.args.size
    c.in_ok-block.field-0 c.if-times-eq0.false long front back c.in_ok-block.ensures pushed) c.push_blocks-2.ensures
