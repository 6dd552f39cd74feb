use Rattle.std.proofs.Common.{◌≡◌, [], ◌∷◌, ◌++◌, ◌-◌, sym, subst, List, take, drop, length, OnOk}
use Rattle.std.proofs.lemmas.List.{take_rest}
use Rattle.clause_formulas.specs.Statements.{Statement}
use Rattle.clause_formulas.specs.Few.{half_count, halves_apart, few_of}
use Rattle.clause_formulas.proofs.FewLaws.{few-none, few-short, few-joined}
use Rattle.clause_formulas.proofs.few.+push_halved.Goals as goal

pub returns-then-times-eq0 : goal.returns-then-times-eq0
returns-then-times-eq0 t c =
    subst (λ (fs : List Statement). OnOk c.push_apart.result (c.push_apart.new.parts.items ≡ c.args.parts.now.items ++ fs))
    (sym (few-none c.args.times c.args.lits.now c.if-times-eq0.true)) c.push_apart.ensures

pub returns-then-lits-le-SHORT : goal.returns-then-lits-le-SHORT
returns-then-lits-le-SHORT t c = subst (λ (fs : List Statement). OnOk c.push_apart-then-lits-le-SHORT.result
    (c.push_apart-then-lits-le-SHORT.new.parts.items ≡ c.args.parts.now.items ++ fs))
    (sym (few-short c.args.times c.args.lits.now c.if-lits-le-SHORT.true)) c.push_apart-then-lits-le-SHORT.ensures

pub returns : goal.returns
returns t c =
    let ls = c.args.lits.now in
    let pushed : c.push.new.self.items ≡ c.args.parts.now.items ++ c.in_ok-halves_apart.field-0 ∷ [] = c.in_ok-push.ensures.items in
    let halves : c.in_ok-halves_apart.field-0 ≡ halves_apart (take (half_count ls) ls)
    (take (length ls - half_count ls) (drop (half_count ls) ls)) =
    c.in_ok-halves_apart.ensures in
    let front : c.push_halved.new.parts.items ≡ c.push.new.self.items ++ few_of (c.args.times - 1) (take (half_count ls) ls) =
    c.in_ok-push_halved.ensures in
    let back : c.push_halved-2.new.parts.items ≡ c.push_halved.new.parts.items
    ++ few_of (c.args.times - 1) (take (length ls - half_count ls) (drop (half_count ls) ls)) = c.in_ok-push_halved-2.ensures in
    few-joined c.args.parts.now.items c.push.new.self.items c.push_halved.new.parts.items c.push_halved-2.new.parts.items c.args.times ls
    c.in_ok-halves_apart.field-0 c.if-times-eq0.false c.if-lits-le-SHORT.false pushed (rw (take_rest ls (half_count ls)) at halves) front
    (rw (take_rest ls (half_count ls)) at back)
