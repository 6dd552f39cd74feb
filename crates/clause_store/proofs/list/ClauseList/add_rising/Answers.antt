use Rattle.std.proofs.Common.{◌≡◌, ◌≤◌, ◌^◌, [], ◌∷◌, ◌++◌, length, ap, sym, refl, subst, ◌∙◌, arith}
use Rattle.std.specs.Prelude.{vec_len}
use Rattle.clause_store.specs.declared.Label.TheVariants.{Structure}
use Rattle.clause_store.specs.Lits.{AllBelow}
use Rattle.clause_store.specs.Kept.{codes_of}
use Rattle.clause_store.specs.Clauses.{Clauses, with_clause}
use Rattle.clause_store.proofs.Range.{AllBelow-le}
use Rattle.clause_store.proofs.Headed.{AllBelow-last, codes-last}
use Rattle.clause_store.proofs.Kept.{kept-add, entries-add}
use Rattle.clause_store.proofs.list.ClauseList.add_rising.Goals as goal

pub push_codes-requires-clause-below : goal.push_codes-requires-clause-below
push_codes-requires-clause-below c =
    let small : vec_len c.self.inside.made ≤ 2 ^ 63 = omega arith in
    let b : AllBelow (vec_len c.self.inside.made) (c.args.last ∷ c.args.lits.now) =
    subst (λ n. AllBelow n (c.args.last ∷ c.args.lits.now)) (ap (λ (s : Clauses). s.vars) (sym c.self.view_is)) c.requires.below in
    AllBelow-le (vec_len c.self.inside.made) (2 ^ 63) c.args.lits.now small b.1

pub push_codes-requires-2-clause-room : goal.push_codes-requires-2-clause-room
push_codes-requires-2-clause-room c = omega (arith, c.push_codes.ensures.len, c.push_codes.ensures.room, c.in_ok-reserve.ensures.ok)

pub invariant_of-self-2 : goal.invariant_of-self-2
invariant_of-self-2 c =
    let codes = c.push_codes-2.new.codes in
    let n : c.len-end.result ≡ length codes.items = c.len-end.ensures ∙ omega (arith, codes.ok.0) in
    let b : AllBelow (vec_len c.self.inside.made) (c.args.last ∷ c.args.lits.now) =
    subst (λ n. AllBelow n (c.args.last ∷ c.args.lits.now)) (ap (λ (s : Clauses). s.vars) (sym c.self.view_is)) c.requires.below in
    kept-add _ _ _ _ _ _ _ (c.args.lits.now ++ c.args.last ∷ []) Structure (length c.self.inside.ends.items) _ c.self.invariant
    (AllBelow-last _ c.args.last c.args.lits.now b)
    c.requires.in_order refl refl
    (codes-last _ _ _ c.args.last c.args.lits.now
    (c.push_codes.ensures.items ∙ ap (λ ks. ks ++ codes_of c.args.lits.now) c.in_ok-reserve.ensures.items) c.push_codes-2.ensures.items) n
    (cc (c.push_within.ensures.items, c.in_ok-reserve-2.ensures.items))

pub returns-clause-ok : goal.returns-clause-ok
returns-clause-ok c =
    let codes = c.push_codes-2.new.codes in
    let n : c.len-end.result ≡ length codes.items = c.len-end.ensures ∙ omega (arith, codes.ok.0) in
    let e = entries-add _ _ _ _ _ _ _ (c.args.lits.now ++ c.args.last ∷ []) Structure (length c.self.inside.ends.items) _ c.self.invariant
    refl refl
    (codes-last _ _ _ c.args.last c.args.lits.now
    (c.push_codes.ensures.items ∙ ap (λ ks. ks ++ codes_of c.args.lits.now) c.in_ok-reserve.ensures.items) c.push_codes-2.ensures.items) n
    (cc (c.push_within.ensures.items, c.in_ok-reserve-2.ensures.items)) in
    ap (λ es. record { entries = es; vars = vec_len c.self.inside.made }) e
    ∙ ap (λ (s : Clauses). with_clause s (c.args.lits.now ++ c.args.last ∷ []) Structure) c.self.view_is
