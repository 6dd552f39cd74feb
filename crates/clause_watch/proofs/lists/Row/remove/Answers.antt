use Rattle.std.proofs.Common.{◌≡◌, ℕ, ◌+◌, ◌-◌, List, [], ◌∷◌, length, get_or, take, Some, sym, ap, ◌∙◌, arith}
use Rattle.std.specs.Prelude.{slice_set, slice_get}
use Rattle.std.proofs.lemmas.Option.{same_Some}
use Rattle.clause_watch.specs.declared.lists.Entry.{Entry}
use Rattle.clause_watch.specs.Lists.{removed}
use Rattle.clause_watch.proofs.RowPlaces.{at-get_or}
use Rattle.clause_watch.proofs.lists.Row.remove.Goals as goal

removed-is : (row : List Entry) (at last : ℕ) (e : Entry) → last + 1 ≡ length row → slice_get row last ≡ Some e
    → take last (slice_set row at e) ≡ removed row at
removed-is [] at last e h q = absurd (omega (arith, h))
removed-is (d ∷ row) at last e h q =
    let s : last ≡ length row = omega (arith, h) in
    let l : e ≡ get_or (d ∷ row) (length row) d =
    same_Some e (get_or (d ∷ row) (length row) d) (sym q ∙ ap (slice_get (d ∷ row)) s
    ∙ at-get_or (d ∷ row) (length row) d (omega arith)) in
    ap (λ n. take n (slice_set (d ∷ row) at e)) s ∙ ap (λ x. take (length row) (slice_set (d ∷ row) at x)) l

pub returns : goal.returns
returns c =
    c.cut.ensures ∙ ap (take (c.len-last.result - 1)) c.set.ensures
    ∙ removed-is c.args.self.now c.args.at (c.len-last.result - 1) c.copy_at-moved.result (omega (arith, c.len-last.ensures, c.requires))
    c.copy_at-moved.ensures
