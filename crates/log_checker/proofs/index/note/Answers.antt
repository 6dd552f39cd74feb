use Rattle.std.proofs.Common.{◌≡◌, ◌+◌, length, set, sym, subst, arith}
use Rattle.log_checker.specs.Links.{Notes}
use Rattle.log_checker.proofs.Links.{notes-own}
use Rattle.log_checker.proofs.index.note.Goals as goal

pub returns-clause-ok : goal.returns-clause-ok
returns-clause-ok c =
    let heads = c.args.heads.now in
    let links = c.args.links.now.items in
    let at = c.bucket_of-bucket.result in
    let next = c.len-next.result + 1 in
    let end : next ≡ length links + 1 = omega (arith, c.len-next.ensures) in
    subst (λ ls. Notes c.args.factor heads links (set heads at next) ls (record { clause = c.args.lits.now; by_bit = c.args.by_bit }))
    (sym c.in_ok-push-2.ensures.items) (
    notes-own c.args.factor heads links _ at next c.if-by_bit.false
    c.bucket_of-bucket.ensures.value c.bucket_of-bucket.ensures.within end)
