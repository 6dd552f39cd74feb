use Rattle.std.proofs.Common.{◌∙◌}
use Rattle.keyed_lists.proofs.KeyedLaws.{told_false, told_true}
use Rattle.keyed_lists.proofs.TextLaws.{not_found, is_found, put_in_gap}
use Rattle.keyed_lists.proofs.keyed.insert.Goals as goal

pub returns-in-Ok-clause-added : goal.returns-in-Ok-clause-added
returns-in-Ok-clause-added g c =
    told_false (is_found g.T.Keyed.key_of _ _ _ (rw (c.as_slice.ensures.value, c.key.ensures) at c.in-Ok.ensures))

pub returns-in_ok-insert-in-Err-clause-added : goal.returns-in_ok-insert-in-Err-clause-added
returns-in_ok-insert-in-Err-clause-added g c =
    told_true (not_found g.T.Keyed.key_of _ _ _ (rw (c.as_slice.ensures.value, c.key.ensures) at c.in-Err.ensures))

pub returns-in_ok-insert-in-Err-clause-new : goal.returns-in_ok-insert-in-Err-clause-new
returns-in_ok-insert-in-Err-clause-new g c =
    c.in_ok-insert-in-Err.ensures.items ∙ put_in_gap g.T.Keyed.key_of _ _ _
    (rw (c.as_slice.ensures.value, c.key.ensures) at c.in-Err.ensures)
