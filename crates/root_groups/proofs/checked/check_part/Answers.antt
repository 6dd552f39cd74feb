use Rattle.root_groups.proofs.checked.check_part.Goals as goal

pub returns-clause-exact : goal.returns-clause-exact
returns-clause-exact g c =
    rw (c.as_slice.ensures.value, c.as_slice-values.ensures.value, c.lines.ensures) at c.check_certificate.ensures.exact
