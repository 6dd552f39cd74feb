use Rattle.std.proofs.Common.{refl, []}
use Rattle.std.proofs.lemmas.List.{get_or_read}
use Rattle.install_plan.proofs.by_wave.add_name.Goals as goal

pub returns : goal.returns
returns c =
    let read = get_or_read c.args.waves.now.items c.args.place _ c.requires c.index_mut-wave.ensures.value [] in
    rw (c.in_ok-push.ensures.ok, read, c.in_ok-duplicate.ensures) refl
