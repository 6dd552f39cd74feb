use Rattle.std.proofs.Common.{sym, ap, []}
use Rattle.std.specs.List.{filter_map}
use Rattle.outside_desk.specs.Listing.{name_below, with_names, names_in}
use Rattle.outside_desk.proofs.Listings.{keys_are}
use Rattle.outside_desk.proofs.file_map.FileMap.names_below.Goals as goal

pub loop-path-init : goal.loop-path-init
unfolding names_in
loop-path-init c =
    rw (← c.self.view_is, c.into_iter-path-iterator.ensures.into_iter_gives, c.keys-path-items.ensures.rest, c.new-names.ensures)
    (sym (ap (λ ps. with_names [] (filter_map (name_below c.args.folder.now) ps))
    (keys_are c.self.inside.entries c.keys-path-items.ensures.ordered)))
