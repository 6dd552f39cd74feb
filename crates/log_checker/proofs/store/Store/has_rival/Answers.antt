use Rattle.std.proofs.Common.{◌≡◌, ◌≤◌, length, ap, arith, refl}
use Rattle.log_checker.proofs.Links.{indexed-written, linked-written}
use Rattle.log_checker.proofs.store.Store.has_rival.Goals as goal

pub invariant_of-self : goal.invariant_of-self
invariant_of-self c =
    let s = c.self.inside in
    let heads : length c.note_rest.new.heads ≡ length s.heads.items = omega (arith, ap length c.deref_mut.ensures.value) in
    let within : length s.heads.items ≤ s.heads.len = omega (arith, ap length c.deref_mut.ensures.value, c.deref_mut.ensures.len) in
    indexed-written s.factor s.heads.len c.note_rest.new.heads s.heads.items c.note_rest.new.links.items s.known heads within
    c.self.invariant.0 c.note_rest.ensures.after

pub find_rival-found-requires-clause-linked : goal.find_rival-found-requires-clause-linked
find_rival-found-requires-clause-linked c =
    let s = c.self.inside in
    let heads : length c.note_rest.new.heads ≡ length s.heads.items = omega (arith, ap length c.deref_mut.ensures.value) in
    let within : length s.heads.items ≤ s.heads.len = omega (arith, ap length c.deref_mut.ensures.value, c.deref_mut.ensures.len) in
    linked-written s.factor s.heads.len c.note_rest.new.heads s.heads.items c.note_rest.new.links.items c.as_slice.result.now
    c.as_slice-2.result.now s.known s.known heads within c.as_slice.ensures.value c.as_slice-2.ensures.value refl
    c.note_rest.ensures.after c.in_ok-note_rest.ensures.all

pub invariant_of-self-2 : goal.invariant_of-self-2
invariant_of-self-2 c =
    let s = c.self.inside in
    let heads : length c.note_rest.new.heads ≡ length s.heads.items = omega (arith, ap length c.deref_mut.ensures.value) in
    let within : length s.heads.items ≤ s.heads.len = omega (arith, ap length c.deref_mut.ensures.value, c.deref_mut.ensures.len) in
    indexed-written s.factor s.heads.len c.note_rest.new.heads s.heads.items c.note_rest.new.links.items s.known heads within
    c.self.invariant.0 c.note_rest.ensures.after
