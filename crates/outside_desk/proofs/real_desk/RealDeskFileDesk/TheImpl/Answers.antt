use Rattle.outside_desk.proofs.Agreements.{reading_tells, reading_still, listing_tells, listing_still, put_done, put_failed, put_unmade}
use Rattle.outside_desk.proofs.real_desk.RealDeskFileDesk.TheImpl.Goals as goal

pub read_at-tells : goal.read_at-tells
read_at-tells g c = record {
  bound = c.ensures.bound;
  bytes = rw c.ensures.files (reading_tells _ _ _ _ _);
  same = rw c.ensures.files (reading_still _ _ _ _ _);
  cause = c.ensures.faults.counts;
  steady = c.ensures.faults.kept;
  put_faults = c.ensures.put_faults;
}

pub list-tells : goal.list-tells
list-tells g c = record {
  names = rw c.ensures.files (listing_tells _ _ _);
  order = c.ensures.order;
  same = rw c.ensures.files (listing_still _ _ _);
  cause = c.ensures.faults.counts;
  steady = c.ensures.faults.kept;
  put_faults = c.ensures.put_faults;
}

pub put-tells : goal.put-tells
put-tells g c = record {
  ok = rw c.ensures.files (put_done _ _ _ _ _);
  failed = λ failed. rw c.ensures.files (put_failed _ _ _ _ _);
  memory = λ short. rw c.ensures.files (put_unmade _ _ _ _ _ short);
  never_missing = c.ensures.never_missing;
  cause = c.ensures.put_faults.counts;
  steady = c.ensures.put_faults.kept;
  faults = c.ensures.faults;
}
