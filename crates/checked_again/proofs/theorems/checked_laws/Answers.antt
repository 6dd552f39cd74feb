use Rattle.run_task.proofs.RootTexts.{texts_of}
use Rattle.checked_again.proofs.Answered.{answered}
use Rattle.checked_again.proofs.Accepted.{Laws, check, refute}
use Rattle.checked_again.proofs.theorems.checked_laws.Goals as goal

pub returns : goal.returns
returns c =
    let laws : Laws = record {
      there = c.put_laws.ensures.there;
      others = c.put_laws.ensures.others;
      listed = c.put_laws.ensures.listed;
      read = c.lock_file_laws.ensures.read;
      texts = texts_of c.writing_laws.ensures.read_again c.reading_laws.ensures.ascii;
      asked = c.lock_file_laws.ensures.asked;
      unbroken = c.rule_laws.ensures.valid;
      ordered = c.encoding_laws.ensures.ordered;
      ordered_rules = c.encoding_laws.ensures.ordered_rules;
      best = c.again_laws.ensures.best;
      nothing = c.again_laws.ensures.nothing;
    } in
    record { check = check laws; refute = refute laws; answered = answered c.task_laws.ensures.one }
