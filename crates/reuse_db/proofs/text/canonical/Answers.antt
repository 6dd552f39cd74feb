use Rattle.serde_json.specs.View.{view}
use Rattle.reuse_db.specs.Canonical.{canonical, record_data}
use Rattle.reuse_db.proofs.Texts.{no_floats, ok_text}
use Rattle.reuse_db.proofs.text.canonical.Goals as goal

pub returns : goal.returns
unfolding canonical
returns c = ok_text c.to_vec.result (λ b. b.items) (view c.in_ok-record_value.field-0) (record_data c.args.entry.now)
    c.in_ok-record_value.ensures (no_floats c.args.entry.now) c.to_vec.ensures.text
