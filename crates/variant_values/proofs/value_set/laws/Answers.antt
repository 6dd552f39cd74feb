use Rattle.variant_values.proofs.Texts.{same_texts, adds_text, with_text_in_order}
use Rattle.variant_values.proofs.value_set.laws.Goals as goal

pub returns : goal.returns
returns c = record { same = same_texts; adds = adds_text; ordered = with_text_in_order }
