use Rattle.std.proofs.Common.{refl}
use Rattle.std.specs.Fmt.{digits}
use Rattle.proof_log.proofs.text_theorems.worked_lines.Goals as goal

pub returns-clause-header : goal.returns-clause-header
unfolding digits
returns-clause-header c = refl

pub returns-clause-learnt : goal.returns-clause-learnt
unfolding digits
returns-clause-learnt c = refl

pub returns-clause-learnt_empty : goal.returns-clause-learnt_empty
unfolding digits
returns-clause-learnt_empty c = refl

pub returns-clause-zero_bit : goal.returns-clause-zero_bit
unfolding digits
returns-clause-zero_bit c = refl

pub returns-clause-one_bit : goal.returns-clause-one_bit
unfolding digits
returns-clause-one_bit c = refl

pub returns-clause-unsat : goal.returns-clause-unsat
unfolding digits
returns-clause-unsat c = refl

pub returns-clause-spent : goal.returns-clause-spent
unfolding digits
returns-clause-spent c = refl

pub returns-clause-nothing : goal.returns-clause-nothing
unfolding digits
returns-clause-nothing c = refl

pub returns-clause-cut_off : goal.returns-clause-cut_off
unfolding digits
returns-clause-cut_off c = refl

pub returns-clause-no_chain : goal.returns-clause-no_chain
unfolding digits
returns-clause-no_chain c = refl

pub returns-clause-not_ended : goal.returns-clause-not_ended
unfolding digits
returns-clause-not_ended c = refl

pub returns-clause-leading_zero : goal.returns-clause-leading_zero
unfolding digits
returns-clause-leading_zero c = refl

pub returns-clause-two_spaces : goal.returns-clause-two_spaces
unfolding digits
returns-clause-two_spaces c = refl

pub returns-clause-space_at_end : goal.returns-clause-space_at_end
unfolding digits
returns-clause-space_at_end c = refl

pub returns-clause-variables_fall : goal.returns-clause-variables_fall
unfolding digits
returns-clause-variables_fall c = refl

pub returns-clause-variable_twice : goal.returns-clause-variable_twice
unfolding digits
returns-clause-variable_twice c = refl

pub returns-clause-other_format : goal.returns-clause-other_format
unfolding digits
returns-clause-other_format c = refl

pub returns-clause-minus_zero : goal.returns-clause-minus_zero
unfolding digits
returns-clause-minus_zero c = refl

pub returns-clause-more : goal.returns-clause-more
unfolding digits
returns-clause-more c = refl
