use Rattle.std.proofs.Common.{refl}
use Rattle.std.specs.Fmt.{digits}
use Rattle.run_output.specs.Report.{node_line, label_text, compiler_text, machine_text, origin_text, place_text, vector_line, worked_node}
use Rattle.run_output.proofs.report.worked_texts.Goals as goal

pub returns-clause-line : goal.returns-clause-line
unfolding node_line label_text compiler_text machine_text place_text origin_text worked_node
returns-clause-line c = refl

pub returns-clause-external : goal.returns-clause-external
unfolding digits node_line label_text compiler_text machine_text place_text origin_text worked_node
returns-clause-external c = refl

pub returns-clause-installed : goal.returns-clause-installed
unfolding node_line label_text compiler_text machine_text place_text origin_text worked_node
returns-clause-installed c = refl

pub returns-clause-vector : goal.returns-clause-vector
unfolding digits vector_line
returns-clause-vector c = refl
