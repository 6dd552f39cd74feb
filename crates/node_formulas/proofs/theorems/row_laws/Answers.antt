use Rattle.std.proofs.Common.{refl}
use Rattle.node_formulas.proofs.RowLaws.{buildable-row, compiler-row, kept-row, provider-row}
use Rattle.node_formulas.proofs.theorems.row_laws.Goals as goal

pub returns : goal.returns
returns c = record {
  buildable = buildable-row;
  version = λ path condition t problem. refl;
  compiler = compiler-row;
  machine = λ path condition t problem. refl;
  kept = kept-row;
  provider = provider-row;
}
