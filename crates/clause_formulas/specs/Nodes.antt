-- What a formula of the code says.
use Rattle.clause_formulas.specs.declared.formula.Node.{Node}
use Rattle.clause_formulas.specs.declared.formula.Node.TheVariants.{Atom, Any, NoneOf}
use Rattle.clause_formulas.specs.Statements.{Statement, atom, no, any_statement}

abbrev pub said : Node → Statement
said (Atom l) = atom l
said (Any fs) = any_statement fs.items
said (NoneOf fs) = no (any_statement fs.items)
