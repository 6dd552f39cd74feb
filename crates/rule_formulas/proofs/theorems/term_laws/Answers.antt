use Rattle.rule_formulas.proofs.Plain.{extras-agree, provider-agree}
use Rattle.rule_formulas.proofs.PlainTogether.{together-agree}
use Rattle.rule_formulas.proofs.Governing.{variants-agree}
use Rattle.rule_formulas.proofs.theorems.term_laws.Goals as goal

pub returns : goal.returns
returns c = record {
  extra = λ path condition table problem virtuals children name. extras-agree path condition table problem virtuals children name;
  used = λ path condition table may names virtual. provider-agree path condition table may names virtual;
  together = λ path condition table problem virtual. together-agree path condition table problem virtual;
  variants = λ path condition table problem variants name. variants-agree path condition table problem variants name;
}
