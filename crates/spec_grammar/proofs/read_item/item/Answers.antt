use Rattle.std.proofs.lemmas.List.{take_rest}
use Rattle.spec_grammar.specs.Items.{mark_byte}
use Rattle.spec_grammar.specs.declared.item.Kind.TheVariants as kind
use Rattle.spec_grammar.proofs.ItemLaws.{sign_cut}
use Rattle.spec_grammar.proofs.read_item.item.Goals as goal

pub returns-in-Versions-clause-found : goal.returns-in-Versions-clause-found
returns-in-Versions-clause-found c =
    rw (take_rest c.args.text.now 1, ← sign_cut c.args.text.now kind.Versions 64 (λ first rest says. says) (cc)) at c.versions.ensures.found

pub returns-in-Versions-clause-fault : goal.returns-in-Versions-clause-fault
returns-in-Versions-clause-fault c =
    rw (take_rest c.args.text.now 1, ← sign_cut c.args.text.now kind.Versions 64 (λ first rest says. says) (cc)) at c.versions.ensures.fault

pub returns-in-Variant-clause-found : goal.returns-in-Variant-clause-found
returns-in-Variant-clause-found c =
    rw (
      take_rest c.args.text.now 1,
      ← sign_cut c.args.text.now (kind.Variant c.in-Variant.mark) (mark_byte c.in-Variant.mark)
          (λ first rest says. says) (cc),
    ) at c.variant.ensures.found

pub returns-in-Variant-clause-fault : goal.returns-in-Variant-clause-fault
returns-in-Variant-clause-fault c =
    rw (
      take_rest c.args.text.now 1,
      ← sign_cut c.args.text.now (kind.Variant c.in-Variant.mark) (mark_byte c.in-Variant.mark)
          (λ first rest says. says) (cc),
    ) at c.variant.ensures.fault

pub returns-in-Compiler-clause-found : goal.returns-in-Compiler-clause-found
returns-in-Compiler-clause-found c =
    rw (take_rest c.args.text.now 1, ← sign_cut c.args.text.now kind.Compiler 37 (λ first rest says. says) (cc)) at c.compiler.ensures.found

pub returns-in-Compiler-clause-fault : goal.returns-in-Compiler-clause-fault
returns-in-Compiler-clause-fault c =
    rw (take_rest c.args.text.now 1, ← sign_cut c.args.text.now kind.Compiler 37 (λ first rest says. says) (cc)) at c.compiler.ensures.fault

pub returns-in-Caret-clause-found : goal.returns-in-Caret-clause-found
returns-in-Caret-clause-found c = rw (take_rest c.args.text.now 1, ← sign_cut c.args.text.now kind.Caret 94 (λ first rest says. says) (cc))
    at c.caret.ensures.found

pub returns-in-Caret-clause-fault : goal.returns-in-Caret-clause-fault
returns-in-Caret-clause-fault c = rw (take_rest c.args.text.now 1, ← sign_cut c.args.text.now kind.Caret 94 (λ first rest says. says) (cc))
    at c.caret.ensures.fault
