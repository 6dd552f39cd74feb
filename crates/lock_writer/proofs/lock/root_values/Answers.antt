use Rattle.std.proofs.Common.{◌∙◌, ap, sym, ◌++◌, map, append-nil}
use Rattle.std.specs.Str.{IsUtf8}
use Rattle.std.proofs.lemmas.List.{drop_all}
use Rattle.serde_json.specs.View.{view, items_of}
use Rattle.spec_grammar.specs.Canonical.{spec_text}
use Rattle.spec_grammar.specs.declared.part.Spec.{Spec}
use Rattle.lock_writer.specs.Texts.{IsOfNode, root_data}
use Rattle.lock_writer.proofs.KnownLaws.{all_at}
use Rattle.lock_writer.proofs.lock.root_values.Goals as goal

pub root_value-requires-clause-root : goal.root_value-requires-clause-root
root_value-requires-clause-root c = all_at (IsOfNode c.args.graph.now) c.args.roots.now c.loop-root.root-index c.root-item.result
    c.requires.roots c.loop-root-test.true c.root-item.is

pub root_value-requires-clause-text : goal.root_value-requires-clause-text
root_value-requires-clause-text c = all_at (λ (root : Spec). IsUtf8 (spec_text root)) c.args.roots.now c.loop-root.root-index
    c.root-item.result c.requires.texts c.loop-root-test.true c.root-item.is

pub returns : goal.returns
returns c =
    let written = map view c.loop-root.values.items in
    let roots = map (root_data c.args.graph.now) in
    ap items_of (sym (append-nil written) ∙ ap (λ rest. written ++ roots rest)
    (sym (drop_all c.loop-root.root-index c.args.roots.now c.loop-root-test.false)) ∙ c.loop-root.invariant)
