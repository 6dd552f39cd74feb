use Rattle.std.proofs.Common.{refl, sym, ap, subst, ◌∙◌, ◌++◌, ◌∷◌, [], ℕ, List, Some}
use Rattle.std.specs.Str.{IsUtf8}
use Rattle.std.proofs.lemmas.Str.{IsUtf8-append}
use Rattle.json.proofs.Printed.Utf8.{IsUtf8-are_ascii}
use Rattle.serde_json.specs.Read.{read}
use Rattle.serde_json.specs.View.{view}
use Rattle.lock_writer.specs.Texts.{lock_data}
use Rattle.lock_writer.proofs.DepthLaws.{lock_shallow}
use Rattle.lock_writer.proofs.Floats.{lock_float, written}
use Rattle.lock_writer.proofs.LineFeeds.{read_fed}
use Rattle.lock_writer.proofs.lock.write_lock.Goals as goal

pub returns-clause-text : goal.returns-clause-text
returns-clause-text c =
    let g = c.args.graph.now in
    c.in_ok-push.ensures.items ∙ ap (λ (text : List ℕ). text ++ 10 ∷ [])
    (written (view c.in_ok-value.value) (lock_data g c.args.database.now c.args.roots.now) _ c.in_ok-value.ensures
    (lock_float g c.args.database.now c.args.roots.now) c.in_ok-text.ensures.text)

pub returns-clause-read : goal.returns-clause-read
returns-clause-read c =
    let d = lock_data c.args.graph.now c.args.database.now c.args.roots.now in
    let before = c.in_ok-text.text.items in
    let shallow = lock_shallow (view c.in_ok-value.value) c.args.graph.now c.args.database.now c.args.roots.now c.in_ok-value.ensures in
    let items = c.in_ok-push.ensures.items in (
      subst IsUtf8 (sym items) (IsUtf8-append before (10 ∷ []) c.in_ok-text.ensures.utf8 (IsUtf8-are_ascii (10 ∷ []) refl)),
      ap read items ∙ read_fed before ∙ c.in_ok-text.ensures.reads_back shallow ∙ ap Some c.in_ok-value.ensures,
    )
