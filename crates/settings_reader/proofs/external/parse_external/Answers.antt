use Rattle.std.proofs.Common.{List, ℕ, Some, Ok, Err, codes, refl, subst}
use Rattle.serde_json.specs.View.{view, members_view}
use Rattle.json_readers.specs.Objects.{known, need}
use Rattle.json_readers.specs.Texts.{text_of}
use Rattle.settings_reader.specs.Externals.{IsDescribed, IsExternal, external_keys}
use Rattle.settings_reader.specs.Told.{Below, Tells, stop_of}
use Rattle.settings_reader.specs.declared.external.Described.{Described}
use Rattle.settings_reader.proofs.Telling.{hands_on, hands_on_fault, said_err, said_tells, told_err, told_tells}
use Rattle.settings_reader.proofs.external.parse_external.Goals as goal

pub returns-in_err-described : goal.returns-in_err-described
returns-in_err-described c =
    let name = c.args.name.now in
    let platform = c.args.platform.now in
    let d = view c.args.value.now in
    let ms = members_view c.in_ok-members.members.now.entries in
    let text = c.in_ok-text.text in
    let stop = c.in_err-described.field-0.0 in
    let P : List ℕ → Type 0 = λ t. Tells {T = Described} (Err stop) (Below (codes "spec") (IsDescribed name platform t)) in
    hands_on (IsExternal name platform d) stop c.from_residual-in_err-described.result c.from_residual-in_err-described.ensures.1
    (said_tells (known external_keys d) ms _ (Err stop) c.in_ok-members.ensures
    (said_tells (need (text_of Some) (codes "spec") ms) text _ (Err stop) c.in_ok-text.ensures
    (told_err (Below (codes "spec") (IsDescribed name platform text)) _ stop (subst P c.as_str.ensures c.in_err-described.ensures))))

pub returns-in_err-prefix : goal.returns-in_err-prefix
returns-in_err-prefix c =
    let name = c.args.name.now in
    let platform = c.args.platform.now in
    let d = view c.args.value.now in
    let ms = members_view c.in_ok-members.members.now.entries in
    let text = c.in_ok-text.text in
    let described = c.in_ok-described.described in
    let fault = c.in_err-prefix.field-0.0 in
    let P : List ℕ → Type 0 = λ t. Below (codes "spec") (IsDescribed name platform t) (Ok described) in
    hands_on_fault (IsExternal name platform d) fault c.from_residual-in_err-prefix.result c.from_residual-in_err-prefix.ensures.1
    (said_tells (known external_keys d) ms _ (Err (stop_of fault)) c.in_ok-members.ensures
    (said_tells (need (text_of Some) (codes "spec") ms) text _ (Err (stop_of fault)) c.in_ok-text.ensures
    (told_tells (Below (codes "spec") (IsDescribed name platform text)) described _ (Err (stop_of fault))
    (subst P c.as_str.ensures c.in_ok-described.ensures)
    (said_err (need (text_of Some) (codes "prefix") ms) _ fault (stop_of fault) refl c.in_err-prefix.ensures))))
