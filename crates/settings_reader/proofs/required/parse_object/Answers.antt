use Rattle.std.proofs.Common.{ap, Some, Ok, Err, codes, refl}
use Rattle.serde_json.specs.View.{view, members_view}
use Rattle.json_readers.specs.Objects.{known, may}
use Rattle.json_readers.specs.Texts.{text_of}
use Rattle.settings_reader.specs.Required.{AreChoices, IsChoice, IsObject, IsWhen, keys}
use Rattle.settings_reader.specs.Told.{stop_of}
use Rattle.settings_reader.proofs.Telling.{hands_on, hands_on_fault, said_err, said_ok, said_tells, told_err, told_ok, told_tells}
use Rattle.settings_reader.proofs.required.parse_object.Goals as goal

pub returns-in_err-one_of : goal.returns-in_err-one_of
returns-in_err-one_of c =
    let d = view c.args.value.now in
    let ms = members_view c.in_ok-members.members.now.entries in
    let stop = c.in_err-one_of.field-0.0 in
    hands_on (IsObject d) stop c.from_residual-in_err-one_of.result c.from_residual-in_err-one_of.ensures.1
    (said_tells (known keys d) ms _ (Err stop) c.in_ok-members.ensures
    (told_err (IsChoice ms) _ stop c.in_err-one_of.ensures))

pub returns-in_err-any : goal.returns-in_err-any
returns-in_err-any c =
    let d = view c.args.value.now in
    let ms = members_view c.in_ok-members.members.now.entries in
    let stop = c.in_err-any.field-0.0 in
    hands_on (IsObject d) stop c.from_residual-in_err-any.result c.from_residual-in_err-any.ensures.1
    (said_tells (known keys d) ms _ (Err stop) c.in_ok-members.ensures
    (told_tells (IsChoice ms) c.in_ok-one_of.one_of _ (Err stop) c.in_ok-one_of.ensures
    (told_err (AreChoices (codes "any_of") ms) _ stop c.in_err-any.ensures)))

pub returns-in_err-message : goal.returns-in_err-message
returns-in_err-message c =
    let d = view c.args.value.now in
    let ms = members_view c.in_ok-members.members.now.entries in
    let fault = c.in_err-message.field-0.0 in
    hands_on_fault (IsObject d) fault c.from_residual-in_err-message.result c.from_residual-in_err-message.ensures.1
    (said_tells (known keys d) ms _ (Err (stop_of fault)) c.in_ok-members.ensures
    (told_tells (IsChoice ms) c.in_ok-one_of.one_of _ (Err (stop_of fault)) c.in_ok-one_of.ensures
    (told_tells (AreChoices (codes "any_of") ms) c.in_ok-any.any _ (Err (stop_of fault)) c.in_ok-any.ensures
    (said_err (may (text_of Some) (codes "message") ms) _ fault (stop_of fault) refl c.in_err-message.ensures))))

pub returns-in_err-one : goal.returns-in_err-one
returns-in_err-one c =
    let d = view c.args.value.now in
    let ms = members_view c.in_ok-members.members.now.entries in
    let stop = c.in_err-one.field-0.0 in
    hands_on (IsObject d) stop c.from_residual-in_err-one.result c.from_residual-in_err-one.ensures.1
    (said_tells (known keys d) ms _ (Err stop) c.in_ok-members.ensures
    (told_tells (IsChoice ms) c.in_ok-one_of.one_of _ (Err stop) c.in_ok-one_of.ensures
    (told_tells (AreChoices (codes "any_of") ms) c.in_ok-any.any _ (Err stop) c.in_ok-any.ensures
    (said_tells (may (text_of Some) (codes "message") ms) c.in_ok-message.message _ (Err stop) c.in_ok-message.ensures
    (told_err (AreChoices (codes "one_of") ms) _ stop c.in_err-one.ensures)))))

pub returns-in_err-when : goal.returns-in_err-when
returns-in_err-when c =
    let d = view c.args.value.now in
    let ms = members_view c.in_ok-members.members.now.entries in
    let stop = c.in_err-when.field-0.0 in
    hands_on (IsObject d) stop c.from_residual-in_err-when.result c.from_residual-in_err-when.ensures.1
    (said_tells (known keys d) ms _ (Err stop) c.in_ok-members.ensures
    (told_tells (IsChoice ms) c.in_ok-one_of.one_of _ (Err stop) c.in_ok-one_of.ensures
    (told_tells (AreChoices (codes "any_of") ms) c.in_ok-any.any _ (Err stop) c.in_ok-any.ensures
    (said_tells (may (text_of Some) (codes "message") ms) c.in_ok-message.message _ (Err stop) c.in_ok-message.ensures
    (told_tells (AreChoices (codes "one_of") ms) c.in_ok-one.one _ (Err stop) c.in_ok-one.ensures
    (told_err (IsWhen ms) _ stop c.in_err-when.ensures))))))

pub returns : goal.returns
returns c =
    let d = view c.args.value.now in
    let ms = members_view c.in_ok-members.members.now.entries in
    said_ok (known keys d) ms _ _ c.in_ok-members.ensures
    (told_ok (IsChoice ms) c.in_ok-one_of.one_of _ _ c.in_ok-one_of.ensures
    (told_ok (AreChoices (codes "any_of") ms) c.in_ok-any.any _ _ c.in_ok-any.ensures
    (said_ok (may (text_of Some) (codes "message") ms) c.in_ok-message.message _ _ c.in_ok-message.ensures
    (told_ok (AreChoices (codes "one_of") ms) c.in_ok-one.one _ _ c.in_ok-one.ensures
    (told_ok (IsWhen ms) c.in_ok-when.when _ _ c.in_ok-when.ensures (ap Ok c.required_entry.ensures))))))
