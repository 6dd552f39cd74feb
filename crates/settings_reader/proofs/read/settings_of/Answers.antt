use Rattle.std.proofs.Common.{List, ℕ, Ok, Err, refl, subst}
use Rattle.serde_json.specs.View.{view, members_view}
use Rattle.json_readers.specs.Objects.{known}
use Rattle.settings_reader.specs.Order.{head_of, tail_of}
use Rattle.settings_reader.specs.Packages.{ArePackagesAt}
use Rattle.settings_reader.specs.Settings.{IsSettings, IsTable, settings_keys}
use Rattle.settings_reader.specs.Told.{Tells, stop_of}
use Rattle.site_settings.specs.declared.settings.PackageEntry.{PackageEntry}
use Rattle.settings_reader.proofs.Telling.{hands_on, hands_on_fault, said_err, said_ok, said_tells, told_err, told_ok, told_tells}
use Rattle.settings_reader.proofs.read.settings_of.Goals as goal

pub returns-in_err-targets : goal.returns-in_err-targets
returns-in_err-targets c =
    let d = view c.args.value.now in
    let ms = members_view c.in_ok-members.members.now.entries in
    let head = c.in_ok-head.head in
    let stop = c.in_err-targets.field-0.0 in
    hands_on (IsSettings d) stop c.from_residual-in_err-targets.result c.from_residual-in_err-targets.ensures.1
    (said_tells (known settings_keys d) ms _ (Err stop) c.in_ok-members.ensures
    (said_tells (head_of ms) head _ (Err stop) c.in_ok-head.ensures
    (told_err (IsTable head.targets) _ stop c.in_err-targets.ensures)))

pub returns-in_err-tail : goal.returns-in_err-tail
returns-in_err-tail c =
    let d = view c.args.value.now in
    let ms = members_view c.in_ok-members.members.now.entries in
    let head = c.in_ok-head.head in
    let fault = c.in_err-tail.field-0.0 in
    hands_on_fault (IsSettings d) fault c.from_residual-in_err-tail.result c.from_residual-in_err-tail.ensures.1
    (said_tells (known settings_keys d) ms _ (Err (stop_of fault)) c.in_ok-members.ensures
    (said_tells (head_of ms) head _ (Err (stop_of fault)) c.in_ok-head.ensures
    (told_tells (IsTable head.targets) c.in_ok-targets.targets _ (Err (stop_of fault)) c.in_ok-targets.ensures
    (said_err (tail_of ms) _ fault (stop_of fault) refl c.in_err-tail.ensures))))

pub returns-in_err-packages : goal.returns-in_err-packages
returns-in_err-packages c =
    let d = view c.args.value.now in
    let ms = members_view c.in_ok-members.members.now.entries in
    let head = c.in_ok-head.head in
    let stop = c.in_err-packages.field-0.0 in
    let P : List ℕ → Type 0 = λ platform. Tells {T = List PackageEntry} (Err stop) (ArePackagesAt platform ms) in
    hands_on (IsSettings d) stop c.from_residual-in_err-packages.result c.from_residual-in_err-packages.ensures.1
    (said_tells (known settings_keys d) ms _ (Err stop) c.in_ok-members.ensures
    (said_tells (head_of ms) head _ (Err stop) c.in_ok-head.ensures
    (told_tells (IsTable head.targets) c.in_ok-targets.targets _ (Err stop) c.in_ok-targets.ensures
    (said_tells (tail_of ms) c.in_ok-tail.tail _ (Err stop) c.in_ok-tail.ensures
    (told_err (ArePackagesAt head.platform ms) _ stop (subst P c.as_str.ensures c.in_err-packages.ensures))))))

pub returns : goal.returns
returns c =
    let d = view c.args.value.now in
    let ms = members_view c.in_ok-members.members.now.entries in
    let head = c.in_ok-head.head in
    let packages = c.in_ok-packages.packages in
    let P : List ℕ → Type 0 = λ platform. ArePackagesAt platform ms (Ok packages) in
    said_ok (known settings_keys d) ms _ _ c.in_ok-members.ensures
    (said_ok (head_of ms) head _ _ c.in_ok-head.ensures
    (told_ok (IsTable head.targets) c.in_ok-targets.targets _ _ c.in_ok-targets.ensures
    (said_ok (tail_of ms) c.in_ok-tail.tail _ _ c.in_ok-tail.ensures
    (told_ok (ArePackagesAt head.platform ms) packages _ _ (subst P c.as_str.ensures c.in_ok-packages.ensures) refl))))
