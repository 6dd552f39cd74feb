use Rattle.std.proofs.Common.{Err, codes}
use Rattle.serde_json.specs.View.{view, members_view}
use Rattle.json_readers.specs.Objects.{known, may}
use Rattle.json_readers.specs.Texts.{truth_value}
use Rattle.settings_reader.specs.Externals.{IsExternal}
use Rattle.settings_reader.specs.Packages.{IsPackage, package_keys}
use Rattle.settings_reader.specs.Required.{AreRequiredAt}
use Rattle.settings_reader.specs.Parsed.{IsListAt}
use Rattle.settings_reader.specs.Versions.{IsVersionSet}
use Rattle.settings_reader.proofs.Telling.{hands_on, said_tells, told_err, told_tells}
use Rattle.settings_reader.proofs.package.parse_package.Goals as goal

pub returns-in_err-versions : goal.returns-in_err-versions
returns-in_err-versions c =
    let d = view c.args.value.now in
    let ms = members_view c.in_ok-members.members.now.entries in
    let stop = c.in_err-versions.field-0.0 in
    hands_on (IsPackage c.args.name.now c.args.platform.now d) stop c.from_residual-in_err-versions.result
    c.from_residual-in_err-versions.ensures.1
    (said_tells (known package_keys d) ms _ (Err stop) c.in_ok-members.ensures
    (told_err (IsListAt IsVersionSet (codes "versions") ms) _ stop c.in_err-versions.ensures))

pub returns-in_err-externals : goal.returns-in_err-externals
returns-in_err-externals c =
    let name = c.args.name.now in
    let platform = c.args.platform.now in
    let d = view c.args.value.now in
    let ms = members_view c.in_ok-members.members.now.entries in
    let stop = c.in_err-externals.field-0.0 in
    hands_on (IsPackage name platform d) stop c.from_residual-in_err-externals.result c.from_residual-in_err-externals.ensures.1
    (said_tells (known package_keys d) ms _ (Err stop) c.in_ok-members.ensures
    (told_tells (IsListAt IsVersionSet (codes "versions") ms) c.in_ok-versions.versions _ (Err stop) c.in_ok-versions.ensures
    (said_tells (may truth_value (codes "buildable") ms) c.in_ok-buildable.buildable _ (Err stop) c.in_ok-buildable.ensures
    (told_err (IsListAt (IsExternal name platform) (codes "externals") ms) _ stop c.in_err-externals.ensures))))

pub returns-in_err-require : goal.returns-in_err-require
returns-in_err-require c =
    let name = c.args.name.now in
    let platform = c.args.platform.now in
    let d = view c.args.value.now in
    let ms = members_view c.in_ok-members.members.now.entries in
    let stop = c.in_err-require.field-0.0 in
    hands_on (IsPackage name platform d) stop c.from_residual-in_err-require.result c.from_residual-in_err-require.ensures.1
    (said_tells (known package_keys d) ms _ (Err stop) c.in_ok-members.ensures
    (told_tells (IsListAt IsVersionSet (codes "versions") ms) c.in_ok-versions.versions _ (Err stop) c.in_ok-versions.ensures
    (said_tells (may truth_value (codes "buildable") ms) c.in_ok-buildable.buildable _ (Err stop) c.in_ok-buildable.ensures
    (told_tells (IsListAt (IsExternal name platform) (codes "externals") ms) c.in_ok-externals.externals _ (Err stop)
    c.in_ok-externals.ensures
    (told_err (AreRequiredAt ms) _ stop c.in_err-require.ensures)))))
