-- What canonical texts consist of: values in the order of their keys, and no floats.
use Rattle.std.proofs.Common.{◌≡◌, refl, ap, subst, ◌∙◌, ℕ, Result, Ok, Err, IfOk, Bool, true, false, ◌||◌, List, [], ◌∷◌, map, fold, Option, Some, None, String}
use Rattle.std.specs.declared.alloc.Global.{Global}
use Rattle.std.specs.Ordering.{nat_cmp, match_ordering}
use Rattle.std.specs.declared.cmp.Ordering.TheVariants.{Less, Equal, Greater}
use Rattle.std.specs.Cmp.Lexicographic.{slice_cmp}
use Rattle.std.proofs.lemmas.Bool.{or_from}
use Rattle.serde_json.specs.Data.{Data, string, item, Members, no_members, member, put}
use Rattle.serde_json.specs.View.{view, items_of, members_of}
use Rattle.serde_json.specs.Written.{compact_text, has_float, items_have_float, members_have_float}
use Rattle.serde_json.specs.declared.value.Value.{Value}
use Rattle.graph_core.specs.Graphs.{Text}
use Rattle.graph_core.specs.declared.node.Compiler.{Compiler}
use Rattle.reuse_db.specs.Canonical.{texts_data, compiler_data, external_data, virtual_members, dependency_data, dependency_members, kind_texts, values_of, record_data}
use Rattle.reuse_db.specs.declared.record.Dependency.{Dependency}
use Rattle.reuse_db.specs.declared.record.Record.{Record}

-- the values of a map, in the order of its keys
pub values_seen : (entries : List (String Global × Value))
    → items_of (map view (map (λ e. e.1) entries)) ≡ values_of (members_of (map (λ e. (e.0, view e.1)) entries))
values_seen [] = refl
values_seen (e ∷ entries) = ap (item (view e.1)) (values_seen entries)

-- ---- no floats

-- the first of two that do not hold
pub first_of : (a b : Bool) → (a || b) ≡ false → a ≡ false
first_of false b p = refl
first_of true b p = absurd (let wrong : true ≡ false = p in cc)

-- the second of two that do not hold
pub second_of : (a b : Bool) → (a || b) ≡ false → b ≡ false
second_of false b p = p
second_of true b p = absurd (let wrong : true ≡ false = p in cc)

texts_float : (texts : List Text) → items_have_float (items_of (map string texts)) ≡ false
texts_float [] = refl
texts_float (text ∷ texts) = texts_float texts

-- a member without floats adds none
pub put_float : (k : Text) (d : Data) (ms : Members) → has_float d ≡ false → members_have_float ms ≡ false
    → members_have_float (put k d ms) ≡ false
put_float k d no_members f h = or_from _ _ f refl
put_float k d (member l e ms) f h =
    let rest = put_float k d ms f (second_of _ _ h) in
    elim (slice_cmp nat_cmp k l) as (λ r. members_have_float
    (match_ordering r (member k d (member l e ms)) (member l d ms) (member l e (put k d ms))) ≡ false) [
      | Less ↦ or_from _ _ f h
      | Equal ↦ or_from _ _ f (second_of _ _ h)
      | Greater ↦ or_from _ _ (first_of _ _ h) rest
    ]

variants_float : (variants : List (Text × List Text)) (ms : Members) → members_have_float ms ≡ false
    → members_have_float (fold (λ ms v. put v.0 (texts_data v.1) ms) ms variants) ≡ false
variants_float [] ms h = h
variants_float (v ∷ variants) ms h = variants_float variants (put v.0 (texts_data v.1) ms)
    (put_float v.0 (texts_data v.1) ms (texts_float v.1) h)

virtuals_float : (names : List Text) → members_have_float (virtual_members names) ≡ false
virtuals_float [] = refl
virtuals_float (name ∷ names) = or_from _ _ (texts_float (name ∷ names)) refl

dependency_float : (d : Dependency) → has_float (dependency_data d) ≡ false
dependency_float d = or_from _ _ (texts_float (kind_texts d.kinds)) (virtuals_float d.virtuals)

dependencies_float : (dependencies : List Dependency) (ms : Members) → members_have_float ms ≡ false
    → members_have_float (fold (λ ms d. put d.hash (dependency_data d) ms) ms dependencies) ≡ false
dependencies_float [] ms h = h
dependencies_float (d ∷ dependencies) ms h =
    dependencies_float dependencies (put d.hash (dependency_data d) ms) (put_float d.hash (dependency_data d) ms (dependency_float d) h)

values_float : (ms : Members) → members_have_float ms ≡ false → items_have_float (values_of ms) ≡ false
values_float no_members h = refl
values_float (member k d ms) h = or_from _ _ (first_of _ _ h) (values_float ms (second_of _ _ h))

compiler_float : (compiler : Option Compiler) → has_float (compiler_data compiler) ≡ false
compiler_float None = refl
compiler_float (Some c) = refl

external_float : (external : Option Text) → has_float (external_data external) ≡ false
external_float None = refl
external_float (Some prefix) = refl

-- a record has no floats
pub no_floats : (entry : Record) → has_float (record_data entry) ≡ false
no_floats entry =
    or_from _ _ (compiler_float entry.compiler)
    (or_from _ _ (values_float (dependency_members entry.dependencies) (dependencies_float entry.dependencies no_members refl))
    (or_from _ _ (external_float entry.external)
    (or_from _ _ (variants_float entry.variants no_members refl) refl)))

-- what a writer gives for a value that is seen as the data
pub ok_text : {T E : Type 0} (r : Result T E) (items : T → List ℕ) (v d : Data) → v ≡ d → has_float d ≡ false
    → IfOk r (λ b. has_float v ≡ false → items b ≡ compact_text v) → IfOk r (λ b. items b ≡ compact_text d)
ok_text (Ok b) items v d e none h = subst (λ w. items b ≡ compact_text w) e (h (ap has_float e ∙ none))
ok_text (Err x) items v d e none h = tt
