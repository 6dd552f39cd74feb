-- Each relation of reading holds for one outcome at most.
use Rattle.std.proofs.Common.{◌≡◌, ◌≢◌, sym, ap, ◌∙◌, subst, ℕ, List, [], ◌∷◌, Option, Some, None, Result, Ok, Err}
use Rattle.serde_json.specs.Data.{Data}
use Rattle.version_order.specs.Items.{Reads}
use Rattle.version_order.specs.declared.item.Item.{Item}
use Rattle.spec_grammar.specs.Reading.{Spells}
use Rattle.spec_grammar.specs.Faults.{IsFault}
use Rattle.spec_grammar.specs.declared.mode.Mode.{Mode}
use Rattle.spec_grammar.specs.declared.mode.Mode.TheVariants.{Specs, Condition}
use Rattle.spec_grammar.specs.declared.part.Spec.{Spec}
use Rattle.spec_grammar.specs.declared.fault.SpecFault.{SpecFault}
use Rattle.spec_grammar.specs.declared.fault.SpecFault.TheVariants as spec
use Rattle.json_readers.specs.Faults.{Reading}
use Rattle.settings_reader.specs.Told.{ToldResult, Told, ToldThen, Goes, Below, raised, told_by, done}
use Rattle.settings_reader.specs.Parsed.{AreEach, IsOptional}
use Rattle.settings_reader.specs.Versions.{IsSet, IsSetIn}
use Rattle.settings_reader.specs.Externals.{IsReadAs, IsDescribed, described_of}
use Rattle.settings_reader.specs.Required as required
use Rattle.settings_reader.specs.Required.{IsCondition, condition_told}

abbrev pub IsOne : {T : Type 0} → Told T → Type 0
IsOne told = (a b : ToldResult _) → told a → told b → a ≡ b

-- ---- steps

-- a reading has one outcome
pub said_one : {T : Type 0} (read : Reading T) → IsOne (told_by read)
said_one read a b h k = h ∙ sym k

-- a step that is done has one outcome
pub done_one : {T : Type 0} (x : T) → IsOne (done x)
done_one x a b h k = h ∙ sym k

-- what is told below a key has one outcome, if it has there
pub below_one : {T : Type 0} (key : List ℕ) (told : Told T) → IsOne told → IsOne (Below key told)
below_one key told one a b h k = h.is ∙ ap (raised key) (one h.inner k.inner h.right k.right) ∙ sym k.is

goes_one : {A B : Type 0} (step : ToldResult A) (next : A → Told B) → ((x : A) → IsOne (next x)) → (a b : ToldResult B) → Goes step next a
    → Goes step next b → a ≡ b
goes_one (Ok x) next one a b h k = one x a b h k
goes_one (Err m) next one a b h k = h ∙ sym k

-- two steps have one outcome, if each has
pub then_one : {A B : Type 0} (first : Told A) (next : A → Told B) → IsOne first → ((x : A) → IsOne (next x)) → IsOne (ToldThen first next)
then_one first next first_one next_one a b h k =
    let P : ToldResult _ → Type 0 = λ step. Goes step next a in
    goes_one k.step next next_one a b (subst P (first_one h.step k.step h.told k.told) h.goes) k.goes

-- ---- lists

-- all entries have one outcome, if each has
pub each_one : {T V : Type 0} (tells : List ℕ → V → Told T) → ((key : List ℕ) (d : V) → IsOne (tells key d))
    → (vs : List (List ℕ × V)) → IsOne (AreEach tells vs)
each_one tells one [] = done_one []
each_one tells one (v ∷ vs) =
    then_one (Below v.0 (tells v.0 v.1)) _ (below_one v.0 (tells v.0 v.1) (one v.0 v.1))
    (λ x. then_one (AreEach tells vs) _ (each_one tells one vs) (λ xs. done_one (x ∷ xs)))

-- what may be missing has one outcome, if it has where it is there
pub optional_one : {T : Type 0} (tells : Data → Told (List T)) → ((d : Data) → IsOne (tells d)) → (found : Option Data)
    → IsOne (IsOptional tells found)
optional_one tells one None = done_one []
optional_one tells one (Some d) = one d

-- ---- texts of a grammar

pub record ReadsSetsOnce : Type 0 where
  pub once : (text : List ℕ) (a b : List Item) → Reads text a → Reads text b → a ≡ b

set_one : ReadsSetsOnce → (text : List ℕ) → IsOne (IsSet text)
set_one laws text (Ok a) (Ok b) h k = ap Ok (laws.once text a b h.0 k.0)
set_one laws text (Ok a) (Err m) h k = absurd (k.1 a h)
set_one laws text (Err m) (Ok b) h k = absurd (h.1 b k)
set_one laws text (Err m) (Err n) h k = ap Err (h.0 ∙ sym k.0)

-- a set of versions in a value has one outcome
pub set_in_one : ReadsSetsOnce → (text : Option (List ℕ)) → IsOne (IsSetIn text)
set_in_one laws None a b h k = h ∙ sym k
set_in_one laws (Some text) a b h k = set_one laws text a b h k

pub record ReadsSpecsOnce : Type 0 where
  pub once : (mode : Mode) (text : List ℕ) (a b : List Spec) → Spells mode text a → Spells mode text b → a ≡ b
  pub one_fault : (mode : Mode) (text : List ℕ) (a b : SpecFault) → IsFault mode text a → IsFault mode text b → a ≢ spec.OutOfMemory
      → b ≢ spec.OutOfMemory → a ≡ b
  pub right : (mode : Mode) (text : List ℕ) (specs : List Spec) (fault : SpecFault) → Spells mode text specs → IsFault mode text fault
      → fault ≡ spec.OutOfMemory

read_one : ReadsSpecsOnce → (text : List ℕ) (a b : Result (List Spec) SpecFault) → IsReadAs text a → IsReadAs text b → a ≡ b
read_one laws text (Ok a) (Ok b) h k = ap Ok (laws.once Specs text a b h k)
read_one laws text (Ok a) (Err f) h k = absurd (k.1 (laws.right Specs text a f h k.0))
read_one laws text (Err f) (Ok b) h k = absurd (h.1 (laws.right Specs text b f k h.0))
read_one laws text (Err f) (Err e) h k = ap Err (laws.one_fault Specs text f e h.0 k.0 h.1 k.1)

-- what a spec describes has one outcome
pub described_one : ReadsSpecsOnce → (name platform text : List ℕ) → IsOne (IsDescribed name platform text)
described_one laws name platform text a b h k =
    h.is ∙ ap (described_of name platform) (read_one laws text h.read k.read h.right k.right) ∙ sym k.is

-- ---- conditions

only_same : (a b : Spec) → (let l : List Spec = a ∷ [] in let r : List Spec = b ∷ [] in l ≡ r) → a ≡ b
only_same a b e = cc

condition_read_one : ReadsSpecsOnce → (text : List ℕ) (a b : Result Spec SpecFault) → required.IsReadAsCondition text a → required.IsReadAsCondition text b
    → a ≡ b
condition_read_one laws text (Ok a) (Ok b) h k = ap Ok (only_same a b (laws.once Condition text (a ∷ []) (b ∷ []) h k))
condition_read_one laws text (Ok a) (Err f) h k = absurd (k.1 (laws.right Condition text (a ∷ []) f h k.0))
condition_read_one laws text (Err f) (Ok b) h k = absurd (h.1 (laws.right Condition text (b ∷ []) f k h.0))
condition_read_one laws text (Err f) (Err e) h k = ap Err (laws.one_fault Condition text f e h.0 k.0 h.1 k.1)

-- a text of a condition has one outcome
pub condition_one : ReadsSpecsOnce → (text : List ℕ) → IsOne (IsCondition text)
condition_one laws text a b h k = h.is ∙ ap condition_told (condition_read_one laws text h.read k.read h.right k.right) ∙ sym k.is
