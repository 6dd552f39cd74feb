-- Steps of reading, put together.
use Rattle.std.proofs.Common.{◌≡◌, refl, ap, ◌∙◌, ℕ, List, Result, Ok, Err}
use Rattle.std.specs.Result.{IsErrAnd}
use Rattle.std.proofs.lemmas.Result.{err_from_is_err_and}
use Rattle.json_readers.specs.Faults.{Reading, Gives, pointed}
use Rattle.json_readers.specs.declared.fault.JsonFault.{JsonFault}
use Rattle.json_readers.specs.declared.fault.JsonFault.TheVariants as json
use Rattle.settings_reader.specs.Told.{ToldResult, Told, Tells, ToldThen, Below, Raises, misread, lift, told_by, stop_of}
use Rattle.settings_reader.specs.declared.stop.Stop.{Stop}
use Rattle.settings_reader.specs.declared.stop.Stop.TheVariants as stop

-- what is right by one relation is right by another
pub tells_map : {T : Type 0} (P Q : Told T) (result : Result T Stop) → ((out : ToldResult T) → P out → Q out) → Tells result P
    → Tells result Q
tells_map P Q (Ok x) f h = f (Ok x) h
tells_map P Q (Err (stop.Misread m)) f h = f (Err m) h
tells_map P Q (Err stop.OutOfMemory) f h = tt

-- what `?` hands on
pub carried : {T : Type 0} (s : Stop) (result : Result T Stop) → IsErrAnd result (λ t. t ≡ s) → result ≡ Err s
carried s result h = let p = err_from_is_err_and result h in p.1 ∙ ap Err p.2

-- a stop that is handed on tells the same
pub hands_on : {T : Type 0} (told : Told T) (s : Stop) (result : Result T Stop) → IsErrAnd result (λ t. t ≡ s) → Tells {T = T} (Err s) told
    → Tells result told
hands_on told s result h tells = rw (carried s result h) tells

-- so does a fault of a reader
pub hands_on_fault : {T : Type 0} (told : Told T) (fault : JsonFault) (result : Result T Stop) → IsErrAnd result (λ t. t ≡ stop_of fault)
    → Tells {T = T} (Err (stop_of fault)) told → Tells result told
hands_on_fault told fault result h tells = rw (carried (stop_of fault) result h) tells

-- ---- a step that a reader computes

-- a reading that gave a value, and then the next step
pub said_ok : {A B : Type 0} (read : Reading A) (x : A) (next : A → Told B) (out : ToldResult B) → read ≡ Ok x → next x out
    → ToldThen (told_by read) next out
said_ok read x next out is goes = record { step = Ok x; told = rw is refl; goes = goes }

-- a reading that gave a fault ends all
pub said_err : {A B : Type 0} (read : Reading A) (next : A → Told B) (fault : JsonFault) (s : Stop) → s ≡ stop_of fault
    → Gives {T = A} (Err fault) read → Tells {T = B} (Err s) (ToldThen (told_by read) next)
said_err read next (json.Misfit m) s is gives = rw is (record { step = lift read; told = refl; goes = rw gives refl })
said_err read next json.OutOfMemory s is gives = rw is tt

-- ---- a step that a relation tells

-- a step that gave a value, and then the next
pub told_ok : {A B : Type 0} (first : Told A) (x : A) (next : A → Told B) (out : ToldResult B) → first (Ok x) → next x out
    → ToldThen first next out
told_ok first x next out told goes = record { step = Ok x; told = told; goes = goes }

-- a step that stopped ends all
pub told_err : {A B : Type 0} (first : Told A) (next : A → Told B) (s : Stop) → Tells {T = A} (Err s) first
    → Tells {T = B} (Err s) (ToldThen first next)
told_err first next (stop.Misread m) told = record { step = Err m; told = told; goes = refl }
told_err first next stop.OutOfMemory told = tt

-- ---- the same, of what a call returned

-- a result that tells the step behind a reading tells both
pub said_tells : {A B : Type 0} (read : Reading A) (x : A) (next : A → Told B) (result : Result B Stop) → read ≡ Ok x
    → Tells result (next x) → Tells result (ToldThen (told_by read) next)
said_tells read x next (Ok y) is tells = said_ok read x next (Ok y) is tells
said_tells read x next (Err (stop.Misread m)) is tells = said_ok read x next (Err m) is tells
said_tells read x next (Err stop.OutOfMemory) is tells = tt

-- a result that tells the step behind another tells both
pub told_tells : {A B : Type 0} (first : Told A) (x : A) (next : A → Told B) (result : Result B Stop) → first (Ok x) → Tells result (next x)
    → Tells result (ToldThen first next)
told_tells first x next (Ok y) told tells = told_ok first x next (Ok y) told tells
told_tells first x next (Err (stop.Misread m)) told tells = told_ok first x next (Err m) told tells
told_tells first x next (Err stop.OutOfMemory) told tells = tt

-- ---- a step further down

-- a result below a key tells what was told there
pub below_raised : {T : Type 0} (key : List ℕ) (told : Told T) (read result : Result T Stop) → Raises key read result → Tells read told
    → Tells result (Below key told)
below_raised key told (Ok x) result raises tells = rw raises (record { inner = Ok x; right = tells; is = refl })
below_raised key told (Err (stop.Misread m)) result raises tells =
    tells_map (λ out. out ≡ Err (misread m.what (pointed key m.at))) (Below key told) result
    (λ out is. record { inner = Err m; right = tells; is = is }) raises
below_raised key told (Err stop.OutOfMemory) result raises tells = rw raises tt
