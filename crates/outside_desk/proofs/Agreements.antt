-- Files that have it as a machine answered.
use Rattle.std.proofs.Common.{◌≡◌, refl, ℕ, ◌-◌, ◌≤◌, ◌<◌, Bool, true, false, List, [], ◌∷◌, map, length, take, drop, Option, Some, None, Result, Ok, Err, Vec, String, inl, inr, arith}
use Rattle.std.specs.Prelude.{◌&&◌, ◌||◌, nat_le, nat_lt, Decides, IfSome, IsErrOf, OnOk}
use Rattle.std.specs.String.{string_bytes}
use Rattle.std.specs.Cmp.Lexicographic.{pointwise_decides}
use Rattle.std.specs.FinMap.{get}
use Rattle.std.specs.declared.alloc.Global.{Global}
use Rattle.std.proofs.lemmas.Bool.Decides.{Decides-and, Decides-like, Decides-not, Decides-ltb, not_from_Decides}
use Rattle.std.proofs.lemmas.Bool.{leb-true, le-leb}
use Rattle.std.proofs.lemmas.Slice.Eq.{bytes_eq-Decides}
use Rattle.outside_desk.specs.Files.{Files, IsPiece, ReadsAt, StillTells, MayHold, with_file}
use Rattle.outside_desk.specs.Listing.{Lists, names_in}
use Rattle.outside_desk.specs.Supposed.{is_piece, reads_at, is_empty, lists, told_where, is_put, put_where, after_reading, after_listing, after_put}
use Rattle.outside_desk.specs.declared.fault.DeskFault.{DeskFault}
use Rattle.outside_desk.specs.declared.fault.DeskFault.TheVariants.{Missing, Failed, OutOfMemory}

Decides-leb : (a b : ℕ) → Decides (nat_le a b) (a ≤ b)
Decides-leb a b = (leb-true a b, le-leb a b)

-- where neither of two holds, a third does
unless : {P Q R : Type 0} (x y z : Bool) → Decides x P → Decides y Q → Decides z R → Decides (x || (y || z)) (¬ P → ¬ Q → R)
unless true y z p q r = (λ e. λ none other. absurd (none (p.0 refl)), λ h. refl)
unless false true z p q r = (λ e. λ none other. absurd (other (q.0 refl)), λ h. refl)
unless false false z p q r =
    (λ e. λ none other. r.0 e, λ h. r.1 (h (not_from_Decides false p refl) (not_from_Decides false q refl)))

-- there are some bytes where there can be
some_decided : (room size from n : ℕ)
    → Decides (nat_le room 0 || (nat_le size from || nat_lt 0 n)) (0 < room → from < size → 0 < n)
some_decided room size from n =
    Decides-like (nat_le room 0 || (nat_le size from || nat_lt 0 n))
    (λ h. λ some inside. h (λ none. omega (arith, none, some)) (λ past. omega (arith, past, inside)))
    (λ h. λ some inside. h (omega (arith, some)) (omega (arith, inside)))
    (unless (nat_le room 0) (nat_le size from) (nat_lt 0 n) (Decides-leb room 0) (Decides-leb size from) (Decides-ltb 0 n))

piece_decided : (file : List ℕ) (from : ℕ) (out : List ℕ) (n : ℕ) → Decides (is_piece file from out n) (IsPiece file from out n)
unfolding is_piece
piece_decided file from out n =
    let fits = Decides-leb n (length out) in
    let inside = Decides-leb n (length file - from) in
    let same = bytes_eq-Decides (take n out) (take n (drop from file)) in
    let some = some_decided (length out) (length file) from n in
    let rest = Decides-and _ _ same some in
    Decides-like _ (λ all. record { fits = all.0; inside = all.1.0; same = all.1.1.0; more = all.1.1.1 })
    (λ (piece : IsPiece file from out n). (piece.fits, (piece.inside, (piece.same, piece.more))))
    (Decides-and _ _ fits (Decides-and _ _ inside rest))

-- the test of a reading
pub reads_decided : (file : Option (List ℕ)) (from : ℕ) (out : List ℕ) (answer : Result ℕ DeskFault)
    → Decides (reads_at file from out answer) (ReadsAt file from out answer)
unfolding reads_at
reads_decided (Some file) from out (Ok n) = piece_decided file from out n
reads_decided None from out (Ok n) = (λ e. absurd cc, λ h. absurd h)
reads_decided (Some file) from out (Err Missing) = (λ e. absurd cc, λ e. absurd cc)
reads_decided None from out (Err Missing) = (λ e. refl, λ e. refl)
reads_decided (Some file) from out (Err Failed) = (λ e. tt, λ h. refl)
reads_decided None from out (Err Failed) = (λ e. tt, λ h. refl)
reads_decided (Some file) from out (Err OutOfMemory) = (λ e. tt, λ h. refl)
reads_decided None from out (Err OutOfMemory) = (λ e. tt, λ h. refl)

empty_decided : (names : List (List ℕ)) → Decides (is_empty names) (names ≡ [])
empty_decided [] = (λ e. refl, λ e. refl)
empty_decided (name ∷ names) = (λ e. absurd cc, λ e. absurd cc)

-- the test of a listing
pub lists_decided : (files : Files) (folder : List ℕ) (answer : Result (Vec (String Global) Global) DeskFault)
    → Decides (lists (names_in files folder) answer) (Lists files folder answer)
unfolding lists
lists_decided files folder (Ok names) =
    Decides-and _ _ (pointwise_decides bytes_eq-Decides (map string_bytes names.items) (names_in files folder))
    (Decides-not _ (empty_decided (names_in files folder)))
lists_decided files folder (Err Missing) = empty_decided (names_in files folder)
lists_decided files folder (Err Failed) = (λ e. tt, λ h. refl)
lists_decided files folder (Err OutOfMemory) = (λ e. tt, λ h. refl)

-- ---- what is told behind a call

told_so : (b : Bool) (P : Files → Type 0) (files : Files) → Decides b (P files) → IfSome (told_where b files) P
told_so true P files decides = decides.0 refl
told_so false P files decides = tt

still_so : (b : Bool) (files : Files) → StillTells (Some files) (told_where b files)
still_so true files = inr refl
still_so false files = inl refl

pub reading_tells : (path : List ℕ) (from : ℕ) (out : List ℕ) (answer : Result ℕ DeskFault) (before : Option Files)
    → IfSome (after_reading path from out answer before) (λ m. ReadsAt (get m path) from out answer)
reading_tells path from out answer None = tt
reading_tells path from out answer (Some files) =
    told_so (reads_at (get files path) from out answer) (λ m. ReadsAt (get m path) from out answer) files
    (reads_decided (get files path) from out answer)

pub reading_still : (path : List ℕ) (from : ℕ) (out : List ℕ) (answer : Result ℕ DeskFault) (before : Option Files)
    → StillTells before (after_reading path from out answer before)
reading_still path from out answer None = inr refl
reading_still path from out answer (Some files) = still_so (reads_at (get files path) from out answer) files

pub listing_tells : (path : List ℕ) (answer : Result (Vec (String Global) Global) DeskFault) (before : Option Files)
    → IfSome (after_listing path answer before) (λ m. Lists m path answer)
listing_tells path answer None = tt
listing_tells path answer (Some files) =
    told_so (lists (names_in files path) answer) (λ m. Lists m path answer) files (lists_decided files path answer)

pub listing_still : (path : List ℕ) (answer : Result (Vec (String Global) Global) DeskFault) (before : Option Files)
    → StillTells before (after_listing path answer before)
listing_still path answer None = inr refl
listing_still path answer (Some files) = still_so (lists (names_in files path) answer) files

pub put_done : (path bytes : List ℕ) (answer : Result Unit DeskFault) (late : List Bool) (before : Option Files)
    → OnOk answer (after_put path bytes answer late before ≡ with_file before path bytes)
unfolding is_put
put_done path bytes (Ok done) late before = refl
put_done path bytes (Err fault) late before = tt

held_where : (b : Bool) (path bytes : List ℕ) (before : Option Files) → MayHold before (put_where b path bytes before) path bytes
held_where true path bytes before = inr refl
held_where false path bytes before = inl refl

pub put_failed : (path bytes : List ℕ) (answer : Result Unit DeskFault) (late : List Bool) (before : Option Files)
    → MayHold before (after_put path bytes answer late before) path bytes
put_failed path bytes answer late before = held_where (is_put answer late) path bytes before

pub put_unmade : (path bytes : List ℕ) (answer : Result Unit DeskFault) (late : List Bool) (before : Option Files)
    → IsErrOf answer OutOfMemory → after_put path bytes answer late before ≡ before
unfolding is_put
put_unmade path bytes (Ok done) late before of = absurd cc
put_unmade path bytes (Err Missing) late before of = refl
put_unmade path bytes (Err Failed) late before of = absurd cc
put_unmade path bytes (Err OutOfMemory) late before of = refl
