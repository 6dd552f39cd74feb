-- Bytes are one database at most, or have one fault at most.
use Rattle.std.proofs.Common.{◌≡◌, ◌≢◌, refl, sym, ap, ◌∙◌, subst, ℕ, ◌<◌, List, Some, None, Result, Ok, Err, inl, inr, ⊎_elim, [], ◌∷◌, length, get_or, arith}
use Rattle.std.proofs.lemmas.Bool.{cases_lt}
use Rattle.serde_json.specs.Data.{Data}
use Rattle.json_readers.specs.declared.fault.Misfit.{Misfit}
use Rattle.json_readers.proofs.Once.{json_one, ok_one, some_one, none_or_some}
use Rattle.reuse_db.specs.Canonical.{right_hash}
use Rattle.reuse_db.specs.Databases.{AreRecords, HasNoTwice, IsDatabaseFault, IsFirstTwice, dangling, differing, hashes_of}
use Rattle.reuse_db.specs.declared.record.Record.{Record}
use Rattle.reuse_db.specs.declared.fault.DbFault.{DbFault}
use Rattle.reuse_db.specs.declared.fault.DbFault.TheVariants.{NotJson, WrongKind, HashDiffers, TwiceHash, Dangling, OutOfMemory}
use Rattle.record_reader.specs.Files.{records_at, IsDatabaseOf, IsDatabase}
use Rattle.record_reader.specs.Faults.{IsFaultOf, IsTextFault}

-- ---- the records

-- bytes are one database at most
pub database_one : (bytes : List ℕ) (a b : List Record) → IsDatabase bytes a → IsDatabase bytes b → a ≡ b
database_one bytes a b (d, json, p) (e, other, q) =
    ok_one (records_at e) a b (ap records_at (sym (json_one bytes d e json other)) ∙ p.0) q.0

-- ---- the fault of records

ordered : (i k : ℕ) → (i < k → ⊥) → (k < i → ⊥) → i ≡ k
ordered i k not_less not_more = ⊎_elim (λ lt. absurd (not_less lt))
    (λ le. ⊎_elim (λ lt. absurd (not_more lt)) (λ ge. omega (arith, le, ge)) (cases_lt k i)) (cases_lt i k)

some_record : (records : List Record) (i : ℕ) → i < length records → Record
some_record [] i lt = absurd (omega (arith, lt))
some_record (entry ∷ records) i lt = entry

-- the first record that has the hash of one before it is one
twice_one : (records : List Record) (h k : List ℕ) → IsFirstTwice records h → IsFirstTwice records k → h ≡ k
twice_one records h k (i, p, first, has) (j, q, other, too) =
    let same : i ≡ j = ordered i j (λ less. other i less p) (λ more. first j more q) in
    let entry : Record = some_record records i p.0 in
    sym (has entry) ∙ subst (λ n. (get_or records n entry).hash ≡ k) (sym same) (too entry)

behind_differing : (records : List Record) (entry : Record) (g : DbFault) → differing records ≡ Some entry → IsDatabaseFault records g
    → g ≢ OutOfMemory → HashDiffers entry.hash (right_hash entry) ≡ g
behind_differing records entry NotJson differs is other = absurd is
behind_differing records entry (WrongKind at) differs is other = absurd is
behind_differing records entry (HashDiffers written computed) differs (too, as_well, w, c) other =
    let same = some_one (differing records) entry too differs as_well in
    rw (w, c, same) refl
behind_differing records entry (TwiceHash hash) differs (apart, is) other = none_or_some (differing records) entry apart differs
behind_differing records entry (Dangling parent child) differs (apart, once, is) other =
    none_or_some (differing records) entry apart differs
behind_differing records entry OutOfMemory differs is other = absurd (other refl)

behind_twice : (records : List Record) (hash : List ℕ) (g : DbFault) → differing records ≡ None → IsFirstTwice records hash
    → IsDatabaseFault records g → g ≢ OutOfMemory → TwiceHash hash ≡ g
behind_twice records hash NotJson right twice is other = absurd is
behind_twice records hash (WrongKind at) right twice is other = absurd is
behind_twice records hash (HashDiffers written computed) right twice (entry, differs, w, c) other =
    none_or_some (differing records) entry right differs
behind_twice records hash (TwiceHash too) right twice (apart, is) other = ap (λ h. TwiceHash h) (twice_one records hash too twice is)
behind_twice records hash (Dangling parent child) right (place, is_twice, first, has) (apart, once, is) other = absurd (once place is_twice)
behind_twice records hash OutOfMemory right twice is other = absurd (other refl)

behind_lost : (records : List Record) (parent child : List ℕ) (g : DbFault) → differing records ≡ None → HasNoTwice records
    → dangling (hashes_of records) records ≡ Some (parent, child) → IsDatabaseFault records g → g ≢ OutOfMemory → Dangling parent child ≡ g
behind_lost records parent child NotJson right once lost is other = absurd is
behind_lost records parent child (WrongKind at) right once lost is other = absurd is
behind_lost records parent child (HashDiffers written computed) right once lost (entry, differs, w, c) other =
    none_or_some (differing records) entry right differs
behind_lost records parent child (TwiceHash hash) right once lost (apart, (place, is_twice, first, has)) other =
    absurd (once place is_twice)
behind_lost records parent child (Dangling p c) right once lost (apart, too, is) other =
    ap (λ (ends : List ℕ × List ℕ). Dangling ends.0 ends.1) (some_one (dangling (hashes_of records) records) (parent, child) (p, c) lost is)
behind_lost records parent child OutOfMemory right once lost is other = absurd (other refl)

records_one : (records : List Record) (f g : DbFault) → IsDatabaseFault records f → IsDatabaseFault records g → f ≢ OutOfMemory
    → g ≢ OutOfMemory → f ≡ g
records_one records NotJson g p q other not = absurd p
records_one records (WrongKind at) g p q other not = absurd p
records_one records (HashDiffers written computed) g (entry, differs, w, c) q other not =
    rw (w, c) (behind_differing records entry g differs q not)
records_one records (TwiceHash hash) g (right, twice) q other not = behind_twice records hash g right twice q not
records_one records (Dangling parent child) g (right, once, lost) q other not = behind_lost records parent child g right once lost q not
records_one records OutOfMemory g p q other not = absurd (other refl)

-- records without a fault have none but want of memory
sound_none : (records : List Record) (f : DbFault) → AreRecords records → IsDatabaseFault records f → f ≡ OutOfMemory
sound_none records NotJson are is = absurd is
sound_none records (WrongKind at) are is = absurd is
sound_none records (HashDiffers written computed) are (entry, differs, w, c) = none_or_some (differing records) entry are.same differs
sound_none records (TwiceHash hash) are (right, (place, is_twice, first, has)) = absurd (are.once place is_twice)
sound_none records (Dangling parent child) are (right, once, lost) =
    none_or_some (dangling (hashes_of records) records) (parent, child) are.known lost
sound_none records OutOfMemory are is = refl

-- ---- the fault of a value, and of bytes

ok_or_err : {T E B : Type 0} (r : Result T E) (x : T) (m : E) → r ≡ Ok x → r ≡ Err m → B
ok_or_err {T = T} {E = E} r x m p q = absurd (let is : (let R : Type 0 = Result T E in let l : R = Ok x in let s : R = Err m in l ≡ s) =
    sym p ∙ q in cc)

err_one : {T E : Type 0} (r : Result T E) (m n : E) → r ≡ Err m → r ≡ Err n → m ≡ n
err_one {T = T} {E = E} r m n p q = let is : (let R : Type 0 = Result T E in let l : R = Err m in let s : R = Err n in l ≡ s) =
    sym p ∙ q in cc

value_one : (d : Data) (f g : DbFault) → IsFaultOf d f → IsFaultOf d g → f ≢ OutOfMemory → g ≢ OutOfMemory → f ≡ g
value_one d f g (inl is) q other not = absurd (other is)
value_one d f g (inr p) (inl is) other not = absurd (not is)
value_one d f g (inr (inl (m, is, fault))) (inr (inl (n, too, as_well))) other not =
    fault ∙ ap (λ (misfit : Misfit). WrongKind misfit.at) (err_one (records_at d) m n is too) ∙ sym as_well
value_one d f g (inr (inl (m, is, fault))) (inr (inr (records, read, q))) other not = ok_or_err (records_at d) records m read is
value_one d f g (inr (inr (records, read, p))) (inr (inl (m, is, fault))) other not = ok_or_err (records_at d) records m read is
value_one d f g (inr (inr (records, read, p))) (inr (inr (others, too, q))) other not =
    records_one records f g p (subst (λ (l : List Record). IsDatabaseFault l g) (ok_one (records_at d) others records too read) q) other not

-- bytes have one fault at most besides want of memory
pub fault_one : (bytes : List ℕ) (f g : DbFault) → IsTextFault bytes f → IsTextFault bytes g → f ≢ OutOfMemory → g ≢ OutOfMemory → f ≡ g
fault_one bytes f g (inl is) q other not = absurd (other is)
fault_one bytes f g (inr p) (inl is) other not = absurd (not is)
fault_one bytes f g (inr (inl p)) (inr (inl q)) other not = p.0 ∙ sym q.0
fault_one bytes f g (inr (inl p)) (inr (inr (e, json, q))) other not = absurd (p.1 e json)
fault_one bytes f g (inr (inr (d, json, p))) (inr (inl q)) other not = absurd (q.1 d json)
fault_one bytes f g (inr (inr (d, json, p))) (inr (inr (e, too, q))) other not =
    value_one d f g p (subst (λ (v : Data). IsFaultOf v g) (json_one bytes e d too json) q) other not

-- ---- not both

value_right : (d : Data) (records : List Record) (f : DbFault) → IsDatabaseOf d records → IsFaultOf d f → f ≡ OutOfMemory
value_right d records f is (inl q) = q
value_right d records f is (inr (inl (m, wrong, q))) = ok_or_err (records_at d) records m is.0 wrong
value_right d records f is (inr (inr (others, too, q))) =
    sound_none records f is.1 (subst (λ (l : List Record). IsDatabaseFault l f) (ok_one (records_at d) others records too is.0) q)

-- a database is refused for want of memory alone
pub database_right : (bytes : List ℕ) (records : List Record) (f : DbFault) → IsDatabase bytes records → IsTextFault bytes f
    → f ≡ OutOfMemory
database_right bytes records f (d, json, is) (inl q) = q
database_right bytes records f (d, json, is) (inr (inl q)) = absurd (q.1 d json)
database_right bytes records f (d, json, is) (inr (inr (e, too, q))) =
    value_right d records f is (subst (λ (v : Data). IsFaultOf v f) (json_one bytes e d too json) q)
