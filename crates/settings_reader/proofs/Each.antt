-- Values that are read one after another, by a loop.
use Rattle.std.proofs.Common.{◌≡◌, refl, sym, ap, subst, ℕ, List, [], ◌∷◌, ◌++◌, append_assoc, Ok, Err}
use Rattle.std.proofs.lemmas.List.{append-nil}
use Rattle.serde_json.specs.Data.{Data, Members, member, no_members}
use Rattle.settings_reader.specs.Told.{ToldResult, Told, Tells, Below}
use Rattle.settings_reader.specs.Parsed.{AreEach, member_pairs}
use Rattle.settings_reader.specs.declared.stop.Stop.{Stop}
use Rattle.settings_reader.specs.declared.stop.Stop.TheVariants as stop

-- what is read after some that were read
abbrev pub after : {T : Type 0} → List T → ToldResult (List T) → ToldResult (List T)
after xs (Ok ys) = Ok (xs ++ ys)
after xs (Err m) = Err m

-- some were read, and what the rest gives is what the whole gives
pub record Continues {T V : Type 0} (tells : List ℕ → V → Told T) (whole rest : List (List ℕ × V)) (read : List T) : Type 0 where
  pub to : (out : ToldResult (List T)) → AreEach tells rest out → AreEach tells whole (after read out)

after_none : {T : Type 0} (out : ToldResult (List T)) → after [] out ≡ out
after_none (Ok xs) = refl
after_none (Err m) = refl

after_more : {T : Type 0} (xs : List T) (x : T) (out : ToldResult (List T)) → after xs (after (x ∷ []) out) ≡ after (xs ++ x ∷ []) out
after_more xs x (Ok ys) = ap Ok (sym (append_assoc xs (x ∷ []) ys))
after_more xs x (Err m) = refl

-- at the beginning nothing was read
pub each_none : {T V : Type 0} (tells : List ℕ → V → Told T) (whole : List (List ℕ × V)) → Continues tells whole whole []
each_none tells whole = record {
  to = λ out h. let P : ToldResult (List _) → Type 0 = AreEach tells whole in
      subst P (sym (after_none out)) h;
}

-- one value more
each_cons : {T V : Type 0} (tells : List ℕ → V → Told T) (key : List ℕ) (d : V) (rest : List (List ℕ × V)) (x : T)
    (out : ToldResult (List T))
    → Below key (tells key d) (Ok x) → AreEach tells rest out → AreEach tells ((key, d) ∷ rest) (after (x ∷ []) out)
each_cons tells key d rest x (Ok xs) below h = record { step = Ok x; told = below; goes = record { step = Ok xs; told = h; goes = refl } }
each_cons tells key d rest x (Err m) below h = record { step = Ok x; told = below; goes = record { step = Err m; told = h; goes = refl } }

-- one value more was read
pub each_more : {T V : Type 0} (tells : List ℕ → V → Told T) (whole : List (List ℕ × V)) (key : List ℕ) (d : V)
    (rest : List (List ℕ × V)) (read new : List T) (x : T)
    → Continues tells whole ((key, d) ∷ rest) read → Below key (tells key d) (Ok x) → new ≡ read ++ x ∷ [] → Continues tells whole rest new
each_more tells whole key d rest read new x was below is = record {
  to = λ out h.
      let P : ToldResult (List _) → Type 0 = AreEach tells whole in
      rw is (subst P (after_more read x out) (was.to (after (x ∷ []) out) (each_cons tells key d rest x out below h)));
}

-- a value that is refused refuses the whole
pub each_stop : {T V : Type 0} (tells : List ℕ → V → Told T) (whole : List (List ℕ × V)) (key : List ℕ) (d : V)
    (rest : List (List ℕ × V)) (read : List T) (s : Stop)
    → Continues tells whole ((key, d) ∷ rest) read → Tells {T = T} (Err s) (Below key (tells key d))
    → Tells {T = List T} (Err s) (AreEach tells whole)
each_stop tells whole key d rest read (stop.Misread m) was below = was.to (Err m) (record { step = Err m; told = below; goes = refl })
each_stop tells whole key d rest read stop.OutOfMemory was below = tt

-- at the end all was read
pub each_end : {T V : Type 0} (tells : List ℕ → V → Told T) (whole : List (List ℕ × V)) (read : List T) → Continues tells whole [] read
    → AreEach tells whole (Ok read)
each_end tells whole read was = let P : List _ → Type 0 = λ xs. AreEach tells whole (Ok xs) in
    subst P (append-nil read) (was.to (Ok []) refl)

-- ---- where a loop goes over the members of an object, whose keys come as words

-- what is still to be read, with a member in front
abbrev pub Before : {T : Type 0} (tells : List ℕ → Data → Told T) (whole : List (List ℕ × Data)) (ms : Members) (read : List T) → Type 0
Before tells whole ms read = Continues tells whole (member_pairs ms) read

-- one member of an object more was read
pub member_more : {T : Type 0} (tells : List ℕ → Data → Told T) (whole : List (List ℕ × Data)) (key word : List ℕ) (d : Data)
    (now rest : Members) (read new : List T) (x : T)
    → Before tells whole now read → now ≡ member key d rest → word ≡ key → Below word (tells word d) (Ok x) → new ≡ read ++ x ∷ []
    → Before tells whole rest new
member_more tells whole key word d now rest read new x was is same below more =
    let P : Members → Type 0 = λ ms. Before tells whole ms read in
    let Q : List ℕ → Type 0 = λ k. Before tells whole (member k d rest) read in
    each_more tells whole word d (member_pairs rest) read new x (subst Q (sym same) (subst P is was)) below more

-- a member that is refused refuses the object
pub member_stop : {T : Type 0} (tells : List ℕ → Data → Told T) (whole : List (List ℕ × Data)) (key word : List ℕ) (d : Data)
    (now rest : Members) (read : List T) (s : Stop)
    → Before tells whole now read → now ≡ member key d rest → word ≡ key → Tells {T = T} (Err s) (Below word (tells word d))
    → Tells {T = List T} (Err s) (AreEach tells whole)
member_stop tells whole key word d now rest read s was is same below =
    let P : Members → Type 0 = λ ms. Before tells whole ms read in
    let Q : List ℕ → Type 0 = λ k. Before tells whole (member k d rest) read in
    each_stop tells whole word d (member_pairs rest) read s (subst Q (sym same) (subst P is was)) below

-- at the end all members were read
pub member_end : {T : Type 0} (tells : List ℕ → Data → Told T) (whole : List (List ℕ × Data)) (now : Members) (read : List T)
    → Before tells whole now read → now ≡ no_members → AreEach tells whole (Ok read)
member_end tells whole now read was is =
    let P : Members → Type 0 = λ ms. Before tells whole ms read in
    each_end tells whole read (subst P is was)
