-- What the puts and the lines of the roots before leave, and those of the next one.
use Rattle.std.proofs.Common.{◌≡◌, ◌⊎◌, inl, inr, refl, sym, ap, subst, ◌∙◌, ℕ, zero, suc, ◌+◌, ◌<◌, arith, append_assoc, append-nil, List, [], ◌∷◌, ◌++◌, length, take, drop, get_or, Option, Result, Ok, Err}
use Rattle.std.specs.List.{AllZip}
use Rattle.std.proofs.lemmas.List.{drop_more, take_all, take_more, length-take-le, take-append-drop}
use Rattle.outside_desk.specs.Files.{Files}
use Rattle.run_answers.specs.Texts.{root_line}
use Rattle.run_task.specs.Answer.{Answer}
use Rattle.run_task.specs.Answer.TheVariants as answers
use Rattle.run_task.specs.Places.{cert_at, lock_at}
use Rattle.run_task.specs.Problems.{Problem}
use Rattle.run_task.specs.WriteStop.{WriteStop}
use Rattle.run_task.specs.WriteStop.TheVariants.{Put, Output, NoMemory}
use Rattle.run_output.specs.Answers.{PutsAnswer}
use Rattle.run_output.specs.Each.{HoldsFrom, IsHalfFrom, brief_line, files_from, lines_from}
use Rattle.run_output.specs.EachPuts.{PutsEach}
use Rattle.run_output.specs.Put.{HoldsWhole, IsHalfPut, files_with}

-- ---- behind other roots

-- the files of one root more, which has the number `at`
files_more : (dir : List ℕ) (root at : ℕ) (problems : List Problem) (found : List Answer) (problem : Problem) (answer : Answer)
    (files : Option Files) → length found ≡ length problems → root + length problems ≡ at
    → files_from dir root (problems ++ problem ∷ []) (found ++ answer ∷ []) files
    ≡ files_with (lock_at dir at) (cert_at dir at) problem answer (files_from dir root problems found files)
files_more dir root at [] [] problem answer files same is =
    let here : root ≡ at = omega (arith, is) in ap (λ (n : ℕ). files_with (lock_at dir n) (cert_at dir n) problem answer files) here
files_more dir root at [] (a ∷ found) problem answer files same is = absurd (omega (arith, same))
files_more dir root at (p ∷ problems) [] problem answer files same is = absurd (omega (arith, same))
files_more dir root at (p ∷ problems) (a ∷ found) problem answer files same is =
    files_more dir (root + 1) at problems found problem answer (files_with (lock_at dir root) (cert_at dir root) p a files)
    (omega (arith, same)) (omega (arith, is))

-- the lines of one root more
lines_more : (whole : Problem) (root at : ℕ) (problems : List Problem) (found : List Answer) (problem : Problem) (answer : Answer)
    → length found ≡ length problems → root + length problems ≡ at
    → lines_from whole root (problems ++ problem ∷ []) (found ++ answer ∷ [])
    ≡ lines_from whole root problems found ++ (root_line whole at ++ brief_line problem answer)
lines_more whole root at [] [] problem answer same is =
    let here : root ≡ at = omega (arith, is) in
    append-nil (root_line whole root ++ brief_line problem answer)
    ∙ ap (λ (n : ℕ). root_line whole n ++ brief_line problem answer) here
lines_more whole root at [] (a ∷ found) problem answer same is = absurd (omega (arith, same))
lines_more whole root at (p ∷ problems) [] problem answer same is = absurd (omega (arith, same))
lines_more whole root at (p ∷ problems) (a ∷ found) problem answer same is =
    ap (λ (rest : List ℕ). (root_line whole root ++ brief_line p a) ++ rest)
    (lines_more whole (root + 1) at problems found problem answer (omega (arith, same)) (omega (arith, is)))
    ∙ sym (append_assoc (root_line whole root ++ brief_line p a) (lines_from whole (root + 1) problems found)
    (root_line whole at ++ brief_line problem answer))

module _ (dir : List ℕ) (problem : Problem) (answer : Answer) (later : List Problem) (others : List Answer) (at : ℕ)
    (after : Option Files) where
  -- a put that failed behind roots of which all files are whole
  half_behind : (root : ℕ) (problems : List Problem) (found : List Answer) (path : List ℕ) (before : Option Files)
      → length found ≡ length problems → root + length problems ≡ at
      → IsHalfPut (lock_at dir at) (cert_at dir at) problem answer path (files_from dir root problems found before) after
      → IsHalfFrom dir root (problems ++ problem ∷ later) (found ++ answer ∷ others) path before after
  half_behind root [] [] path before same is half =
      let here : at ≡ root = omega (arith, is) in
      inl (subst (λ (n : ℕ). IsHalfPut (lock_at dir n) (cert_at dir n) problem answer path before after) here half)
  half_behind root [] (a ∷ found) path before same is half = absurd (omega (arith, same))
  half_behind root (p ∷ problems) [] path before same is half = absurd (omega (arith, same))
  half_behind root (p ∷ problems) (a ∷ found) path before same is half =
      inr (half_behind (root + 1) problems found path (files_with (lock_at dir root) (cert_at dir root) p a before) (omega (arith, same))
      (omega (arith, is)) half)

  -- what files hold behind such roots
  held_behind : (root : ℕ) (problems : List Problem) (found : List Answer) (before : Option Files)
      → length found ≡ length problems → root + length problems ≡ at
      → HoldsWhole (lock_at dir at) (cert_at dir at) problem answer (files_from dir root problems found before) after
      → HoldsFrom dir root (problems ++ problem ∷ later) (found ++ answer ∷ others) before after
  held_behind root [] [] before same is held =
      let here : at ≡ root = omega (arith, is) in
      inl (subst (λ (n : ℕ). HoldsWhole (lock_at dir n) (cert_at dir n) problem answer before after) here held)
  held_behind root [] (a ∷ found) before same is held = absurd (omega (arith, same))
  held_behind root (p ∷ problems) [] before same is held = absurd (omega (arith, same))
  held_behind root (p ∷ problems) (a ∷ found) before same is held =
      inr (held_behind (root + 1) problems found (files_with (lock_at dir root) (cert_at dir root) p a before) (omega (arith, same))
      (omega (arith, is)) held)

-- ---- at a place of the lists

split_list : {X : Type 0} (xs : List X) (i : ℕ) (x : X) → i < length xs → x ≡ get_or xs i x → xs ≡ take i xs ++ x ∷ drop (i + 1) xs
split_list xs i x within is =
    sym (take-append-drop i xs) ∙ ap (λ ys. take i xs ++ ys) (drop_more xs i x within ∙ ap (λ y. y ∷ drop (i + 1) xs) (sym is))

take_to : {X : Type 0} (xs : List X) (i : ℕ) (x : X) → i < length xs → x ≡ get_or xs i x → take (i + 1) xs ≡ take i xs ++ x ∷ []
take_to xs i x within is = take_more xs i x within ∙ ap (λ y. take i xs ++ y ∷ []) (sym is)

module _ {A B : Type 0} (R : A → B → Type 0) where
  -- lists of which each pair holds are as long as each other
  pub zip_length : (xs : List A) (ys : List B) → AllZip R xs ys → length ys ≡ length xs
  zip_length [] [] all = refl
  zip_length [] (y ∷ ys) all = absurd all
  zip_length (x ∷ xs) [] all = absurd all
  zip_length (x ∷ xs) (y ∷ ys) all = let rest = zip_length xs ys all.1 in omega (arith, rest)

  zip_at : (xs : List A) (ys : List B) (i : ℕ) (d : A) (e : B) → AllZip R xs ys → i < length xs → R (get_or xs i d) (get_or ys i e)
  zip_at [] ys i d e all lt = absurd (omega (arith, lt))
  zip_at (x ∷ xs) [] i d e all lt = absurd all
  zip_at (x ∷ xs) (y ∷ ys) zero d e all lt = all.0
  zip_at (x ∷ xs) (y ∷ ys) (suc i) d e all lt = zip_at xs ys i d e all.1 (omega (arith, lt))

  -- the pair at one place holds
  pub zip_here : (xs : List A) (ys : List B) (i : ℕ) (x : A) (y : B) → AllZip R xs ys → i < length xs → x ≡ get_or xs i x
      → y ≡ get_or ys i y
      → R x y
  zip_here xs ys i x y all within is at =
      subst (λ b. R x b) (sym at) (subst (λ a. R a (get_or ys i y)) (sym is) (zip_at xs ys i x y all within))

module _ (problems : List Problem) (found : List Answer) (place : ℕ) (problem : Problem) (answer : Answer)
    (same : length found ≡ length problems) (within : place < length problems) (at_problem : problem ≡ get_or problems place problem)
    (at_answer : answer ≡ get_or found place answer) where
  fronts : length (take place found) ≡ length (take place problems)
  fronts =
      let a : length (take place found) ≡ place = length-take-le place found (omega (arith, same, within)) in
      let b : length (take place problems) ≡ place = length-take-le place problems (omega (arith, within)) in
      omega (arith, a, b)

  number : 0 + length (take place problems) ≡ place
  number = let b : length (take place problems) ≡ place = length-take-le place problems (omega (arith, within)) in omega (arith, b)

  also : place < length found
  also = omega (arith, same, within)

  -- one root more was put
  pub files_next : (dir : List ℕ) (before between after : Option Files)
      → between ≡ files_from dir 0 (take place problems) (take place found) before
      → after ≡ files_with (lock_at dir place) (cert_at dir place) problem answer between
      → after ≡ files_from dir 0 (take (place + 1) problems) (take (place + 1) found) before
  files_next dir before between after so_far put =
      put ∙ ap (files_with (lock_at dir place) (cert_at dir place) problem answer) so_far
      ∙ sym (files_more dir 0 place (take place problems) (take place found) problem answer before fronts number)
      ∙ ap (λ (ps : List Problem). files_from dir 0 ps (take place found ++ answer ∷ []) before)
      (sym (take_to problems place problem within at_problem))
      ∙ ap (λ (fs : List Answer). files_from dir 0 (take (place + 1) problems) fs before) (sym (take_to found place answer also at_answer))

  -- and no more
  pub held_next : (dir : List ℕ) (before between after : Option Files)
      → between ≡ files_from dir 0 (take place problems) (take place found) before
      → (between ≡ before) ⊎ HoldsFrom dir 0 problems found before between
      → (after ≡ between) ⊎ HoldsWhole (lock_at dir place) (cert_at dir place) problem answer between after
      → (after ≡ before) ⊎ HoldsFrom dir 0 problems found before after
  held_next dir before between after so_far held (inl unchanged) =
      subst (λ (m : Option Files). (m ≡ before) ⊎ HoldsFrom dir 0 problems found before m) (sym unchanged) held
  held_next dir before between after so_far held (inr put) =
      inr (subst (λ (fs : List Answer). HoldsFrom dir 0 problems fs before after) (sym (split_list found place answer also at_answer))
      (subst (λ (ps : List Problem). HoldsFrom dir 0 ps (take place found ++ answer ∷ drop (place + 1) found) before after)
      (sym (split_list problems place problem within at_problem))
      (held_behind dir problem answer (drop (place + 1) problems) (drop (place + 1) found) place after 0 (take place problems)
      (take place found) before fronts number
      (subst (λ (m : Option Files). HoldsWhole (lock_at dir place) (cert_at dir place) problem answer m after) so_far put))))

  -- the next put stopped
  pub put_stopped : (dir : List ℕ) (before between after : Option Files) (stop : WriteStop)
      → between ≡ files_from dir 0 (take place problems) (take place found) before
      → PutsAnswer (lock_at dir place) (cert_at dir place) problem answer between after (Err stop)
      → PutsEach dir problems found before after (Err stop)
  put_stopped dir before between after (Put path) so_far half =
      subst (λ (fs : List Answer). IsHalfFrom dir 0 problems fs path before after) (sym (split_list found place answer also at_answer))
      (subst (λ (ps : List Problem). IsHalfFrom dir 0 ps (take place found ++ answer ∷ drop (place + 1) found) path before after)
      (sym (split_list problems place problem within at_problem))
      (half_behind dir problem answer (drop (place + 1) problems) (drop (place + 1) found) place after 0 (take place problems)
      (take place found) path before fronts number
      (subst (λ (m : Option Files). IsHalfPut (lock_at dir place) (cert_at dir place) problem answer path m after) so_far half)))
  put_stopped dir before between after Output so_far left = absurd left
  put_stopped dir before between after NoMemory so_far left = tt

  -- one root more was written
  pub lines_next : (whole : Problem) (said more : List ℕ) → said ≡ lines_from whole 0 (take place problems) (take place found)
      → more ≡ said ++ (root_line whole place ++ brief_line problem answer)
      → more ≡ lines_from whole 0 (take (place + 1) problems) (take (place + 1) found)
  lines_next whole said more so_far written =
      written ∙ ap (λ (text : List ℕ). text ++ (root_line whole place ++ brief_line problem answer)) so_far
      ∙ sym (lines_more whole 0 place (take place problems) (take place found) problem answer fronts number)
      ∙ ap (λ (ps : List Problem). lines_from whole 0 ps (take place found ++ answer ∷ []))
      (sym (take_to problems place problem within at_problem))
      ∙ ap (λ (fs : List Answer). lines_from whole 0 (take (place + 1) problems) fs) (sym (take_to found place answer also at_answer))

-- all were put
pub files_all : (dir : List ℕ) (place : ℕ) (problems : List Problem) (found : List Answer) (before after : Option Files)
    → place ≡ length problems → length found ≡ length problems
    → after ≡ files_from dir 0 (take place problems) (take place found) before → after ≡ files_from dir 0 problems found before
files_all dir place problems found before after end same so_far =
    so_far ∙ ap (λ (ps : List Problem). files_from dir 0 ps (take place found) before) (take_all place problems (omega (arith, end)))
    ∙ ap (λ (fs : List Answer). files_from dir 0 problems fs before) (take_all place found (omega (arith, end, same)))
