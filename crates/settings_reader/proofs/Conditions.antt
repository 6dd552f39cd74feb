-- The texts of conditions, read by a loop.
use Rattle.std.proofs.Common.{◌≡◌, sym, ap, ◌∙◌, subst, ℕ, ◌+◌, ◌<◌, ◌≤◌, List, [], ◌∷◌, ◌++◌, length, drop, get_or, decimal, Ok, Err}
use Rattle.std.proofs.lemmas.List.{drop_more, drop_all}
use Rattle.spec_grammar.specs.declared.part.Spec.{Spec}
use Rattle.settings_reader.specs.Told.{Tells, Below}
use Rattle.settings_reader.specs.Required.{AreConditions, IsCondition, texts_at}
use Rattle.settings_reader.specs.declared.stop.Stop.{Stop}
use Rattle.settings_reader.proofs.Each.{Continues, each_end, each_more, each_stop}

-- what is still to be read at a place
abbrev pub rest_at : ℕ → List (List ℕ) → List (List ℕ × List ℕ)
rest_at i texts = texts_at i (drop i texts)

abbrev pub So : List (List ℕ) → ℕ → List Spec → Type 0
So texts i read = Continues (λ key text. IsCondition text) (texts_at 0 texts) (rest_at i texts) read

at_text : (texts : List (List ℕ)) (i : ℕ) (x : List ℕ) (read : List Spec) → So texts i read → i < length texts → x ≡ get_or texts i x
    → Continues (λ key text. IsCondition text) (texts_at 0 texts) ((decimal i, x) ∷ rest_at (i + 1) texts) read
at_text texts i x read was lt is =
    let P : List (List ℕ × List ℕ) → Type 0 = λ rest. Continues (λ key text. IsCondition text) (texts_at 0 texts) rest read in
    subst P (ap (texts_at i) (drop_more texts i x lt) ∙ ap (λ y. (decimal i, y) ∷ rest_at (i + 1) texts) (sym is)) was

-- one text more was read
pub text_more : (texts : List (List ℕ)) (i : ℕ) (x : List ℕ) (read new : List Spec) (y : Spec) → So texts i read → i < length texts
    → x ≡ get_or texts i x → Below (decimal i) (IsCondition x) (Ok y) → new ≡ read ++ y ∷ [] → So texts (i + 1) new
text_more texts i x read new y was lt is below more =
    each_more (λ key text. IsCondition text) (texts_at 0 texts) (decimal i) x (rest_at (i + 1) texts) read new y
    (at_text texts i x read was lt is) below more

-- a text that is refused refuses the list
pub text_stop : (texts : List (List ℕ)) (i : ℕ) (x : List ℕ) (read : List Spec) (s : Stop) → So texts i read → i < length texts
    → x ≡ get_or texts i x → Tells {T = Spec} (Err s) (Below (decimal i) (IsCondition x))
    → Tells {T = List Spec} (Err s) (AreConditions texts)
text_stop texts i x read s was lt is below =
    each_stop (λ key text. IsCondition text) (texts_at 0 texts) (decimal i) x (rest_at (i + 1) texts) read s
    (at_text texts i x read was lt is) below

-- at the end all texts were read
pub text_end : (texts : List (List ℕ)) (i : ℕ) (read : List Spec) → So texts i read → length texts ≤ i → AreConditions texts (Ok read)
text_end texts i read was le =
    let P : List (List ℕ × List ℕ) → Type 0 = λ rest. Continues (λ key text. IsCondition text) (texts_at 0 texts) rest read in
    each_end (λ key text. IsCondition text) (texts_at 0 texts) read (subst P (ap (texts_at i) (drop_all i texts le)) was)
