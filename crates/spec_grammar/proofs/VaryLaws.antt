-- Texts that begin alike.
use Rattle.std.proofs.Common.{◌≡◌, ℕ, suc, ◌<◌, ◌≤◌, ◌+◌, List, [], ◌∷◌, ◌++◌, length, take, drop, get_or, refl, sym, ap, subst, ◌∙◌, arith, inl, inr, append_assoc, zero-add, append-nil, take-append-drop, take-take, take_all, take_at, length-append, length-take, length-drop}
use Rattle.spec_grammar.proofs.Common.{cases_lt, take-append-le, get_or_append_left, get_or-take, nil_from_length, Begins, IsLongestFront, Varies, varied}

take-append-add : (a l : List ℕ) (n : ℕ) → take (length a + n) (a ++ l) ≡ a ++ take n l
take-append-add [] l n = ap (λ (k : ℕ). take k l) (zero-add n)
take-append-add (b ∷ a) l n = let one : length (b ∷ a) + n ≡ suc (length a + n) = omega arith in
    rw one (ap (λ (k : List ℕ). b ∷ k) (take-append-add a l n))

-- a place at the end
pub varied_end : (text : List ℕ) (q : ℕ) (more : List ℕ) → Varies text q more → length text ≤ q → varied text q more ≡ text
varied_end text q more v le = ap (λ (l : List ℕ). take (q + 1) text ++ l) (v le) ∙ append-nil (take (q + 1) text)
    ∙ take_all (q + 1) text (omega arith)

-- the text itself
pub varied_own : (text : List ℕ) (q : ℕ) → (more : List ℕ) × Varies text q more × (varied text q more ≡ text)
varied_own text q =
    (drop (q + 1) text, λ le. nil_from_length (drop (q + 1) text) (omega (arith, length-drop (q + 1) text)), take-append-drop (q + 1) text)

pub varied_front : (text : List ℕ) (q : ℕ) (more : List ℕ) → q ≤ length text → take q (varied text q more) ≡ take q text
varied_front text q more le = take-append-le q (take (q + 1) text) more (omega (arith, length-take (q + 1) text))
    ∙ take-take q (q + 1) text (omega arith)

pub varied_front_more : (text : List ℕ) (q : ℕ) (more : List ℕ) → q < length text → take (q + 1) (varied text q more) ≡ take (q + 1) text
varied_front_more text q more lt = take_at (take (q + 1) text) more (q + 1) (length-take (q + 1) text ∙ omega arith)

pub varied_get : (text : List ℕ) (q : ℕ) (more : List ℕ) → q < length text → get_or (varied text q more) q 0 ≡ get_or text q 0
varied_get text q more lt = get_or_append_left (take (q + 1) text) more 0 q (omega (arith, length-take (q + 1) text))
    ∙ get_or-take (q + 1) text q 0 (omega arith)

pub varied_length : (text : List ℕ) (q : ℕ) (more : List ℕ) → q ≤ length text → q ≤ length (varied text q more)
varied_length text q more le = omega (arith, length-append (take (q + 1) text) more, length-take (q + 1) text)

pub varied_cons : (b : ℕ) (text : List ℕ) (q : ℕ) (more : List ℕ) → varied (b ∷ text) (1 + q) more ≡ b ∷ varied text q more
varied_cons b text q more = let one : 1 + q + 1 ≡ suc (q + 1) = omega arith in rw one refl

pub varies_cons : (b : ℕ) (text : List ℕ) (q : ℕ) (more : List ℕ) → Varies (b ∷ text) (1 + q) more → Varies text q more
varies_cons b text q more v le = v (omega arith)

-- behind a front
pub front_behind : (text : List ℕ) (n b : ℕ) (list : List ℕ) (q : ℕ) → n ≤ length text → drop n text ≡ b ∷ list
    → take (n + 1 + q) text ≡ take n text ++ b ∷ take q list
front_behind text n b list q le e =
    let cut : text ≡ take n text ++ b ∷ list = sym (take-append-drop n text) ∙ ap (λ (l : List ℕ). take n text ++ l) e in
    let bytes : n + 1 + q ≡ length (take n text) + suc q = omega (arith, length-take n text) in
    ap (λ (k : ℕ). take k text) bytes ∙ ap (take (length (take n text) + suc q)) cut ∙ take-append-add (take n text) (b ∷ list) (suc q)

pub take_behind : (text : List ℕ) (n b : ℕ) (list : List ℕ) (q : ℕ) (tail : List ℕ) → n ≤ length text → drop n text ≡ b ∷ list
    → take (n + 1 + q) text ++ tail ≡ take n text ++ b ∷ (take q list ++ tail)
take_behind text n b list q tail le e = ap (λ (l : List ℕ). l ++ tail) (front_behind text n b list q le e)
    ∙ append_assoc (take n text) (b ∷ take q list) tail

pub varied_behind : (text : List ℕ) (n b : ℕ) (list : List ℕ) (q : ℕ) (more : List ℕ) → n ≤ length text → drop n text ≡ b ∷ list
    → varied text (n + 1 + q) more ≡ take n text ++ b ∷ varied list q more
varied_behind text n b list q more le e =
    let place : n + 1 + q + 1 ≡ n + 1 + (q + 1) = omega arith in
    ap (λ (k : ℕ). take k text ++ more) place ∙ take_behind text n b list (q + 1) more le e

pub varies_behind : (text : List ℕ) (n b : ℕ) (list : List ℕ) (q : ℕ) (more : List ℕ) → drop n text ≡ b ∷ list
    → Varies text (n + 1 + q) more → Varies list q more
varies_behind text n b list q more e v le = v (omega (arith, ap length e, length-drop n text))

pub varied_longest : (Right : List ℕ → Type 0) (text : List ℕ) (q : ℕ) (more : List ℕ) → IsLongestFront Right text q → Varies text q more
    → IsLongestFront Right (varied text q more) q
varied_longest Right text q more front v = elim (cases_lt q (length text)) [
  | inr le ↦ subst (λ (l : List ℕ). IsLongestFront Right l q) (sym (varied_end text q more v le)) front
  | inl lt ↦ record {
    within = varied_length text q more front.within;
    begins = subst (Begins Right) (sym (varied_front text q more front.within)) front.begins;
    longest = λ k le b. elim (cases_lt q k) [
      | inr less ↦ less
      | inl gt ↦
          let t : List ℕ = varied text q more in
          let first : take (q + 1) (take k t) ≡ take (q + 1) text = take-take (q + 1) k t (omega arith)
          ∙ varied_front_more text q more lt in
          let cut : take k t ≡ take (q + 1) text ++ drop (q + 1) (take k t) = sym (take-append-drop (q + 1) (take k t))
          ∙ ap (λ (l : List ℕ). l ++ drop (q + 1) (take k t)) first in
          absurd (omega (
            arith,
            front.longest (q + 1) (omega arith) (
              drop (q + 1) (take k t) ++ b.0,
              subst Right (ap (λ (l : List ℕ). l ++ b.0) cut
                  ∙ append_assoc (take (q + 1) text) (drop (q + 1) (take k t)) b.0) b.1,
            ),
          ))
    ];
  }
]
