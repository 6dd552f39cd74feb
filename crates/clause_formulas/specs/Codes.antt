-- A formula as a list that gives it back, by which proofs tell formulas apart.
use Prim.Native.Nat.{zero, suc}
use Rattle.std.specs.Prelude.{◌≡◌, ℕ, Bool, List, [], ◌∷◌, ◌++◌, ◌⊎◌, refl}
use Rattle.std.proofs.Common.{inl, inr, ap, sym, ◌∙◌, append_assoc}
use Rattle.std.proofs.lemmas.List.{append-nil}
use Rattle.std.specs.Coded.{Coded, code_by, coded×, coded⊎, coded_list, coded_ℕ, coded_bool}
use Rattle.clause_store.specs.Lits.{var_of}
use Rattle.clause_formulas.specs.Statements.{Statement, atom, never, or, no}

-- a literal, or the number of a connective
abbrev pub Sign : Type 0
Sign = (ℕ × Bool) ⊎ ℕ

-- the signs of a formula, each after those of its parts
abbrev pub signs : Statement → List Sign
signs (atom l) = inl (var_of l, l.positive) ∷ []
signs never = inr 0 ∷ []
signs (or f g) = signs f ++ (signs g ++ inr 1 ∷ [])
signs (no f) = signs f ++ inr 2 ∷ []

abbrev pub join : List Statement → List Statement
join [] = []
join (g ∷ []) = g ∷ []
join (g ∷ f ∷ fs) = or f g ∷ fs

abbrev pub flip : List Statement → List Statement
flip [] = []
flip (f ∷ fs) = no f ∷ fs

abbrev pub read : List Sign → List Statement → List Statement
read [] fs = fs
read (inl p ∷ ss) fs = read ss (atom (record { var = record { 0 = p.0 }; positive = p.1 }) ∷ fs)
read (inr zero ∷ ss) fs = read ss (never ∷ fs)
read (inr (suc zero) ∷ ss) fs = read ss (join fs)
read (inr (suc (suc n)) ∷ ss) fs = read ss (flip fs)

abbrev pub first : List Statement → Statement
first [] = never
first (f ∷ fs) = f

read-signs : (f : Statement) (ss : List Sign) (fs : List Statement) → read (signs f ++ ss) fs ≡ read ss (f ∷ fs)
read-signs (atom l) ss fs = refl
read-signs never ss fs = refl
read-signs (or f g) ss fs =
    ap (λ ts. read ts fs) (append_assoc (signs f) (signs g ++ inr 1 ∷ []) ss) ∙ read-signs f _ fs
    ∙ ap (λ ts. read ts (f ∷ fs)) (append_assoc (signs g) (inr 1 ∷ []) ss) ∙ read-signs g _ (f ∷ fs)
read-signs (no f) ss fs = ap (λ ts. read ts fs) (append_assoc (signs f) (inr 2 ∷ []) ss) ∙ read-signs f _ fs

pub same-back : (f : Statement) → first (read (signs f) []) ≡ f
same-back f = ap (λ ts. first (read ts [])) (sym (append-nil (signs f))) ∙ ap first (read-signs f [] [])

abbrev pub statement_code : Coded Statement
statement_code = code_by (List Sign) (coded_list (coded⊎ (coded× coded_ℕ coded_bool) coded_ℕ)) signs (λ ss. first (read ss [])) same-back
