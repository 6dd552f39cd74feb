-- A block and the lines behind it.
use Rattle.std.proofs.Common.{◌≡◌, ℕ, List, ◌++◌, take, drop, sym, ap, ◌∙◌}
use Rattle.std.proofs.lemmas.List.{take-append-drop}
use Rattle.proof_log.specs.declared.line.Line.{Line}
use Rattle.log_checker.specs.Steps.{Progress, run_lines}
use Rattle.log_checker.proofs.Accepted.{run-append}

pub fed : (p q r : Progress) (lines front back : List Line) (k : ℕ) → q ≡ run_lines p front → front ≡ take k lines → back ≡ drop k lines
    → run_lines p lines ≡ r → run_lines q back ≡ r
fed p q r lines front back k e f g h =
    ap (λ p. run_lines p back) e ∙ sym (run-append p front back)
    ∙ ap (run_lines p) (ap (λ xs. xs ++ back) f ∙ ap (λ ys. take k lines ++ ys) g ∙ take-append-drop k lines) ∙ h
