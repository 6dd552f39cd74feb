-- What may be said of a certificate, whatever it holds.
use Rattle.std.specs.Prelude.{◌≡◌, ℕ, List, Option, Result, Ok, Err}
use Rattle.outside_desk.specs.Files.{Files}
use Rattle.problem.specs.Problems.{Problem}
use Rattle.run_answers.specs.declared.refusal.Refusal.{Refusal}
use Rattle.run_answers.specs.declared.refusal.Refusal.TheVariants as refusals

-- a refusal of the certificate at the path
abbrev pub IsOfCertificate : List ℕ → Refusal → Type 0
IsOfCertificate path (refusals.MissingInput other) = other ≡ path
IsOfCertificate path (refusals.BadCertificate line fault) = Unit {0}
IsOfCertificate path refusals.CertificateTooLarge = Unit {0}
IsOfCertificate path other = ⊥

-- that it is right, or a refusal of it
abbrev pub MayBeSaid : List ℕ → Result (Unit {0}) Refusal → Type 0
MayBeSaid path (Ok done) = Unit {0}
MayBeSaid path (Err refusal) = IsOfCertificate path refusal

-- ---- what is said of a certificate, as far as it is told

-- what may be said of the file at a path, as the certificate of a graph with these costs, or of
-- none
abbrev pub CertificateVerdicts : Type 1
CertificateVerdicts = Files → List ℕ → Problem → Option (List ℕ) → Result (Unit {0}) Refusal → Type 0

-- that it is right, or a refusal of it: when which of these is due, `log_verdict` tells
abbrev pub any_verdict : CertificateVerdicts
any_verdict files path problem numbers said = MayBeSaid path said

-- nothing: so no task follows of words that ask for a certificate, and no refusal of one
abbrev pub no_verdict : CertificateVerdicts
no_verdict files path problem numbers said = ⊥
