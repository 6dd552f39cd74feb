-- Tests tell whether two are one.
use Rattle.std.proofs.Common.{◌≡◌, refl, ap, Bool, Some, None}
use Rattle.std.specs.Option.{option_eq}
use Rattle.std.specs.Str.{bytes_eq}
use Rattle.std.specs.Cmp.Lexicographic.{bytes_decides}
use Rattle.std.proofs.lemmas.Bool.{and_parts, and_from, eqb-true, eq-eqb}
use Rattle.reachability.specs.Laws.{IsExact}
use Rattle.graph_core.specs.declared.node.Compiler.{Compiler}
use Rattle.graph_core.specs.declared.node.Origin.TheVariants.{Built, External, Installed}
use Rattle.problem.specs.Problems.{same_compiler}
use Rattle.graph_rules.proofs.Lists.{bytes_eq-same}
use Rattle.problem.specs.Nodes.{same_origin}

-- the same origin is an equal one
pub origins_exact : IsExact same_origin
origins_exact Built Built = (λ e. refl, λ e. refl)
origins_exact Built (External k) = (λ e. absurd cc, λ e. absurd cc)
origins_exact Built (Installed h) = (λ e. absurd cc, λ e. absurd cc)
origins_exact (External j) Built = (λ e. absurd cc, λ e. absurd cc)
origins_exact (External j) (External k) = (λ e. ap External (eqb-true j k e), λ e. eq-eqb j k (place e))
  where
    place : External j ≡ External k → j ≡ k
    place e = cc
origins_exact (External j) (Installed h) = (λ e. absurd cc, λ e. absurd cc)
origins_exact (Installed g) Built = (λ e. absurd cc, λ e. absurd cc)
origins_exact (Installed g) (External k) = (λ e. absurd cc, λ e. absurd cc)
origins_exact (Installed g) (Installed h) = (λ e. ap Installed ((bytes_decides g h).0 e), λ e. (bytes_decides g h).1 (hash e))
  where
    hash : Installed g ≡ Installed h → g ≡ h
    hash e = cc

-- so with what may be absent
pub options_exact : {X : Type 0} (same : X → X → Bool) → IsExact same → IsExact (option_eq same)
options_exact same exact None None = (λ e. refl, λ e. refl)
options_exact same exact None (Some y) = (λ e. absurd cc, λ e. absurd cc)
options_exact same exact (Some x) None = (λ e. absurd cc, λ e. absurd cc)
options_exact same exact (Some x) (Some y) = (λ e. ap Some ((exact x y).0 e), λ e. (exact x y).1 (inner e))
  where
    inner : Some x ≡ Some y → x ≡ y
    inner e = cc

-- the same compiler is an equal one
pub compilers_exact : IsExact same_compiler
compilers_exact a b = (
  λ h.
      let parts = and_parts (bytes_eq a.name b.name) (bytes_eq a.version b.version) h in
      let name = bytes_eq-same a.name b.name parts.0 in
      let version = bytes_eq-same a.version b.version parts.1 in
      λ i. record { name = name i; version = version i },
  λ e. and_from (bytes_eq a.name b.name) (bytes_eq a.version b.version)
      ((bytes_decides a.name b.name).1 (ap (λ (c : Compiler). c.name) e))
      ((bytes_decides a.version b.version).1 (ap (λ (c : Compiler). c.version) e)),
)
