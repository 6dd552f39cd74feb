use Rattle.std.proofs.lemmas.Bool.{and_from}
use Rattle.std.specs.Str.{bytes_eq}
use Rattle.graph_rules.proofs.Lists.{bytes_eq-itself}
use Rattle.site_settings.specs.declared.settings.CompilerEntry.{CompilerEntry}
use Rattle.target_table.specs.declared.entry.TargetEntry.{TargetEntry}
use Rattle.problem.specs.Problems.{same_compiler}
use Rattle.cost_laws.proofs.Listed.{earlier}
use Rattle.cost_laws.proofs.theorems.place_laws.Goals as goal

pub returns : goal.returns
returns c = record {
  providers = λ problem virtual a b front rest list none other.
      rw list (earlier (bytes_eq a) (bytes_eq b) front rest a (bytes_eq-itself a) none other);
  os = λ problem a b front rest list none other.
      rw list (earlier (bytes_eq a) (bytes_eq b) front rest a (bytes_eq-itself a) none other);
  targets = λ problem a b front rest list none other.
      rw list (earlier (λ (entry : TargetEntry). bytes_eq a.name entry.name) (λ (entry : TargetEntry). bytes_eq b entry.name) front rest a
      (bytes_eq-itself a.name) none other);
  compilers = λ problem a b front rest list none other.
      rw list (earlier (λ (entry : CompilerEntry). same_compiler entry.compiler a.compiler)
      (λ (entry : CompilerEntry). same_compiler entry.compiler b) front rest a
      (and_from (bytes_eq a.compiler.name a.compiler.name) (bytes_eq a.compiler.version a.compiler.version)
      (bytes_eq-itself a.compiler.name) (bytes_eq-itself a.compiler.version)) none other);
}
