-- The rules of a node to build, and of providers and paths.
use Rattle.std.specs.Prelude.{◌&&◌, [], ◌∷◌, None, is_some}
use Rattle.std.specs.List.{list_any}
use Rattle.std.specs.Str.{bytes_eq}
use Rattle.clause_formulas.specs.Rules.{Proposition, fact, isnt, any_rule}
use Rattle.graph_core.specs.Graphs.{Text}
use Rattle.condition_rules.specs.Words.{is_one_text, is_some_and}
use Rattle.problem.specs.Problems.{Problem, world_of, recipe_at, versions_at, package_entry_of, is_buildable_in, same_compiler}
use Rattle.site_settings.specs.declared.settings.CompilerEntry.{CompilerEntry}
use Rattle.graph_formulas.specs.Facts.{GraphWord, node_has, has_version, has_compiler, has_os, has_target, has_path}
use Rattle.graph_formulas.specs.Lists.{◌and◌, settled_test, where_written, one_keeps, some}
use Rattle.graph_formulas.specs.Parts.{provides_rule}

module _ (problem : Problem) where
  abbrev pub buildable_rule : Text → Proposition GraphWord
  buildable_rule name = settled_test (is_some (recipe_at problem name) && is_buildable_in (package_entry_of problem name))

  -- a declared version
  abbrev pub version_rule : Text → Proposition GraphWord
  version_rule name =
      fact (node_has name (has_version (λ version. list_any (λ row. bytes_eq row.version version) (versions_at problem name))))

  -- the entry's compiler, on an OS and for a target that it supports
  abbrev pub entry_rule : Text → CompilerEntry → Proposition GraphWord
  entry_rule name entry =
      fact (node_has name (has_compiler (λ c. is_some_and c (same_compiler entry.compiler))))
      and (where_written entry.os (λ names. fact (node_has name (has_os (is_one_text names)))) and where_written entry.targets
      (λ names. fact (node_has name (has_target (is_one_text names)))))

  abbrev pub compiler_rule : Text → Proposition GraphWord
  compiler_rule name = some (entry_rule name) problem.settings.compilers

  abbrev pub machine_rule : Text → Proposition GraphWord
  machine_rule name =
      fact (node_has name (has_os (is_one_text problem.settings.os)))
      and fact (node_has name (has_target (λ target. list_any (λ entry. bytes_eq entry.name target) problem.settings.targets)))

  -- of a virtual and its provider
  abbrev pub provider_rule : Text × Text → Proposition GraphWord
  provider_rule p = provides_rule (world_of problem) p.1 p.0 None

  abbrev pub no_cycle_rule : Text → Proposition GraphWord
  no_cycle_rule name = isnt (fact (has_path name name))

  abbrev pub reachable_rule : Text → Proposition GraphWord
  reachable_rule name =
      some (λ spec. one_keeps spec.top.name (λ root. any_rule (settled_test (bytes_eq root name) ∷ fact (has_path root name) ∷ [])))
      problem.roots
