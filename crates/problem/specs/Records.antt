-- What records name.
use Rattle.std.specs.Prelude.{◌||◌, List, filter}
use Rattle.reuse_db.specs.declared.record.Dependency.{Dependency}
use Rattle.reuse_db.specs.declared.record.Record.{Record}

-- the link and run children of a record, each with its kinds and virtuals
abbrev pub kept_dependencies : Record → List Dependency
kept_dependencies entry = filter (λ d. d.kinds.link || d.kinds.run) entry.dependencies
