pub mod Lines
pub mod FaultTexts
-- the faults, for crates above
pub use Rattle.spec_grammar.specs.declared.fault.SpecFault
pub use Rattle.settings_reader.specs.declared.fault.SettingsFault
pub use Rattle.recipe_reader.specs.declared.fault.RecipeFault
pub use Rattle.lockfile.specs.declared.fault.LockFault
pub use Rattle.graph_rules.specs.declared.rule.Rule
pub use Rattle.reuse_db.specs.declared.fault.DbFault
-- and those texts that their own crates have
pub use Rattle.record_reader.specs.FaultTexts as DatabaseTexts
pub mod Texts
pub mod Exits
pub mod Refusals
pub mod Stages
pub mod Stops
pub mod Reads

-- what crates above need of the texts
