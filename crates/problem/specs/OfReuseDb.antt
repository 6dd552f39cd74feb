-- What is passed on of `reuse_db`, so that the crates above need not name it.
pub use Rattle.reuse_db.specs.Installed
pub use Rattle.reuse_db.specs.declared.record.Dependency
pub use Rattle.reuse_db.specs.declared.record.Record
