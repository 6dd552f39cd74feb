-- What is passed on of `site_settings`, so that the crates above need not name it.
pub use Rattle.site_settings.specs.declared.settings.CompilerEntry
pub use Rattle.site_settings.specs.declared.settings.ExternalEntry
pub use Rattle.site_settings.specs.declared.settings.PackageEntry
pub use Rattle.site_settings.specs.declared.settings.RequireEntry
