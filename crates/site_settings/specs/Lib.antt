-- What public contracts say.
pub mod Standard
