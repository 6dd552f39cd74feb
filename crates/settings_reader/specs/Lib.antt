-- What public contracts say.
pub mod Files
pub mod Settings
pub mod Order
pub mod Keys
pub mod Lists
pub mod Packages
pub mod Externals
pub mod Required
pub mod Versions
pub mod Values
-- How steps of reading are put together.
pub mod Told
pub mod Parsed
