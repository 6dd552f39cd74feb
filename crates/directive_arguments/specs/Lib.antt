-- what contracts of public calls say
pub mod Results
pub mod Table
pub mod Texts
pub mod Given
pub mod Keywords
pub mod Arguments
pub mod Variants
pub mod Said
