-- what contracts of public calls say
pub mod OwnWords
pub mod Ends
