-- what public contracts say
pub mod Paths
pub mod Terms
pub mod Says
pub mod SaysEdges
pub mod SaysVariants
pub mod Governing
pub mod Asking
pub mod Named
pub mod OfWordFormulas
