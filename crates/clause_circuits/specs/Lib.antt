-- what public contracts say
pub mod Growth
pub mod Gates
pub mod Shapes
pub mod Steps
-- what is inside
pub mod Views
pub mod Cells
pub mod Trees
pub mod Binary
pub mod Built
