pub mod TextLaws
pub mod StepLaws
pub mod WordLaws
pub mod ListLaws
pub mod ArgumentLaws
pub mod ShapeLaws
