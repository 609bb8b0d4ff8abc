pub mod WordLaws
pub mod ChipLaws
pub mod ThreeOfSixLaws
pub mod SeenLaws
pub mod ExactLaws
