pub mod Table21Laws
pub mod ExactLaws
pub mod ListingLaws
pub mod WorkedExamples
