pub mod GeneratorLaws
pub mod TextLaws
pub mod PartLaws
pub mod ReadLaws
pub mod AskedLaws
pub mod WholeRush
