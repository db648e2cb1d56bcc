pub mod SectionLaws
pub mod PlaceLaws
pub mod NamedValues
pub mod Second
pub mod TextLaws
pub mod PartLaws
