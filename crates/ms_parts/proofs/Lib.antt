pub mod NamedValues
pub mod RowLaws
pub mod MakerLaws
pub mod CallLaws
pub mod PartLaws
