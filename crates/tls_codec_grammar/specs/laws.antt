-- Why each format meets the laws. Proofs cite what is here; contracts cite only that a format meets them.
pub mod AloneLaws
pub mod RowLaws
pub mod NumberLaws
pub mod OptionLaws
pub mod FieldsLaws
pub mod VarintLaws
pub mod ListLaws
pub mod FormatLaws
pub mod TaggedLaws
pub mod ThenLaws
pub mod ContextLaws
pub mod InsideLaws
