pub mod ColumnLemmas
pub mod NameLemmas
pub mod ChartLemmas
