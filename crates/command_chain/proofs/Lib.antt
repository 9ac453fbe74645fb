pub mod ReportLemmas
pub mod ChainLemmas
