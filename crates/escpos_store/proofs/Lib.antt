mod HoldsLemmas
mod OpenLemmas
mod RowLemmas
mod StatementLemmas
mod OrderLemmas
mod LeftLemmas
mod MeasureLemmas
mod FailingLemmas
