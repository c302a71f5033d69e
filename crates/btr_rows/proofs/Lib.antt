mod DigitFieldLemmas
mod BuilderLemmas
mod FieldLemmas
mod PlainLemmas
mod RecordLemmas
mod SampleLemmas
mod SmallLemmas
mod StreamLemmas
