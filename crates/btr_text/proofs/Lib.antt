pub mod WordLemmas
pub mod FormLemmas
pub mod LaneLemmas
pub mod TextLemmas
