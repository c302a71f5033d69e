pub mod LevelLemmas
pub mod MemberLemmas
pub mod QuietLemmas
pub mod OwnLemmas
pub mod CurrentLemmas
pub mod AlikeLemmas
pub mod InOrderLemmas
pub mod RefreshLemmas
mod DoneLemmas
