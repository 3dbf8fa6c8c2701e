pub mod WalkLemmas
pub mod SetLemmas
pub mod RoomLemmas
