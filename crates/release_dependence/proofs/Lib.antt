pub mod TurnLemmas
pub mod DependLemmas
pub mod ExchangeLemmas
