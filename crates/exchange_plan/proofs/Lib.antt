pub mod RisingLemmas
pub mod PlanningLemmas
pub mod LookupLemmas
pub mod JsonLemmas
