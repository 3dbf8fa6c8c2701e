pub mod Planning
pub mod PlanText
