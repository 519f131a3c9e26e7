-- The C interface: what the exported functions answer.
pub mod Answer
pub mod PathAnswer
pub mod PlanAnswer
pub mod RunAnswer
pub mod InspectAnswer
