-- A plan's lines as the arrays of the C interface.
pub mod PlanArrays
