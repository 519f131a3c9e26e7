-- What the check and the plan of a step answer.
pub mod Checked
pub mod StepPlan
pub mod Least
