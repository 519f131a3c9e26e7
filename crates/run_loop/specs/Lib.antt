-- The column of a loop's field as a pass began.
pub mod Column
