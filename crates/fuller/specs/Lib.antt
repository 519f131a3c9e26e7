-- Two registers compared (document 02, M-113).
pub mod Fuller
pub mod Claims
pub mod WholeText
