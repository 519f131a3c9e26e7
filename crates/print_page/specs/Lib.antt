-- Numbers and cells as they are printed, and what it is to put bytes on the page.
pub mod Decimal
pub mod Put
