pub mod Blame
pub mod Findings
pub mod Firsts
pub mod Overflows
pub mod RefusedLines
pub mod RunEnds
pub mod Sums
