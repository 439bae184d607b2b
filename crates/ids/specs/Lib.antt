pub mod Limits
pub mod Answers
pub mod Judge
pub mod Order
pub mod Table
pub mod Sorted
pub mod Count
pub mod Ids
