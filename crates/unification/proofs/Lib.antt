pub mod Numbers
pub mod Laws
pub mod Arrays
pub mod Theorems
pub mod Examples
pub mod Beside
