pub mod Numbers
pub mod Unlimited
