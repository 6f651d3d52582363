pub mod Keys
pub mod Buckets
pub mod Partners
pub mod Numbers
pub mod Values
