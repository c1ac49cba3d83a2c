pub mod Words
pub mod Rows
pub mod Walking
pub mod Visits
pub mod Stages
pub mod Fitting
