pub mod Forms
pub mod Site
pub mod Flows
pub mod Heights
