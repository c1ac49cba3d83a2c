pub mod Printed
pub mod Puts
pub mod Collected
pub mod Application
pub mod Datagram
pub mod Summary
