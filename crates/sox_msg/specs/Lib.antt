pub mod Answered
pub mod Command
pub mod Forms
pub mod Refused
pub mod Reply
pub mod View
