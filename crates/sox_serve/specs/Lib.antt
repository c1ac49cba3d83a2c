pub mod Answer
pub mod Replies
pub mod Table
pub mod Serves
pub mod Marks
