pub mod ClassRows
pub mod Placed
pub mod MadeClass
pub mod Examples
pub mod ShortMethods
