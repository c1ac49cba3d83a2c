pub mod Lineages
pub mod VirtualNames
pub mod SystemMethods
pub mod Nearest
