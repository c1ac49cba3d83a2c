pub mod Sequence
mod Dotted
mod Entries
mod Missing
mod Paths
mod Steps
