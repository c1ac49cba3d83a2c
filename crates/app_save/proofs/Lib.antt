mod Bytes
pub mod Moments
mod Ranges
mod Newest
mod Torn
mod Stages
mod Whole
mod SlotWritten
mod Closing
mod PageSteps
mod Made
mod MadeBytes
mod MadeSyncs
mod Entries
mod Found
mod Opened
