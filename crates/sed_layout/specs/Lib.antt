pub mod Offsets
pub mod MethodTables
pub mod TableSteps
