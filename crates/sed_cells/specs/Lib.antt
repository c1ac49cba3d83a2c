pub mod Cells
pub mod Layouts
pub mod Places
pub mod Nearest
