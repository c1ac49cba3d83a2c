pub mod Within
pub mod Tops
pub mod Found
pub mod Strs
pub mod StrStores
