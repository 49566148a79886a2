pub mod Peaks
pub mod Views
pub mod Laws
pub mod Tops
pub mod Lists
pub mod Trying
