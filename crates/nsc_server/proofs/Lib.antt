pub mod Reading
pub mod Histories
pub mod Texts
pub mod Complete
pub mod InPlace
