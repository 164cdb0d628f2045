-- The definitions of images: versions, layout, faults, and how images are made and restored.
pub mod Versions
pub mod Reading
pub mod Layout
pub mod Faults
pub mod Draft
pub mod Saving
pub mod Restoring
