-- The definitions of the writer: insertions, compactions, growth, older tables and counts.
pub mod Loaded
pub mod Writer
pub mod Slide
pub mod Former
pub mod Enlarged
pub mod Raised
