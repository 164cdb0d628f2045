-- The definitions of nodes in a table's words: words written, nodes changed and read back.
pub mod Written
pub mod Changes
pub mod ReadBack
