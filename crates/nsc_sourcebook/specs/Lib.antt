-- The definitions of source books: reads of files, faults of polls, and books.
pub mod Faults
pub mod Reads
pub mod Book
