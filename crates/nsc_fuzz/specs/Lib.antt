-- The definitions of the bytes in which readers tell their results to C.
pub mod Told
