-- What the functions of duplicates promise one another and tidiness: tables of hashes, and siblings as numbered members. A reader believes
-- `same_variable` and `duplicate` of crate `formula` alone.
pub mod Hashes
pub mod Members
