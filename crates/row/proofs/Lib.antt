pub mod Filling
pub mod Codes
pub mod Places
pub mod Vouched
pub mod BytesRow
pub mod Lent
pub mod Unique
