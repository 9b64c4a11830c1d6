pub mod Error
pub mod Pivot
pub mod Factor
pub mod Solve
pub mod Pivots
pub mod Owed
pub mod NanPivot
