pub mod Slices
pub mod Kernels
