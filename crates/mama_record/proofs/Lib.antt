pub mod Printed
pub mod Comparing
pub mod Sections
