pub mod Table
pub mod RainBounds
pub mod GaugedParts
pub mod Rounding
pub mod Record
pub mod Walking
