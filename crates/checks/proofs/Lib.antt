pub mod Examples
pub mod FirstDifference
pub mod FormulaTables
pub mod GateTables
pub mod InputTables
mod Replaced
pub mod Tabulated
pub mod Vectors
pub mod WordTables
