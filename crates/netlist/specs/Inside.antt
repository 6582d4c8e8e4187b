-- How the code keeps what the other files of specs/ define, and what its searches keep on the way. Only private
-- functions and proofs speak of these definitions: nothing that a caller reads depends on them.
pub mod Kept
pub mod Leads
pub mod LookUp
pub mod Maker
pub mod Netlist
pub mod Postorder
pub mod Source
pub mod Waiting
