pub mod Scale
pub mod Combined
pub mod Residue
pub mod Control
pub mod Ballot
pub mod Laws
pub mod Residues
