pub mod Occupied
pub mod Faults
pub mod Generated
