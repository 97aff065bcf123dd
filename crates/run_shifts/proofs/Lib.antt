pub mod Works
pub mod Leading
pub mod Sends
