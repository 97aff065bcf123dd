pub mod FirstKeys
pub mod FlowHash
pub mod FlowWords
pub mod Keyed
pub mod SameKey
pub mod Within
pub mod Worked
