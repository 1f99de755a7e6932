pub mod change
pub mod keep
pub mod payload
pub mod renewal
pub mod turn
