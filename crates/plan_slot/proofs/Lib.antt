pub mod renewal
