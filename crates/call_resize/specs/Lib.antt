pub mod fit
