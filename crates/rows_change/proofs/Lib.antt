pub mod ChangeAsCall
pub mod ChangesAtOne
