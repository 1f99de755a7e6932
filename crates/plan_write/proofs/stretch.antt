pub mod Stretches
pub mod StretchAnswered
