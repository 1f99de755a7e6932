pub mod SettledOnce
