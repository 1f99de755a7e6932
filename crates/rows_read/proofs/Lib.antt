pub mod ReadsAtOne
