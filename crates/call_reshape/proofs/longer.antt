pub mod RootKept
