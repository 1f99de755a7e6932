pub mod FoundAnswered
