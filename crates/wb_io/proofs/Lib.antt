pub mod CallLemmas
pub mod Walks
