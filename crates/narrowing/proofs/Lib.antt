pub mod NarrowFacts
