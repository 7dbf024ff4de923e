pub mod HashSeed
pub mod SeededHasher
