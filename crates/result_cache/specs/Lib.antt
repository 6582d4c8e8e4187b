pub mod Cache
pub mod CacheInside
pub mod Place
