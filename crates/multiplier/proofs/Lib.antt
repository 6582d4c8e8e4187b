mod Ranges
mod GateCounts
