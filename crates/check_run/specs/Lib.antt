-- What `run` promises stands in `Run`. It is read after `Outside`, `Sources`, `Words`, `Files`, `Reading`, `Verdicts` and `Statuses`.
-- `Loading` and `Deciding` serve private functions alone.
pub mod Outside
pub mod Sources
pub mod Words
pub mod Files
pub mod Reading
pub mod Verdicts
pub mod Statuses
pub mod Run
pub mod Loading
pub mod Deciding
