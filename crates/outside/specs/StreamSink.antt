-- A sink over a writer.
use Rattle.std.specs.Prelude.{ℕ}

-- the writer, and how often a put to it failed
pub record SinkOver (W : Type 0) : Type 0 where
  pub output : W
  pub faults : ℕ
