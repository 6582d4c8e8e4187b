-- What holds of the fields of every `SoloStore`.
use Rattle.std.specs.Prelude.{ℕ, ◌*◌, ◌<◌, ◌≤◌, List, length}
use Rattle.std.specs.Int.{IsNextPowerOfTwo}
use Rattle.record_store.specs.Buckets.{IsIndex}
use Rattle.record_store.specs.declared.solo.TheConstants.{MAX_CELLS}

pub record IsSound (buckets : List ℕ) (bodies : List (List ℕ)) (cells capacity : ℕ) : Type 0 where
  pub index : IsIndex buckets bodies
  pub within : length bodies ≤ cells
  pub some_cells : 0 < cells
  pub cells_within : cells ≤ MAX_CELLS
  -- the least power of two that is at least twice the cells
  pub bucket_count : IsNextPowerOfTwo (2 * cells) (length buckets)
  pub capacious : cells ≤ capacity
