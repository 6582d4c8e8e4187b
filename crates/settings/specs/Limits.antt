-- Settings and their limits.
use Rattle.std.specs.Prelude.{◌≡◌, ℕ, ◌==◌, ◌*◌, ◌%◌, ◌≤◌, Bool, true, false, ◌&&◌, nat_le, unwrap_or, Option, Some, None, if◌then◌else◌, refl}
use Rattle.checks.specs.declared.method.Method.TheVariants.{Forward}
use Rattle.word_base.specs.declared.kind_name.KindName.TheVariants.{StarBmd}
use Rattle.settings.specs.declared.command.Settings.{Settings}
use Rattle.settings.specs.declared.given.Given.{Given}
use Rattle.settings.specs.declared.limits.TheConstants.{USUAL_WORKERS, MOST_WORKERS, USUAL_CELLS, MOST_CELLS, CELLS_OF_WORKER}

-- 1 to 16 workers, and a multiple of 256 cells, at least 256 for each worker
abbrev pub is_within : ℕ → ℕ → Bool
is_within workers cells =
    nat_le 1 workers && nat_le workers MOST_WORKERS && (cells % CELLS_OF_WORKER == 0)
    && nat_le (CELLS_OF_WORKER * workers) cells && nat_le cells MOST_CELLS

-- the same as facts
pub record AreWithin (s : Settings) : Type 0 where
  pub some_worker : 1 ≤ s.workers
  pub few_workers : s.workers ≤ MOST_WORKERS
  pub whole : s.cells % CELLS_OF_WORKER ≡ 0
  pub enough_cells : CELLS_OF_WORKER * s.workers ≤ s.cells
  pub few_cells : s.cells ≤ MOST_CELLS

-- the usual value stands for what is not given
abbrev pub with_usual : Given → Settings
with_usual given = record {
  kind = unwrap_or given.kind StarBmd;
  method = unwrap_or given.method Forward;
  workers = unwrap_or given.workers USUAL_WORKERS;
  cells = unwrap_or given.cells USUAL_CELLS;
}

-- the settings, where they are within the limits
abbrev pub settings_of : Given → Option Settings
settings_of given = let s = with_usual given in if is_within s.workers s.cells then Some s else None

least_cells : (is_within 1 255 ≡ false) × (is_within 1 256 ≡ true) × (is_within 1 257 ≡ false)
least_cells = (refl, refl, refl)

most_cells : (is_within 1 1048576 ≡ true) × (is_within 1 1048832 ≡ false)
most_cells = (refl, refl)

cells_of_workers : (is_within 16 4096 ≡ true) × (is_within 16 3840 ≡ false)
cells_of_workers = (refl, refl)

numbers_of_workers : (is_within 0 256 ≡ false) × (is_within 16 262144 ≡ true) × (is_within 17 262144 ≡ false)
numbers_of_workers = (refl, refl, refl)
