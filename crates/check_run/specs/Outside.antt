-- What a run sees of the outside: a shelf of files, and a sink for the line that it writes.
use Rattle.std.specs.Prelude.{ℕ, List, Option}

-- the bytes of the file of each name, where there is one; `None` where the shelf does not tell
abbrev pub Files : Type 0
Files = Option (List ℕ → Option (List ℕ))

-- a shelf: its files, how often it was asked for one, and how many faults it met
pub record ShelfSeen : Type 0 where
  pub files : Files
  pub fetches : ℕ
  pub faults : ℕ

-- a sink: all that was written, where it tells, and how many faults it met
pub record SinkSeen : Type 0 where
  pub written : Option (List ℕ)
  pub faults : ℕ

pub record Outside : Type 0 where
  pub shelf : ShelfSeen
  pub sink : SinkSeen

abbrev pub shelf_seen : {F : Type 0} → (F → Files) → (F → ℕ) → (F → ℕ) → F → ShelfSeen
shelf_seen files fetches faults shelf = record { files = files shelf; fetches = fetches shelf; faults = faults shelf }

abbrev pub sink_seen : {O : Type 0} → (O → Option (List ℕ)) → (O → ℕ) → O → SinkSeen
sink_seen written faults sink = record { written = written sink; faults = faults sink }

abbrev pub seen : ShelfSeen → SinkSeen → Outside
seen shelf sink = record { shelf = shelf; sink = sink }
