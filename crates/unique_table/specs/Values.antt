-- What contracts see of a table and of its passes.
use Rattle.std.specs.Prelude.{◌≡◌, ℕ, ◌*◌, ◌<◌, ◌≤◌, ◌^◌, List, [], ◌∷◌, length, slice_get, Some}
use Rattle.std.specs.Int.{IsNextPowerOfTwo}
use Rattle.atomic_table.specs.Seated.{TableId}
use Rattle.table_rule.specs.Laws.{IsViewOf}
use Rattle.table_rule.specs.Views.{fresh}
use Rattle.table_rule.specs.Words.{IsLayout}
use Rattle.table_rule.specs.declared.layout.Layout.{Layout}
use Rattle.table_rule.specs.declared.view.PassView.{PassView}
use Rattle.unique_table.specs.declared.table.TableValue.{TableValue}
use Rattle.unique_table.specs.declared.token.PassValue.{PassValue}

-- the numbers that name a table
abbrev pub names_of : TableId → List ℕ
names_of z = z.words ∷ z.slots ∷ z.views_name ∷ z.atom ∷ z.block ∷ z.offset ∷ z.slot_names

-- the layout of a table of so many cells and passes
pub record IsLayoutFor (count passes : ℕ) (L : Layout) : Type 0 where
  pub cells : L.cells ≡ count
  pub tokens : L.tokens ≡ passes
  pub chunk : L.chunk ≡ 256
  pub buckets : IsNextPowerOfTwo (2 * count) L.buckets

-- what holds of the layout of every table
pub record IsShape (L : Layout) : Type 0 where
  pub layout : IsLayout L
  pub chunk : L.chunk ≡ 256
  pub few : L.cells ≤ 1048576
  pub buckets : IsNextPowerOfTwo (2 * L.cells) L.buckets
  pub few_buckets : L.buckets < 2 ^ 32

-- the view of a pass that was not begun yet: it has a token, and nothing else
abbrev pub IsToken : Layout → PassView × List (ℕ × Unit {0}) → Type 0
IsToken L me = IsViewOf L me.0 × (me.1 ≡ []) × (me.0 ≡ fresh me.0.tokens)

-- the pass, or the token, is of this table
abbrev pub IsOf : TableValue → PassValue → Type 0
IsOf t p = (p.names ≡ t.names) × (p.layout ≡ t.layout)

-- a pass that was not begun, with these tokens
abbrev pub begun : TableValue → List ℕ → PassValue
begun t tokens = record { names = t.names; layout = t.layout; view = fresh tokens }

-- a table of so many cells, and a token for each of its passes
pub record IsMade (count passes : ℕ) (t : TableValue) (tokens : List PassValue) : Type 0 where
  pub layout : IsLayoutFor count passes t.layout
  pub as_many : length tokens ≡ passes
  pub each : (k : ℕ) → k < passes → slice_get tokens k ≡ Some (begun t (k ∷ []))
