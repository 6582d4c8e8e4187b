-- How a pass keeps count of the cells that it owns.
use Rattle.std.specs.Prelude.{◌≡◌, ℕ, ◌-◌, ◌<◌, ◌≤◌, []}
use Rattle.std.specs.List.{range_with_len}
use Rattle.table_rule.specs.Counts.{IsIn}
use Rattle.table_rule.specs.Words.{chunks}
use Rattle.table_rule.specs.declared.layout.Layout.{Layout}
use Rattle.table_rule.specs.declared.view.PassView.{PassView}
use Rattle.unique_table.specs.declared.stock.Stock.{Stock}

pub record IsStock (L : Layout) (v : PassView) (s : Stock) : Type 0 where
  pub held : v.held ≡ range_with_len s.next (s.end - s.next)
  pub order : s.next ≤ s.end
  pub within : s.end ≤ L.cells
  pub few_chunks : s.chunk ≤ chunks L
  pub taken : (h : ℕ) → h < s.chunk → IsIn v.taken h

-- a pass that knows nothing owns no cell, and none was given up to it
abbrev pub StartsEmpty : PassView → Type 0
StartsEmpty v = v.known ≡ [] → (v.held ≡ []) × (v.gone ≡ [])
