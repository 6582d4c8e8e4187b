-- What holds of the fields of a pass.
use Rattle.std.specs.Prelude.{◌≡◌, false}
use Rattle.atomic_table.specs.declared.shared.Seat.{Seat}
use Rattle.table_rule.specs.Laws.{IsViewOf}
use Rattle.table_rule.specs.declared.view.PassView.{PassView}
use Rattle.unique_table.specs.Stocked.{IsStock, StartsEmpty}
use Rattle.unique_table.specs.Values.{IsShape}
use Rattle.unique_table.specs.Walking.{IsAt}
use Rattle.unique_table.specs.declared.stock.Stock.{Stock}
use Rattle.unique_table.specs.declared.table.TableValue.{TableValue}

-- the seat of a pass that has not ended, and the cells that it owns
pub record IsSeated (t : TableValue) (place : Seat (Unit {0}) PassView) (s : Stock) : Type 0 where
  pub own : IsAt t place
  pub live : place.me.0.ended ≡ false
  pub possible : IsViewOf t.layout place.me.0
  pub stock : IsStock t.layout place.me.0 s

pub record IsPass (t : TableValue) (place : Seat (Unit {0}) PassView) (s : Stock) : Type 0 where
  pub shape : IsShape t.layout
  pub seated : IsSeated t place s
  pub empty : StartsEmpty place.me.0
