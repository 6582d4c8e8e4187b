-- The numbers that name a table tell which it is.
use Rattle.std.proofs.Common.{◌≡◌, drop}
use Rattle.std.specs.Prelude.{slice_index}
use Rattle.atomic_table.specs.Seated.{TableId}
use Rattle.unique_table.specs.Values.{names_of}

pub same_names : (y z : TableId) → names_of y ≡ names_of z → y ≡ z
same_names y z e = λ i. record {
  words = slice_index (e i) 0;
  slots = slice_index (e i) 1;
  views_name = slice_index (e i) 2;
  atom = slice_index (e i) 3;
  block = slice_index (e i) 4;
  offset = slice_index (e i) 5;
  slot_names = drop 6 (e i);
}
