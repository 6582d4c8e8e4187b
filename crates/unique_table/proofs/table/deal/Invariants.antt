use Rattle.std.proofs.Common.{◌≡◌, ℕ, ◌+◌, ◌-◌, ◌<◌, [], ◌∷◌, length, slice_get, Some}
use Rattle.std.specs.List.{All, range_with_len}
use Rattle.unique_table.specs.Values.{IsOf, begun}
use Rattle.unique_table.proofs.table.deal.Given as goal

abbrev pub invariant-loop : goal.invariant-loop
invariant-loop l = record {
  counted : l.counter ≡ length l.tokens.items + 1;
  rest : l.last ≡ begun l.table (range_with_len (length l.tokens.items) (l.passes - length l.tokens.items));
  each : (k : ℕ) → k < length l.tokens.items → slice_get l.tokens.items k ≡ Some (begun l.table (k ∷ []));
  own : All (IsOf l.table) l.tokens.items;
}
