-- What the steps of a pass ask and tell.
use Rattle.std.specs.Prelude.{◌≡◌, ℕ, ◌<◌, List, [], slice_index, length}
use Rattle.atomic_table.specs.declared.shared.Seat.{Seat}
use Rattle.table_rule.specs.Counts.{IsIn}
use Rattle.table_rule.specs.Steps.{IsCovered}
use Rattle.table_rule.specs.Views.{read, know}
use Rattle.table_rule.specs.declared.layout.Layout.{Layout}
use Rattle.table_rule.specs.declared.view.PassView.{PassView}
use Rattle.unique_table.specs.Values.{names_of}
use Rattle.unique_table.specs.declared.table.TableValue.{TableValue}

-- the seat is of this table, and has taken nothing
abbrev pub IsAt : TableValue → Seat (Unit {0}) PassView → Type 0
IsAt t place = (names_of place.table_id ≡ t.names) × (place.me.1 ≡ [])

-- no body whose path is covered up to this bucket is known
abbrev pub IsNewBehind : Layout → PassView → ℕ → Type 0
IsNewBehind L v b = (node : List ℕ) → IsCovered L v node b → (id : ℕ) → IsIn v.known (id, node) → ⊥

-- the words of the body before this place were read
abbrev pub HasReadFirst : PassView → ℕ → ℕ → List ℕ → Type 0
HasReadFirst v id count node = (i : ℕ) → i < count → IsIn v.words (id, i, slice_index node i)

-- The last word of a body was read, and is this one. So the id is known with the body that has this word and those read before
abbrev pub KnowsAfter : PassView → ℕ → ℕ → PassView → Type 0
KnowsAfter v id word w = (node : List ℕ) → length node ≡ 8 → HasReadFirst v id 7 node → slice_index node 7 ≡ word → w ≡ know id node (read id 7 word v)
