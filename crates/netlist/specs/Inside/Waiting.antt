-- What the search for an order keeps: for each gate how many of its inputs it waits for, and for each net its readers.
use Rattle.std.specs.Prelude.{◌≡◌, ℕ, ◌+◌, ◌<◌, Bool, not, ◌&&◌, List, [], ◌∷◌, nat_eq, nat_lt, nat_le, count_by, slice_get, length, if◌then◌else◌, refl}
use Rattle.std.specs.Option.{option_map_or}
use Rattle.std.specs.declared.alloc.Global.{Global}
use Rattle.std.specs.declared.vec.Vec.{Vec}
use Rattle.circuits.specs.Circuit.{Circuit, input_count, net_count, fanin}
use Rattle.circuits.specs.Examples.{late}
use Rattle.circuits.specs.Order.{is_ready}

abbrev pub is_gate : Circuit → ℕ → Bool
is_gate c net = nat_le (input_count c) net && nat_lt net (net_count c)

-- how many of the inputs of a net's gate are gates that are not listed
abbrev pub open_inputs : Circuit → List ℕ → ℕ → ℕ
open_inputs c listed net = count_by (λ input. not (is_ready c listed input)) (fanin c net)

-- how often a net is in a list
abbrev pub count_of : List ℕ → ℕ → ℕ
count_of nets net = count_by (nat_eq net) nets

-- the list of a net
abbrev pub list_at : List (Vec ℕ Global) → ℕ → List ℕ
list_at lists net = option_map_or (λ list. list.items) (slice_get lists net) []

-- the list of a net has each gate as often as the gate reads the net
abbrev pub CountsReaders : Circuit → List (Vec ℕ Global) → Type 0
CountsReaders c readers = (net reader : ℕ) → net < net_count c → count_of (list_at readers net) reader ≡ count_of (fanin c reader) net

-- the lists after one reader of some inputs more
abbrev pub HasReader : List (Vec ℕ Global) → List (Vec ℕ Global) → ℕ → List ℕ → Type 0
HasReader before after reader inputs = (net other : ℕ) → net < length before →
    count_of (list_at after net) other ≡ count_of (list_at before net) other + (if nat_eq other reader then count_of inputs net else 0)

late-open : open_inputs late [] 1 ≡ 1
late-open = refl

late-open_after : open_inputs late (2 ∷ []) 1 ≡ 0
late-open_after = refl
