-- The order in which a depth-first walk along gate inputs leaves the nets.
use Rattle.std.specs.Prelude.{◌≡◌, ℕ, ◌+◌, ◌<◌, ◌≤◌, ◌⊎◌, Bool, true, false, List, [], ◌∷◌, ◌++◌, length, map, AllPairs, Contains, slice_index, if◌then◌else◌, refl}
use Rattle.circuits.specs.Circuit.{Circuit, net_count, fanin}
use Rattle.circuits.specs.Order.{IsInput, Reaches, is_among}
use Rattle.circuits.specs.Valuation.{bit_of}
use Rattle.netlist.specs.Inside.Waiting.{count_of}
use Rattle.netlist.specs.declared.postorder.Visit.{Visit}

-- what the net and those before it read is not after the net, or reaches the net in turn
pub record ComesAfter (c : Circuit) (before : List ℕ) (net : ℕ) : Type 0 where
  pub new : is_among before net ≡ false
  pub inputs : (reader input : ℕ) → is_among (before ++ net ∷ []) reader ≡ true → IsInput c reader input
      → (is_among (before ++ net ∷ []) input ≡ true) ⊎ Reaches c input net

pub data IsPostorder (c : Circuit) : List ℕ → Type 0 where
  none : IsPostorder c []
  more : (before : List ℕ) (net : ℕ) → IsPostorder c before → ComesAfter c before net → IsPostorder c (before ++ net ∷ [])

-- the nets that a walk is at, each reached from those in front of it
abbrev pub visited : List Visit → List ℕ
visited visits = map (λ visit. visit.net) visits

visited-two : visited (record { net = 1; next = 1 } ∷ record { net = 2; next = 0 } ∷ []) ≡ 1 ∷ 2 ∷ []
visited-two = refl

-- the inputs that were looked at are seen
pub record IsLooked (c : Circuit) (seen : List Bool) (visit : Visit) : Type 0 where
  pub few : visit.next ≤ length (fanin c visit.net)
  pub inputs : (place : ℕ) → place < visit.next → bit_of seen (slice_index (fanin c visit.net) place) ≡ true

-- The walk has seen the nets that it has left, which are in `order`, and those that it is at.
pub record IsWalk (c : Circuit) (seen : List Bool) (order : List ℕ) (visits : List Visit) : Type 0 where
  pub long : length seen ≡ net_count c
  pub counts : (net : ℕ) → count_of order net + count_of (visited visits) net ≡ (if bit_of seen net then 1 else 0)
  pub closed : (net input : ℕ) → is_among order net ≡ true → IsInput c net input → bit_of seen input ≡ true
  pub in_order : IsPostorder c order
  pub path : AllPairs (Reaches c) (visited visits)
  pub looked : (visit : Visit) → Contains visits visit → IsLooked c seen visit
