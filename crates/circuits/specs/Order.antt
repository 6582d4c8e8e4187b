-- Which nets a net is computed from, and an order of the gates in which each comes after its inputs.
use Rattle.std.specs.Prelude.{◌≡◌, ℕ, zero, suc, ◌<◌, Bool, not, ◌&&◌, ◌||◌, ◌⊎◌, ◌↔◌, List, [], ◌∷◌, ◌++◌, length, take, nat_lt, nat_eq, All, Contains, find, option_to_list, slice_get, Some, refl}
use Rattle.std.specs.List.{list_any, list_all, IsDistinct}
use Rattle.std.proofs.Math.Dec.{lit<}
use Rattle.circuits.specs.Circuit.{Circuit, input_count, net_count, gate_nets, fanin}
use Rattle.circuits.specs.Examples.{half, c17, late, looped}

-- the gate of the net reads the other net
abbrev pub IsInput : Circuit → ℕ → ℕ → Type 0
IsInput c net input = Contains (fanin c net) input

-- by one step or more along gate inputs
pub data Reaches (c : Circuit) : ℕ → ℕ → Type 0 where
  step : {net input : ℕ} → IsInput c net input → Reaches c net input
  steps : {net input to : ℕ} → IsInput c net input → Reaches c input to → Reaches c net to

late-reads : IsInput late 1 2
late-reads = (0, lit< tt, refl)

-- z reads y, and y reads a
late-reaches : Reaches late 1 0
late-reaches = steps {input = 2} (0, lit< tt, refl) (step (0, lit< tt, refl))

looped-reaches_itself : Reaches looped 1 1
looped-reaches_itself = step (0, lit< tt, refl)

-- what is read or put out is a net, and no net reaches itself
pub record IsAccepted (c : Circuit) : Type 0 where
  pub inputs : (net input : ℕ) → IsInput c net input → input < net_count c
  pub outputs : All (λ net. net < net_count c) c.outputs
  pub no_cycle : (net : ℕ) → ¬ Reaches c net net

looped-not_accepted : ¬ IsAccepted looped
looped-not_accepted accepted = accepted.no_cycle 1 looped-reaches_itself

abbrev pub is_among : List ℕ → ℕ → Bool
is_among nets net = list_any (nat_eq net) nets

-- an input, or listed
abbrev pub is_ready : Circuit → List ℕ → ℕ → Bool
is_ready c listed net = nat_lt net (input_count c) || is_among listed net

-- not yet listed, and all that its gate reads is an input or listed
abbrev pub is_next : Circuit → List ℕ → ℕ → Bool
is_next c listed net = not (is_among listed net) && list_all (is_ready c listed) (fanin c net)

-- with the least such gate, if there is one
abbrev pub with_next : Circuit → List ℕ → List ℕ
with_next c listed = listed ++ option_to_list (find (is_next c listed) (gate_nets c))

abbrev pub first_listed : Circuit → ℕ → List ℕ
first_listed c zero = []
first_listed c (suc n) = with_next c (first_listed c n)

-- Each place holds the gate with the least number among those not yet listed whose inputs are inputs or listed.
abbrev pub topological : Circuit → List ℕ
topological c = first_listed c (length c.gates)

half-order : topological half ≡ 2 ∷ 3 ∷ []
half-order = refl

c17-order : topological c17 ≡ 5 ∷ 6 ∷ 7 ∷ 8 ∷ 9 ∷ 10 ∷ []
c17-order = refl

late-order : topological late ≡ 2 ∷ 1 ∷ []
late-order = refl

looped-order : topological looped ≡ []
looped-order = refl

-- the list has each net of which P holds once, and after all that the net's gate reads
pub record IsTopologicalOrder (c : Circuit) (P : ℕ → Type 0) (listed : List ℕ) : Type 0 where
  pub no_net_twice : IsDistinct nat_eq listed
  pub each : (net : ℕ) → Contains listed net ↔ P net
  pub after_inputs : (place net input : ℕ) → slice_get listed place ≡ Some net → IsInput c net input
      → (input < input_count c) ⊎ Contains (take place listed) input
