-- What some nets are computed from.
use Rattle.std.specs.Prelude.{◌≡◌, ℕ, zero, suc, Bool, true, false, List, [], ◌∷◌, ◌++◌, length, fold, filter, flat_map, Contains, ◌⊎◌, if◌then◌else◌, refl}
use Rattle.circuits.specs.Circuit.{Circuit, fanin}
use Rattle.circuits.specs.Examples.{half, c17, looped}
use Rattle.circuits.specs.Order.{Reaches, is_among, topological}

-- among the nets, or reached from one of them
abbrev pub IsReachedFrom : Circuit → List ℕ → ℕ → Type 0
IsReachedFrom c nets net = Contains nets net ⊎ ((from : ℕ) × Contains nets from × Reaches c from net)

-- with the net, once
abbrev pub with_net : List ℕ → ℕ → List ℕ
with_net nets net = if is_among nets net then nets else nets ++ net ∷ []

-- with all that the gates among the nets read
abbrev pub with_fanin : Circuit → List ℕ → List ℕ
with_fanin c nets = fold with_net nets (flat_map (fanin c) nets)

abbrev pub reached : Circuit → List ℕ → ℕ → List ℕ
reached c nets zero = nets
reached c nets (suc rounds) = with_fanin c (reached c nets rounds)

-- the net is in the least set that has the nets and all that each gate in it reads: as many rounds as there are gates give it
abbrev pub is_in_cone : Circuit → List ℕ → ℕ → Bool
is_in_cone c nets net = is_among (reached c nets (length c.gates)) net

-- the gates in that set, in topological order
abbrev pub cone : Circuit → List ℕ → List ℕ
cone c nets = filter (is_in_cone c nets) (topological c)

-- the gate of the net reaches itself along gate inputs
abbrev pub reaches_itself : Circuit → ℕ → Bool
reaches_itself c net = is_in_cone c (fanin c net) net

half-cone : cone half (3 ∷ []) ≡ 3 ∷ []
half-cone = refl

half-in_cone : is_in_cone half (3 ∷ []) 0 ≡ true
half-in_cone = refl

half-not_in_cone : is_in_cone half (3 ∷ []) 2 ≡ false
half-not_in_cone = refl

-- net 10 is the output 23
c17-cone : cone c17 (10 ∷ []) ≡ 6 ∷ 7 ∷ 8 ∷ 10 ∷ []
c17-cone = refl

looped-on_cycle : reaches_itself looped 1 ≡ true
looped-on_cycle = refl

c17-off_cycles : reaches_itself c17 7 ≡ false
c17-off_cycles = refl
