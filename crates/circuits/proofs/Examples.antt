-- The half adder is accepted, and has what the laws say of accepted circuits.
use Rattle.std.specs.Prelude.{◌≡◌, ℕ, ◌<◌, true, false, [], ◌∷◌, All, refl}
use Rattle.std.proofs.Common.{arith}
use Rattle.std.proofs.lemmas.List.Elements.{All-nil, All-cons}
use Rattle.circuits.proofs.Accepted.{accepted-iff_full}
use Rattle.circuits.proofs.Rounds.{IsValuation-valuation}
use Rattle.circuits.proofs.Topological.{topological-complete}
use Rattle.circuits.specs.Circuit.{IsGate, net_count}
use Rattle.circuits.specs.Examples.{half}
use Rattle.circuits.specs.Order.{IsAccepted, IsTopologicalOrder}
use Rattle.circuits.specs.Valuation.{IsValuation}

half-outputs : All (λ net. net < net_count half) half.outputs
half-outputs = All-cons (λ net. net < net_count half) 2 (3 ∷ []) (omega arith) (All-cons (λ net. net < net_count half) 3 [] (omega arith) (All-nil (λ net. net < net_count half)))

half-accepted : IsAccepted half
half-accepted = (accepted-iff_full half half-outputs).1 refl

half-valued : IsValuation half (true ∷ true ∷ []) (true ∷ true ∷ false ∷ true ∷ [])
half-valued = IsValuation-valuation half (true ∷ true ∷ []) refl half-accepted

half-ordered : IsTopologicalOrder half (IsGate half) (2 ∷ 3 ∷ [])
half-ordered = topological-complete half half-accepted
