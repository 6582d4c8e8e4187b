-- Where no net reaches itself, one comes to an end who goes on from a gate to one of its inputs: within as many steps as there are gates.
use Rattle.std.specs.Prelude.{ℕ, suc, length}
use Rattle.circuits.proofs.Walks.{no_walk}
use Rattle.circuits.specs.Circuit.{Circuit, IsGate}
use Rattle.circuits.specs.Order.{IsInput, Reaches, step, steps, IsAccepted}

pub reaches_on : {c : Circuit} {from via to : ℕ} → Reaches c from via → IsInput c via to → Reaches c from to
reaches_on (step first) last = steps first (step last)
reaches_on (steps first rest) last = steps first (reaches_on rest last)

pub no_descent : (c : Circuit) → IsAccepted c → (P : ℕ → ℕ → Type 0)
    (gate : (n net : ℕ) → P n net → IsGate c net)
    (down : (n net : ℕ) → P (suc n) net → (input : ℕ) × IsInput c net input × P n input) →
    (net : ℕ) → P (length c.gates) net → ⊥
no_descent c accepted P gate down = no_walk c P (λ n net q. Reaches c q net) gate (λ n net here circle. accepted.no_cycle net circle) go_on
  where
    go_on : (n net : ℕ) → P (suc n) net → (next : ℕ) × P n next × Reaches c net next × ((q : ℕ) → Reaches c q net → Reaches c q next)
    go_on n net here =
        let next : (input : ℕ) × IsInput c net input × P n input = down n net here in
        (next.0, next.2, step next.1, λ q before. reaches_on before next.1)
