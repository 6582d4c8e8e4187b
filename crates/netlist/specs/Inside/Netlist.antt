-- How a netlist keeps its order and its names.
use Rattle.std.specs.Prelude.{◌≡◌, ℕ, List, map, Option}
use Rattle.circuits.specs.Circuit.{Circuit}
use Rattle.circuits.specs.Sound.{IsSound}
use Rattle.circuits.specs.Order.{IsAccepted, topological}
use Rattle.netlist.specs.Inside.Source.{FindsNames}
use Rattle.netlist.specs.declared.source.Source.{Source}

pub record IsOrdered (c : Circuit) (order : List ℕ) (found : List ℕ → Option Source) : Type 0 where
  pub sound : IsSound c
  pub accepted : IsAccepted c
  pub in_order : order ≡ topological c
  pub sources : FindsNames c.inputs (map (λ gate. gate.name) c.gates) found
