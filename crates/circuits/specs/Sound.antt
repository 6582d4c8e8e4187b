-- What holds of the nets of a netlist, also of one with cycles.
use Rattle.std.specs.Prelude.{ℕ, ◌<◌, All}
use Rattle.std.specs.List.{IsDistinct}
use Rattle.std.specs.Str.{bytes_eq}
use Rattle.circuits.specs.Circuit.{Circuit, net_count}
use Rattle.circuits.specs.Limits.{IsWithinLimits}
use Rattle.circuits.specs.Names.{names_of}
use Rattle.circuits.specs.Order.{IsInput}

-- within the limits, with names of their own, and reading and putting out nothing but nets
pub record IsSound (c : Circuit) : Type 0 where
  pub limits : IsWithinLimits c
  pub names : IsDistinct bytes_eq (names_of c)
  pub inputs : (net input : ℕ) → IsInput c net input → input < net_count c
  pub outputs : All (λ net. net < net_count c) c.outputs
