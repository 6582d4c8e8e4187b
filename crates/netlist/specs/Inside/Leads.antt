-- What lists of nets lead to.
use Rattle.std.specs.Prelude.{◌≡◌, ℕ, ◌<◌, Bool, true, List, length, Contains, refl}
use Rattle.std.proofs.Math.Dec.{lit<}
use Rattle.circuits.specs.Circuit.{fanin}
use Rattle.circuits.specs.Examples.{late}
use Rattle.circuits.specs.Valuation.{bit_of}

-- from a net to one of its list, and so on, by one step or more
pub data Leads (next : ℕ → List ℕ) : ℕ → ℕ → Type 0 where
  at_once : {net to : ℕ} → Contains (next net) to → Leads next net to
  by_way : {net via to : ℕ} → Contains (next net) via → Leads next via to → Leads next net to

-- z reads y, and y reads a
late-leads : Leads (fanin late) 1 0
late-leads = by_way {via = 2} (0, lit< tt, refl) (at_once (0, lit< tt, refl))

-- each list of a marked net has marked nets alone, and all lists have nothing but nets
pub record IsClosed (next : ℕ → List ℕ) (marks : List Bool) : Type 0 where
  pub within : (net to : ℕ) → Contains (next net) to → to < length marks
  pub closed : (net to : ℕ) → bit_of marks net ≡ true → Contains (next net) to → bit_of marks to ≡ true
