-- Where a name was given: at an input or at a gate.
use Rattle.std.specs.Prelude.{◌≡◌, ℕ, ◌+◌, List, [], ◌∷◌, Option, Some, None, slice_get, ◌↔◌, codes, if◌then◌else◌, refl}
use Rattle.std.specs.Str.{bytes_eq}
use Rattle.netlist.specs.declared.source.Source.{Source}
use Rattle.netlist.specs.declared.source.Source.TheVariants.{Input, Gate}

-- the name that is given there
abbrev pub name_at : List (List ℕ) → List (List ℕ) → Source → Option (List ℕ)
name_at inputs gates (Input i) = slice_get inputs i
name_at inputs gates (Gate i) = slice_get gates i

-- the number of the net, where there are so many inputs
abbrev pub source_net : ℕ → Source → ℕ
source_net inputs (Input i) = i
source_net inputs (Gate i) = inputs + i

-- a name is found where it is given, and nowhere else
abbrev pub FindsNames : List (List ℕ) → List (List ℕ) → (List ℕ → Option Source) → Type 0
FindsNames inputs gates found =
    (name : List ℕ) (source : Source) → (found name ≡ Some source) ↔ (name_at inputs gates source ≡ Some name)

-- one name more is found, and all others where they were
abbrev pub FindsOneMore : (List ℕ → Option Source) → List ℕ → Source → (List ℕ → Option Source) → Type 0
FindsOneMore before name source after =
    (other : List ℕ) → after other ≡ (if bytes_eq name other then Some source else before other)

name-at_gate : name_at (codes "a" ∷ []) (codes "s" ∷ codes "c" ∷ []) (Gate 1) ≡ Some (codes "c")
name-at_gate = refl

name-at_no_input : name_at (codes "a" ∷ []) (codes "s" ∷ codes "c" ∷ []) (Input 1) ≡ None
name-at_no_input = refl
