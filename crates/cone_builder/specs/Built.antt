-- Which edges of a list are built.
use Rattle.word_base.specs.declared.kind_name.KindName.{KindName}
use Rattle.std.specs.Prelude.{◌≡◌, ℕ, ◌<◌, true, Bool, ◌&&◌, ◌||◌, List, length, take, map, slice_get, slice_index_or, IfSome, Some}
use Rattle.circuits.specs.Circuit.{Circuit, gate_of, net_count}
use Rattle.circuits.specs.Order.{IsInput, is_among}
use Rattle.circuits.specs.Valuation.{bit_of}
use Rattle.spec_lang.specs.Named.{nets_named}
use Rattle.spec_lang.specs.Specification.{Word, Specification}
use Rattle.spec_lang.specs.Value.{nets_of}
use Rattle.checks.specs.Sides.{net_table}
use Rattle.checks.specs.Work.{gate_table, word_table}
use Rattle.tables.specs.Table.{Table, variable_table}
use Rattle.kind_laws.specs.Plain.{PlainEdge}
use Rattle.diagram.specs.View.{View, StandsAt}
use Rattle.word_apply.specs.Applied.{AreEdges}

-- all edges are good, and those at the built places stand for the tables of their places
pub record AreBuilt (k : KindName) (v : View) (table : ℕ → Table) (built : ℕ → Bool) (edges : List PlainEdge) : Type 0 where
  pub good : AreEdges k v edges
  pub stand : (i : ℕ) (d : PlainEdge) → i < length edges → built i ≡ true → StandsAt k v 0 (table i) (slice_index_or edges i d)

-- listed and marked
abbrev pub is_marked : List ℕ → List Bool → ℕ → Bool
is_marked listed marks net = is_among listed net && bit_of marks net

-- built before, or listed
abbrev pub or_listed : (ℕ → Bool) → List ℕ → ℕ → Bool
or_listed built listed i = built i || is_among listed i

-- the table of each listed net is that of the variable of its place
abbrev pub AreVariables : View → List ℕ → (ℕ → Table) → Type 0
AreVariables v listed table = (level net : ℕ) → slice_get listed level ≡ Some net → table net ≡ variable_table (length v.letters) level

-- the table of each gate's net is made of those of the nets that it reads
abbrev pub AreGates : Circuit → (ℕ → Table) → Type 0
AreGates c table = (net : ℕ) → IfSome (gate_of c net) (λ gate. table net ≡ gate_table gate.word (map table gate.inputs))

-- all that a net reads is built
abbrev pub ReadsBuilt : Circuit → (ℕ → Bool) → ℕ → Type 0
ReadsBuilt c built net = (input : ℕ) → IsInput c net input → built input ≡ true

-- each listed net comes after all that it reads and that is not built
abbrev pub ComeAfter : Circuit → (ℕ → Bool) → List ℕ → Type 0
ComeAfter c built listed = (place net : ℕ) → slice_get listed place ≡ Some net → ReadsBuilt c (or_listed built (take place listed)) net

-- the table of a word is made of those of its nets
abbrev pub AreWords : List Word → (ℕ → Table) → (ℕ → Table) → Type 0
AreWords words of_net table = (w : ℕ) → w < length words → table w ≡ word_table (map of_net (nets_of words w))

-- the edges of all nets that the check's words name stand for the nets' tables
pub record NetsAreBuilt (k : KindName) (c : Circuit) (s : Specification) (number : ℕ) (v : View) (edges : List PlainEdge) : Type 0 where
  pub many : length edges ≡ net_count c
  pub built : IfSome (slice_get s.checks number) (λ check. AreBuilt k v (net_table c s) (is_among (nets_named s check)) edges)
  pub good : AreEdges k v edges
