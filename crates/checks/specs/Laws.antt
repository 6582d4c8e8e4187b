-- The laws of these definitions, each the contract of a function of src/laws.rt. What a run answers is defined without them.
use Rattle.std.specs.Prelude.{◌≡◌, ℕ, ◌+◌, ◌<◌, ◌^◌, ℤ, pos, List, [], ◌∷◌, ◌++◌, map, length, take, slice_index_or, Some, None}
use Rattle.circuits.specs.Circuit.{Circuit, Gate, input_count, gate_of}
use Rattle.circuits.specs.Order.{IsAccepted}
use Rattle.spec_lang.specs.Formula.{Formula, number, word, negative, sum, difference, product}
use Rattle.spec_lang.specs.Placed.{place_in}
use Rattle.spec_lang.specs.Specification.{Specification}
use Rattle.spec_lang.specs.Value.{nets_of}
use Rattle.tables.specs.Table.{Table, halves, IsOver, plus, minus, times, opposite, multiple, constant_table, variable_table}
use Rattle.checks.specs.Answer.{Difference, IsFirstDifference, first_difference}
use Rattle.checks.specs.Backward.{replaced}
use Rattle.checks.specs.Sides.{net_table, side}
use Rattle.checks.specs.Work.{gate_table, multiples, partial_sums, word_table, walk_bits}
use Rattle.word_base.specs.declared.decomp.Decomp.{Decomp}

-- the tables of nets and of formulas are over the levels of the order
pub record SidesAreOver : Type 0 where
  pub of_net : (c : Circuit) (s : Specification) (net : ℕ) → IsOver (length s.order) (net_table c s net)
  pub of_formula : (c : Circuit) (s : Specification) (formula : Formula) → IsOver (length s.order) (side c s formula)

-- the table of an input's net is that of its level's variable, and 0 everywhere where the order does not list the input
abbrev pub InputTables : Type 0
InputTables = (c : Circuit) (s : Specification) (net : ℕ) → net < input_count c →
    net_table c s net ≡ variable_table (length s.order) (place_in s.order net)

-- the table of a gate's net in an accepted circuit, of those of the nets that the gate reads
abbrev pub GateTables : Type 0
GateTables = (c : Circuit) (s : Specification) (net : ℕ) (gate : Gate) → IsAccepted c → gate_of c net ≡ Some gate →
    0 < length gate.inputs → net_table c s net ≡ gate_table gate.word (map (net_table c s) gate.inputs)

-- the table of a formula, of those of its parts
pub record FormulaTables : Type 0 where
  pub of_number : (c : Circuit) (s : Specification) (z : ℤ) → side c s (number z) ≡ constant_table (length s.order) z
  pub of_negative : (c : Circuit) (s : Specification) (a : Formula) → side c s (negative a) ≡ opposite (side c s a)
  pub of_sum : (c : Circuit) (s : Specification) (a b : Formula) → side c s (sum a b) ≡ plus (side c s a) (side c s b)
  pub of_difference : (c : Circuit) (s : Specification) (a b : Formula) → side c s (difference a b) ≡ minus (side c s a) (side c s b)
  pub of_product : (c : Circuit) (s : Specification) (a b : Formula) → side c s (product a b) ≡ times (side c s a) (side c s b)

-- the table of a word, of those of its nets, and how it is added up
pub record WordTables : Type 0 where
  pub of_word : (c : Circuit) (s : Specification) (w : ℕ) → 0 < length (nets_of s.words w) →
      side c s (word w) ≡ word_table (map (net_table c s) (nets_of s.words w))
  pub of_one : (t : Table) → word_table (t ∷ []) ≡ t
  pub of_one_more : (ts : List Table) (t : Table) → 0 < length ts →
      word_table (ts ++ t ∷ []) ≡ plus (word_table ts) (multiple (pos (2 ^ length ts)) t)
  pub multiple_at : (ts : List Table) (i : ℕ) (d : Table) → i < length ts →
      slice_index_or (multiples 1 ts) i d ≡ multiple (pos (2 ^ i)) (slice_index_or ts i d)
  pub partial_sum_at : (ts : List Table) (i : ℕ) (d : Table) → i < length ts →
      slice_index_or (partial_sums (multiples 1 ts)) i d ≡ word_table (take (i + 1) ts)

-- replacing the top variable goes by the halves at each letter: the low one, and p times what the high one has more
abbrev pub TopVariableReplaced : Type 0
TopVariableReplaced = (n : ℕ) (d : Decomp) (lo hi p : Table) → IsOver n lo → IsOver n hi → IsOver n p →
    replaced d (halves lo hi) p ≡ plus lo (times p (minus hi lo))

-- `first_difference` of tables over the same levels finds none exactly where the tables are the same, and else the first
pub record FirstDifferenceFound : Type 0 where
  pub none_of_same : (t : Table) → first_difference t t ≡ None
  pub same_if_none : (n : ℕ) (t u : Table) → IsOver n t → IsOver n u → first_difference t u ≡ None → t ≡ u
  pub found : (n : ℕ) (t u : Table) (d : Difference) → IsOver n t → IsOver n u → first_difference t u ≡ Some d →
      IsFirstDifference n t u d

-- the walk goes by the bits of the first difference, at any letters
abbrev pub WalkFindsFirst : Type 0
WalkFindsFirst = (ds : List Decomp) (t u : Table) (d : Difference) → IsOver (length ds) t → IsOver (length ds) u →
    first_difference t u ≡ Some d → walk_bits ds t u ≡ d.at
