-- The laws of a kind, on trees with unbounded weights, and that its canonical diagrams are canonical; and what holds of
-- lists of nodes, of content, of tables that fit, and of factors and summands. What a run answers and when it meets a limit
-- is defined without them.
use Rattle.std.specs.Prelude.{◌≡◌, ◌≢◌, ℕ, suc, ◌+◌, ℤ, pos, ◌+ℤ◌, List, [], ◌∷◌, Bool, true, ◌&&◌, ◌⊎◌, ◌↔◌, length}
use Rattle.std.specs.List.{IsDistinct}
use Rattle.integers.specs.Gcd.{gcd}
use Rattle.word_base.specs.Kind.{is_allowed}
use Rattle.word_base.specs.declared.decomp.Decomp.{Decomp}
use Rattle.word_base.specs.declared.decomp.Decomp.TheVariants.{S, P, N}
use Rattle.word_base.specs.declared.kind_name.KindName.{KindName}
use Rattle.tables.specs.Table.{Table, IsOver, plus, times, multiple, part0, part1, constant_table}
use Rattle.tables.specs.Tree.{Shape, leaf, Tree, constant, same_shape, tjoin}
use Rattle.tables.specs.Parts.{low_part, high_part}
use Rattle.tables.specs.Meaning.{table}
use Rattle.tables.specs.Canonical.{canonical, IsCanonical, IsNodeOf, has, add_nodes, nodes}
use Rattle.tables.specs.Fits.{fits, content}
use Rattle.tables.specs.Pieces.{like}
use Rattle.tables.specs.Factors.{IsFactor, factor_of, scaled_tree, unscaled_tree, IsSummand, summand_of, shifted_tree, unshifted_tree, raised_by}

-- whether the kind allows each letter
abbrev pub are_allowed : KindName → List Decomp → Bool
are_allowed k [] = true
are_allowed k (d ∷ ds) = is_allowed k d && are_allowed k ds

-- ---- constants

-- a constant's edge stands for the table whose entries are all that constant
abbrev pub ConstantsStand : KindName → Type 0
ConstantsStand k = (ds : List Decomp) (l : ℕ) (c : ℤ) → table k ds l (constant k c) ≡ constant_table (length ds) c

-- different constants have different edges
abbrev pub ConstantsDiffer : KindName → Type 0
ConstantsDiffer k = (c e : ℤ) → constant k c ≡ constant k e → c ≡ e

-- the edges to the leaf are the constants' edges
abbrev pub LeavesAreConstants : KindName → Type 0
LeavesAreConstants k = (ds : List Decomp) (l : ℕ) (t : Tree) → are_allowed k ds ≡ true → IsCanonical k ds l t → (t.shape ≡ leaf) ↔ ((c : ℤ) × (t ≡ constant k c))

-- ---- joins

-- two canonical trees below level l, to be joined there at d
pub record AreJoinable (k : KindName) (d : Decomp) (ds : List Decomp) (l : ℕ) (low high : Tree) : Type 0 where
  pub allowed : are_allowed k (d ∷ ds) ≡ true
  pub low_canonical : IsCanonical k ds (l + 1) low
  pub high_canonical : IsCanonical k ds (l + 1) high

-- the join's table has the tables of the two as its parts
abbrev pub JoinHasParts : KindName → Type 0
JoinHasParts k = (d : Decomp) (ds : List Decomp) (l : ℕ) (low high : Tree) → AreJoinable k d ds l low high →
    (part0 d (table k (d ∷ ds) l (tjoin k d l low high)) ≡ table k ds (l + 1) low)
    × (part1 d (table k (d ∷ ds) l (tjoin k d l low high)) ≡ table k ds (l + 1) high)

-- the parts of a join are what was joined
abbrev pub PartsUndoJoin : KindName → Type 0
PartsUndoJoin k = (d : Decomp) (ds : List Decomp) (l : ℕ) (low high : Tree) → AreJoinable k d ds l low high →
    (low_part k l (tjoin k d l low high) ≡ low) × (high_part k d l (tjoin k d l low high) ≡ high)

-- at Shannon two same edges, at Davio a high edge that is the constant 0
abbrev pub IsSkip : KindName → Decomp → Tree → Tree → Type 0
IsSkip k S low high = low ≡ high
IsSkip k P low high = high ≡ constant k (pos 0)
IsSkip k N low high = high ≡ constant k (pos 0)

-- a join is its low edge exactly at such a pair
abbrev pub JoinsSkip : KindName → Type 0
JoinsSkip k = (d : Decomp) (ds : List Decomp) (l : ℕ) (low high : Tree) → AreJoinable k d ds l low high →
    (tjoin k d l low high ≡ low) ↔ IsSkip k d low high

-- ---- parts

-- the parts of a canonical tree are canonical, and stand for the parts of its table
pub record HasCanonicalParts (k : KindName) (d : Decomp) (ds : List Decomp) (l : ℕ) (t : Tree) : Type 0 where
  pub low_canonical : IsCanonical k ds (l + 1) (low_part k l t)
  pub high_canonical : IsCanonical k ds (l + 1) (high_part k d l t)
  pub low_table : table k ds (l + 1) (low_part k l t) ≡ part0 d (table k (d ∷ ds) l t)
  pub high_table : table k ds (l + 1) (high_part k d l t) ≡ part1 d (table k (d ∷ ds) l t)

abbrev pub PartsAreCanonical : KindName → Type 0
PartsAreCanonical k = (d : Decomp) (ds : List Decomp) (l : ℕ) (t : Tree) →
    are_allowed k (d ∷ ds) ≡ true → IsCanonical k (d ∷ ds) l t → HasCanonicalParts k d ds l t

-- the join of the parts of a canonical tree gives the tree back
abbrev pub JoinOfParts : KindName → Type 0
JoinOfParts k = (d : Decomp) (ds : List Decomp) (l : ℕ) (t : Tree) →
    are_allowed k (d ∷ ds) ≡ true → IsCanonical k (d ∷ ds) l t → tjoin k d l (low_part k l t) (high_part k d l t) ≡ t

-- ---- canonicity

-- two canonical trees are equal exactly if their tables are
abbrev pub CanonicalTreesAgree : KindName → Type 0
CanonicalTreesAgree k = (ds : List Decomp) (l : ℕ) (t u : Tree) → are_allowed k ds ≡ true →
    IsCanonical k ds l t → IsCanonical k ds l u → (t ≡ u) ↔ (table k ds l t ≡ table k ds l u)

-- a tree that is made by joins is the canonical diagram of its table
abbrev pub JoinsAreCanonical : KindName → Type 0
JoinsAreCanonical k = (ds : List Decomp) (l : ℕ) (t : Tree) → are_allowed k ds ≡ true →
    IsCanonical k ds l t → t ≡ canonical k ds l (table k ds l t)

-- the canonical diagram of a table is made by joins, and stands for the table
abbrev pub CanonicalStands : KindName → Type 0
CanonicalStands k = (ds : List Decomp) (l : ℕ) (t : Table) → are_allowed k ds ≡ true →
    IsOver (length ds) t → IsCanonical k ds l (canonical k ds l t) × (table k ds l (canonical k ds l t) ≡ t)

-- ---- nodes, whatever the kind

-- to add the nodes of a shape keeps what was found, and adds its nodes and nothing else
abbrev pub NodesAreAdded : Type 0
NodesAreAdded = (s : Shape) (found : List Shape) (n : Shape) → (has (add_nodes s found) n ≡ true) ↔ ((has found n ≡ true) ⊎ IsNodeOf n s)

-- the list of the nodes of a shape has its nodes
abbrev pub NodesAreListed : Type 0
NodesAreListed = (s n : Shape) → (has (add_nodes s []) n ≡ true) ↔ IsNodeOf n s

-- no node is added twice
abbrev pub NodesAreDistinct : Type 0
NodesAreDistinct = (s : Shape) (found : List Shape) → IsDistinct same_shape found → IsDistinct same_shape (add_nodes s found)

-- nor listed twice
abbrev pub ListedNodesAreDistinct : Type 0
ListedNodesAreDistinct = (s : Shape) → IsDistinct same_shape (add_nodes s [])

-- ---- content and fits

-- the content of a table is that of its two parts, at each letter
abbrev pub ContentOfParts : Type 0
ContentOfParts = (d : Decomp) (n : ℕ) (t : Table) → IsOver (suc n) t → content t ≡ gcd (content (part0 d t)) (content (part1 d t))

-- a table that fits has parts that fit
abbrev pub FitsParts : KindName → Type 0
FitsParts k = (d : Decomp) (ds : List Decomp) (t : Table) → fits k (d ∷ ds) t ≡ true → (fits k ds (part0 d t) ≡ true) × (fits k ds (part1 d t) ≡ true)

-- ---- factors, whatever the kind

-- the table of a tree times a factor is the multiple of the tree's table
abbrev pub ScaledTreesStand : Type 0
ScaledTreesStand = (k : KindName) (ds : List Decomp) (l : ℕ) (s : ℤ) (t : Tree) → IsFactor k s → table k ds l (scaled_tree k s t) ≡ multiple s (table k ds l t)

-- the canonical diagram of a multiple is the table's, times the factor
abbrev pub FactorsGoThrough : Type 0
FactorsGoThrough = (k : KindName) (ds : List Decomp) (l : ℕ) (s : ℤ) (t : Table) → IsFactor k s → canonical k ds l (multiple s t) ≡ scaled_tree k s (canonical k ds l t)

-- so both have the same nodes
abbrev pub MultiplesKeepNodes : Type 0
MultiplesKeepNodes = (k : KindName) (ds : List Decomp) (l : ℕ) (s : ℤ) (t : Table) → IsFactor k s → nodes k ds l (multiple s t) ≡ nodes k ds l t

-- a table fits where a multiple of it does
abbrev pub FactorsFit : Type 0
FactorsFit = (k : KindName) (ds : List Decomp) (s : ℤ) (t : Table) → IsFactor k s → fits k ds (multiple s t) ≡ true → fits k ds t ≡ true

-- a table is the multiple of another, whose canonical diagram is the tree that is left
pub record IsMultipleOf (k : KindName) (ds : List Decomp) (l : ℕ) (s : ℤ) (left : Tree) (t : Table) : Type 0 where
  pub is_factor : IsFactor k s
  pub rest : Table
  pub over : IsOver (length ds) rest
  pub is_multiple : t ≡ multiple s rest
  pub is_left : canonical k ds l rest ≡ left
  pub put_back : scaled_tree k s left ≡ canonical k ds l t

-- the factor of a canonical diagram is one of its table, unless it is 0
abbrev pub FactorsAreTaken : Type 0
FactorsAreTaken = (k : KindName) (ds : List Decomp) (l : ℕ) (t : Table) → are_allowed k ds ≡ true → IsOver (length ds) t →
    factor_of k (canonical k ds l t).root ≢ pos 0 →
    IsMultipleOf k ds l (factor_of k (canonical k ds l t).root) (unscaled_tree k (canonical k ds l t)) t

-- and it is 0 for the constant 0 alone
abbrev pub FactorIsZero : Type 0
FactorIsZero = (k : KindName) (ds : List Decomp) (l : ℕ) (t : Tree) → are_allowed k ds ≡ true → IsCanonical k ds l t →
    factor_of k t.root ≡ pos 0 → t ≡ constant k (pos 0)

-- the factors of two tables are factors of their product, the first one's before the second's
abbrev pub ProductsOfMultiples : Type 0
ProductsOfMultiples = (n : ℕ) (s r : ℤ) (t u : Table) → IsOver n t → IsOver n u → times (multiple s t) (multiple r u) ≡ multiple s (multiple r (times t u))

-- ---- summands, whatever the kind

-- to raise a table by a constant is to add the constant's table
abbrev pub RaisedTablesAreSums : Type 0
RaisedTablesAreSums = (c : ℤ) (t : Table) → raised_by c t ≡ plus t (like t c)

-- the table of a tree with a summand added is the tree's table, raised by it
abbrev pub ShiftedTreesStand : Type 0
ShiftedTreesStand = (k : KindName) (ds : List Decomp) (l : ℕ) (c : ℤ) (t : Tree) → IsSummand k c → table k ds l (shifted_tree k c t) ≡ raised_by c (table k ds l t)

-- the canonical diagram of a table that is raised is the table's, with the summand added
abbrev pub SummandsGoThrough : Type 0
SummandsGoThrough = (k : KindName) (ds : List Decomp) (l : ℕ) (c : ℤ) (t : Table) → IsSummand k c → are_allowed k ds ≡ true → IsOver (length ds) t →
    canonical k ds l (raised_by c t) ≡ shifted_tree k c (canonical k ds l t)

-- so both have the same nodes
abbrev pub RaisedTablesKeepNodes : Type 0
RaisedTablesKeepNodes = (k : KindName) (ds : List Decomp) (l : ℕ) (c : ℤ) (t : Table) → IsSummand k c → are_allowed k ds ≡ true → IsOver (length ds) t →
    nodes k ds l (raised_by c t) ≡ nodes k ds l t

-- a table is another one raised, whose canonical diagram is the tree that is left
pub record IsRaisedFrom (k : KindName) (ds : List Decomp) (l : ℕ) (c : ℤ) (left : Tree) (t : Table) : Type 0 where
  pub is_summand : IsSummand k c
  pub rest : Table
  pub over : IsOver (length ds) rest
  pub is_raised : t ≡ raised_by c rest
  pub is_left : canonical k ds l rest ≡ left
  pub put_back : shifted_tree k c left ≡ canonical k ds l t

-- the summand of a canonical diagram is one of its table
abbrev pub SummandsAreTaken : Type 0
SummandsAreTaken = (k : KindName) (ds : List Decomp) (l : ℕ) (t : Table) → are_allowed k ds ≡ true → IsOver (length ds) t →
    IsRaisedFrom k ds l (summand_of k (canonical k ds l t).root) (unshifted_tree k (canonical k ds l t)) t

-- the summands of two tables add up in their sum
abbrev pub SumsOfRaisedTables : Type 0
SumsOfRaisedTables = (n : ℕ) (c e : ℤ) (t u : Table) → IsOver n t → IsOver n u → plus (raised_by c t) (raised_by e u) ≡ raised_by (c +ℤ e) (plus t u)
