-- What the walk to the first difference asks and answers.
use Rattle.std.specs.Prelude.{◌≡◌, ℕ, ◌≤◌, pos, Bool, true, List, [], ◌∷◌, Some, refl}
use Rattle.word_base.specs.declared.decomp.Decomp.TheVariants.{S, P, N}
use Rattle.word_base.specs.declared.kind_name.KindName.{KindName}
use Rattle.tables.specs.Table.{Table, entry, halves, constant_table}
use Rattle.checks.specs.Answer.{Difference, first_difference}
use Rattle.checks.specs.Work.{walk_bits}
use Rattle.kind_laws.specs.Plain.{PlainEdge}
use Rattle.diagram.specs.View.{View, StandsAt, IsEdge, top_of}

-- an edge that has no node above the level
pub record LiesFrom (k : KindName) (v : View) (level : ℕ) (e : PlainEdge) : Type 0 where
  pub good : IsEdge k v e
  pub not_above : level ≤ top_of v e.node

-- two edges do not stand for one table from the level on
abbrev pub Differ : KindName → View → ℕ → PlainEdge → PlainEdge → Type 0
Differ k v level a b = (t u : Table) → StandsAt k v level t a → StandsAt k v level u b → t ≡ u → ⊥

-- the bits, the top level's first, are those of the first assignment at which two tables differ
pub record IsFirstAt (t u : Table) (bits : List Bool) : Type 0 where
  pub difference : Difference
  pub found : first_difference t u ≡ Some difference
  pub at : bits ≡ difference.at

-- ---- x*y, and 0 over the same two levels
abbrev product_table : Table
product_table = halves (constant_table 1 (pos 0)) (halves (entry (pos 0)) (entry (pos 1)))

-- the low halves are the same, so the walk goes to the high ones, whatever the letters are
product-shannon : walk_bits (S ∷ S ∷ []) product_table (constant_table 2 (pos 0)) ≡ true ∷ true ∷ []
product-shannon = refl

product-positive : walk_bits (P ∷ P ∷ []) product_table (constant_table 2 (pos 0)) ≡ true ∷ true ∷ []
product-positive = refl

product-negative : walk_bits (N ∷ N ∷ []) product_table (constant_table 2 (pos 0)) ≡ true ∷ true ∷ []
product-negative = refl

-- they differ first at 1 1
product_and_zero : IsFirstAt product_table (constant_table 2 (pos 0)) (true ∷ true ∷ [])
product_and_zero = record { difference = record { at = true ∷ true ∷ []; left = pos 1; right = pos 0 }; found = refl; at = refl }
