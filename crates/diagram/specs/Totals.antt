-- What is told of the whole table of an edge: how many nodes it has, and its content.
use Rattle.std.specs.Prelude.{◌≡◌, ℕ, ℤ, pos, length, drop}
use Rattle.word_base.specs.declared.kind_name.KindName.{KindName}
use Rattle.tables.specs.Canonical.{nodes}
use Rattle.tables.specs.Fits.{content}
use Rattle.tables.specs.Table.{Table}
use Rattle.kind_laws.specs.Plain.{PlainEdge}
use Rattle.diagram.specs.View.{View, StandsAt}

-- the number is that of the different nodes of the table for which the edge stands
abbrev pub IsCount : KindName → View → PlainEdge → ℕ → Type 0
IsCount k v e n = (l : ℕ) (t : Table) → StandsAt k v l t e → n ≡ length (nodes k (drop l v.letters) l t)

-- the weight is the content of that table
abbrev pub IsContent : KindName → View → PlainEdge → ℤ → Type 0
IsContent k v e w = (l : ℕ) (t : Table) → StandsAt k v l t e → w ≡ pos (content t)
