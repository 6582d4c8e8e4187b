-- What a builder remembers of its operations. Private functions and proofs use it, beside the invariant of a builder.
use Rattle.std.specs.Prelude.{◌≡◌, ◌⊎◌, ℕ, pos, List, refl}
use Rattle.word_base.specs.declared.kind_name.KindName.{KindName}
use Rattle.tables.specs.Table.{Table, entry, plus, times}
use Rattle.kind_laws.specs.EdgeWords.{edge_words, FitsEdge}
use Rattle.kind_laws.specs.Plain.{PlainEdge}
use Rattle.result_cache.specs.Cache.{Places, Holds}
use Rattle.result_cache.specs.declared.key.CacheKey.{CacheKey}
use Rattle.diagram.specs.View.{View, StandsAt, IsEdge}
use Rattle.diagram.specs.declared.operation.Operation.{Operation}
use Rattle.diagram.specs.declared.operation.Operation.TheVariants.{Sum, Product}

-- the number of an operation in a key
abbrev pub number_of : Operation → ℕ
number_of Sum = 0
number_of Product = 1

-- what an operation makes of two tables
abbrev pub op_of : Operation → Table → Table → Table
op_of Sum = plus
op_of Product = times

-- the edge stands for what the operation makes of the tables of two edges, at each level from which they stand for tables
abbrev pub IsResult : Operation → KindName → View → PlainEdge → PlainEdge → PlainEdge → Type 0
IsResult o k v a b r = (l : ℕ) (t u : Table) → StandsAt k v l t a → StandsAt k v l u b → StandsAt k v l (op_of o t u) r

-- the key has the number of the operation and the words of both edges, in this order
pub record HasKey (o : Operation) (k : KindName) (a b : PlainEdge) (key : CacheKey) : Type 0 where
  pub number : key.op ≡ number_of o
  pub first : key.first ≡ edge_words a
  pub second : key.second ≡ edge_words b
  pub first_fits : FitsEdge k a
  pub second_fits : FitsEdge k b

-- or in the other
abbrev pub IsKeyOf : Operation → KindName → PlainEdge → PlainEdge → CacheKey → Type 0
IsKeyOf o k a b key = HasKey o k a b key ⊎ HasKey o k b a key

-- the value is the words of an edge that is the result of the key's operation on two good edges
pub record IsRight (k : KindName) (v : View) (key : CacheKey) (value : List ℕ) : Type 0 where
  pub operation : Operation
  pub first : PlainEdge
  pub second : PlainEdge
  pub result : PlainEdge
  pub has_key : HasKey operation k first second key
  pub words : value ≡ edge_words result
  pub fits : FitsEdge k result
  pub first_good : IsEdge k v first
  pub second_good : IsEdge k v second
  pub is_result : IsResult operation k v first second result

-- the edge is the result of each operation whose key it is
abbrev pub IsFound : KindName → View → CacheKey → PlainEdge → Type 0
IsFound k v key r = (o : Operation) (a b : PlainEdge) → IsKeyOf o k a b key → IsResult o k v a b r

-- the edge is the result of an operation on two good edges, whose key it is
pub record IsKept (k : KindName) (v : View) (key : CacheKey) (r : PlainEdge) : Type 0 where
  pub operation : Operation
  pub first : PlainEdge
  pub second : PlainEdge
  pub is_key : IsKeyOf operation k first second key
  pub first_good : IsEdge k v first
  pub second_good : IsEdge k v second
  pub is_result : IsResult operation k v first second r

-- all that the cache holds is right
abbrev pub AreRight : KindName → View → Places → Type 0
AreRight k v cache = (key : CacheKey) (value : List ℕ) → Holds cache key value → IsRight k v key value

-- 2 + 3, and 2 * 3
two_and_three : op_of Sum (entry (pos 2)) (entry (pos 3)) ≡ entry (pos 5)
two_and_three = refl

two_by_three : op_of Product (entry (pos 2)) (entry (pos 3)) ≡ entry (pos 6)
two_by_three = refl
