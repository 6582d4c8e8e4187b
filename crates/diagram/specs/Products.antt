-- What the steps of a product answer.
use Rattle.std.specs.Prelude.{◌≡◌, ℕ, ℤ, pos, negsuc, List, drop, refl}
use Rattle.word_base.specs.declared.decomp.Decomp.{Decomp}
use Rattle.word_base.specs.declared.decomp.Decomp.TheVariants.{P, N}
use Rattle.word_base.specs.declared.kind_name.KindName.{KindName}
use Rattle.tables.specs.Table.{Table, entry, halves, plus, times, part0, part1, merged}
use Rattle.tables.specs.Pieces.{Piece, mul_work}
use Rattle.kind_laws.specs.Plain.{PlainEdge, constant_edge}

-- the work of a product at a level, by the letters from there on
abbrev pub product_work : List Decomp → ℕ → Table → Table → List Piece
product_work ds l = mul_work (drop l ds) l

-- the two products of a low and a high part: A0*B1 + A1*B0
abbrev pub mixed_products : Decomp → Table → Table → Table
mixed_products d t u = plus (times (part0 d t) (part1 d u)) (times (part1 d t) (part0 d u))

-- the high part of a product at Davio: A0*B1 + A1*B0 + A1*B1
abbrev pub high_products : Decomp → Table → Table → Table
high_products d t u = plus (mixed_products d t u) (times (part1 d t) (part1 d u))

-- two edges of which none is the constant 0
pub record AreSome (k : KindName) (a b : PlainEdge) : Type 0 where
  pub first : a ≡ constant_edge k (pos 0) → ⊥
  pub second : b ≡ constant_edge k (pos 0) → ⊥

-- ---- examples
abbrev two : ℤ → ℤ → Table
two x y = halves (entry x) (entry y)

-- 3 and 5 times 7 and 2, by the parts 3 and 2 and the parts 7 and -5, and by 5 and -2 and 2 and 5
products-positive : merged P (entry (pos 21)) (high_products P (two (pos 3) (pos 5)) (two (pos 7) (pos 2))) ≡ two (pos 21) (pos 10)
products-positive = refl

products-negative : merged N (entry (pos 10)) (high_products N (two (pos 3) (pos 5)) (two (pos 7) (pos 2))) ≡ two (pos 21) (pos 10)
products-negative = refl

mixed-positive : mixed_products P (two (pos 3) (pos 5)) (two (pos 7) (pos 2)) ≡ entry (negsuc 0)
mixed-positive = refl
