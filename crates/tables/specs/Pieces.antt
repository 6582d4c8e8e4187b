-- The tables that the operations on diagrams go through. They serve to say which nodes an operation may make, and when it
-- may meet a limit.
use Rattle.std.specs.Prelude.{◌≡◌, ℕ, ◌+◌, ℤ, pos, negsuc, false, List, [], ◌∷◌, ◌++◌, drop, map, refl}
use Rattle.std.specs.List.{Contains}
use Rattle.word_base.specs.declared.decomp.Decomp.{Decomp}
use Rattle.word_base.specs.declared.decomp.Decomp.TheVariants.{S, P}
use Rattle.word_base.specs.declared.kind_name.KindName.{KindName}
use Rattle.tables.specs.Table.{Table, entry, halves, each, plus, minus, times, opposite, multiple, part0, part1, merged}
use Rattle.tables.specs.Tree.{Shape}
use Rattle.tables.specs.Canonical.{canonical, IsNodeOf}
use Rattle.tables.specs.Fits.{fits}

-- a table over the levels from its own on
pub record Piece : Type 0 where
  pub level : ℕ
  pub table : Table

abbrev pub pieces : ℕ → List Table → List Piece
pieces l = map (λ t. record { level = l; table = t })

-- the shape is a node of the canonical diagram of some piece's table
abbrev pub InNodes : KindName → List Decomp → List Piece → Shape → Type 0
InNodes k ds ps s = (p : Piece) × Contains ps p × IsNodeOf s (canonical k (drop p.level ds) p.level p.table).shape

-- some piece's table does not fit
abbrev pub SomeUnfit : KindName → List Decomp → List Piece → Type 0
SomeUnfit k ds ps = (p : Piece) × Contains ps p × (fits k (drop p.level ds) p.table ≡ false)

-- the table of a constant over the levels of another
abbrev pub like : Table → ℤ → Table
like t c = each (λ x. c) t

-- ---- joins

-- the two operands below the level, and the table that has them as its parts
abbrev pub join_work : Decomp → ℕ → Table → Table → List Piece
join_work d l p q = pieces (l + 1) (p ∷ q ∷ []) ++ pieces l (merged d p q ∷ [])

-- ---- sums
abbrev pub add_work : ℕ → Table → Table → List Piece
add_work l a b = pieces l (a ∷ b ∷ plus a b ∷ [])

abbrev pub sub_work : ℕ → Table → Table → List Piece
sub_work l a b = pieces l (a ∷ b ∷ opposite b ∷ minus a b ∷ [])

abbrev pub neg_work : ℕ → Table → List Piece
neg_work l a = pieces l (a ∷ opposite a ∷ [])

abbrev pub scale_work : ℤ → ℕ → Table → List Piece
scale_work c l a = pieces l (a ∷ multiple c a ∷ [])

-- ---- products
-- the cross terms of a product at a Davio decomposition: A0*B1 + A1*B0, and A1*B1 more
abbrev pub crossed : ℕ → Table → Table → Table → Table → List Piece
crossed l a0 a1 b0 b1 =
    let cross = plus (times a0 b1) (times a1 b0) in pieces l (cross ∷ plus cross (times a1 b1) ∷ [])

-- the products of parts of parts that a product goes through, by the letters from its level on
abbrev pub inner : List Decomp → ℕ → Table → Table → List Piece
inner [] l a b = pieces l (times a b ∷ [])
inner (S ∷ ds) l a b =
    pieces l (times a b ∷ []) ++ inner ds (l + 1) (part0 S a) (part0 S b) ++ inner ds (l + 1) (part1 S a) (part1 S b)
inner (d ∷ ds) l a b =
    let a0 = part0 d a in
    let a1 = part1 d a in
    let b0 = part0 d b in
    let b1 = part1 d b in
    pieces l (times a b ∷ []) ++ inner ds (l + 1) a0 b0 ++ inner ds (l + 1) a0 b1 ++ inner ds (l + 1) a1 b0
    ++ inner ds (l + 1) a1 b1 ++ crossed (l + 1) a0 a1 b0 b1

abbrev pub mul_work : List Decomp → ℕ → Table → Table → List Piece
mul_work ds l a b = pieces l (a ∷ b ∷ []) ++ inner ds l a b

-- ---- examples
abbrev two : ℤ → ℤ → Table
two x y = halves (entry x) (entry y)

-- the constants 0 and 1 join to the variable of level 3
join-variable : join_work P 3 (entry (pos 0)) (entry (pos 1))
    ≡ pieces 4 (entry (pos 0) ∷ entry (pos 1) ∷ []) ++ pieces 3 (two (pos 0) (pos 1) ∷ [])
join-variable = refl

add-numbers : add_work 3 (entry (pos 4)) (entry (pos 6)) ≡ pieces 3 (entry (pos 4) ∷ entry (pos 6) ∷ entry (pos 10) ∷ [])
add-numbers = refl

sub-numbers : sub_work 3 (entry (pos 4)) (entry (pos 6)) ≡ pieces 3 (entry (pos 4) ∷ entry (pos 6) ∷ entry (negsuc 5) ∷ entry (negsuc 1) ∷ [])
sub-numbers = refl

neg-numbers : neg_work 3 (entry (pos 4)) ≡ pieces 3 (entry (pos 4) ∷ entry (negsuc 3) ∷ [])
neg-numbers = refl

scale-numbers : scale_work (pos 3) 3 (two (pos 4) (pos 6)) ≡ pieces 3 (two (pos 4) (pos 6) ∷ two (pos 12) (pos 18) ∷ [])
scale-numbers = refl

like-numbers : like (two (pos 4) (pos 6)) (pos 1) ≡ two (pos 1) (pos 1)
like-numbers = refl

-- the square of a variable at Shannon goes through the squares of 0 and of 1
mul-shannon : mul_work (S ∷ []) 0 (two (pos 0) (pos 1)) (two (pos 0) (pos 1))
    ≡ pieces 0 (two (pos 0) (pos 1) ∷ two (pos 0) (pos 1) ∷ two (pos 0) (pos 1) ∷ []) ++ pieces 1 (entry (pos 0) ∷ entry (pos 1) ∷ [])
mul-shannon = refl

-- at positive Davio through the four products of 0 and 1, their cross terms' sum and the whole high part
mul-davio : mul_work (P ∷ []) 0 (two (pos 0) (pos 1)) (two (pos 0) (pos 1))
    ≡ pieces 0 (two (pos 0) (pos 1) ∷ two (pos 0) (pos 1) ∷ two (pos 0) (pos 1) ∷ [])
    ++ pieces 1 (entry (pos 0) ∷ entry (pos 0) ∷ entry (pos 0) ∷ entry (pos 1) ∷ entry (pos 0) ∷ entry (pos 1) ∷ [])
mul-davio = refl
