-- What the calls of a builder ask, and what they answer.
use Rattle.std.specs.Prelude.{◌≡◌, ◌≢◌, ℕ, ◌+◌, ◌<◌, ◌≤◌, ℤ, pos, negsuc, false, List, [], ◌∷◌, drop, length, min, Some, Result, Ok, Err, MatchResult, refl}
use Rattle.word_base.specs.declared.decomp.Decomp.{Decomp}
use Rattle.word_base.specs.declared.decomp.Decomp.TheVariants.{S, P, N}
use Rattle.word_base.specs.declared.kind_name.KindName.{KindName}
use Rattle.word_base.specs.declared.kind_name.KindName.TheVariants.{Evbdd, Hdd}
use Rattle.word_base.specs.declared.weight.Overflow.{Overflow}
use Rattle.tables.specs.Fits.{fits}
use Rattle.tables.specs.Table.{Table, entry, IsOver, part0, part1, merged, variable_table}
use Rattle.tables.specs.Pieces.{Piece, pieces, SomeUnfit, join_work}
use Rattle.record_store.specs.StoreView.{StoreView, find_in}
use Rattle.record_store.specs.Interns.{Interns}
use Rattle.record_store.specs.declared.store.StoreFull.{StoreFull}
use Rattle.kind_laws.specs.Body.{Reads}
use Rattle.kind_laws.specs.Kind.{IsNodeBody, HasParts}
use Rattle.kind_laws.specs.Plain.{PlainEdge, plain, plain_edge, constant_edge}
use Rattle.diagram.specs.declared.parts.Parts.{Parts}
use Rattle.diagram.specs.declared.split.Split.{Split}
use Rattle.diagram.specs.declared.limit.Limit.{Limit}
use Rattle.diagram.specs.declared.limit.Limit.TheVariants as limit
use Rattle.diagram.specs.View.{View, letter_at, StandsAt, IsEdge, top_of, IsGood}
use Rattle.diagram.specs.Answers.{Answers}

-- a good edge that has its node at the level or below it
pub record CanPart (k : KindName) (v : View) (level : ℕ) (e : PlainEdge) : Type 0 where
  pub good : IsEdge k v e
  pub below : level < length v.letters
  pub not_above : level ≤ top_of v e.node

-- the high part of an edge at a level above its node
abbrev pub skipped_high : KindName → Decomp → PlainEdge → PlainEdge
skipped_high k S e = e
skipped_high k P e = constant_edge k (pos 0)
skipped_high k N e = constant_edge k (pos 0)

-- two edges are the low and the high part of an edge at a level, or the table that the edge stands for there does not fit
abbrev pub ArePartsOf : KindName → View → ℕ → PlainEdge → Result (PlainEdge × PlainEdge) Overflow → Type 0
ArePartsOf k v level e result = (t : Table) → StandsAt k v level t e →
    MatchResult result
    (λ p. StandsAt k v (level + 1) (part0 (letter_at v.letters level) t) p.0 × StandsAt k v (level + 1) (part1 (letter_at v.letters level) t) p.1)
    (λ _. fits k (drop level v.letters) t ≡ false)

-- two good edges that lie below a level
pub record CanJoin (k : KindName) (v : View) (level : ℕ) (low high : PlainEdge) : Type 0 where
  pub below : level < length v.letters
  pub low_good : IsEdge k v low
  pub high_good : IsEdge k v high
  pub low_below : level < top_of v low.node
  pub high_below : level < top_of v high.node

-- the join of two edges has their tables as its parts
abbrev pub IsJoin : KindName → View → View → ℕ → PlainEdge → PlainEdge → Result PlainEdge Limit → Type 0
IsJoin k old new level low high result = (p q : Table) → StandsAt k old (level + 1) p low → StandsAt k old (level + 1) q high →
    Answers k old new (join_work (letter_at old.letters level) level p q) level (merged (letter_at old.letters level) p q) result

-- A call on an edge, at each level from which the edge stands for a table: its work and its answer are by the level and
-- that table
abbrev pub IsOfEach : (Table → Table) → (ℕ → Table → List Piece) → KindName → View → View → PlainEdge → Result PlainEdge Limit → Type 0
IsOfEach op work k old new a result = (l : ℕ) (t : Table) → StandsAt k old l t a → Answers k old new (work l t) l (op t) result

-- the same of a call on two edges
abbrev pub IsOfBoth : (Table → Table → Table) → (ℕ → Table → Table → List Piece) → KindName → View → View → PlainEdge → PlainEdge →
    Result PlainEdge Limit → Type 0
IsOfBoth op work k old new a b result = (l : ℕ) (t u : Table) → StandsAt k old l t a → StandsAt k old l u b →
    Answers k old new (work l t u) l (op t u) result

-- whatever the store makes of the body, the builder stays good
abbrev pub KeepsGood : KindName → View → List ℕ → Type 0
KeepsGood k v body = (store : StoreView) (result : Result ℕ StoreFull) → Interns v.store store body result →
    IsGood k (record { store = store; letters = v.letters })

-- a good edge that lies below a level
pub record LiesBelow (k : KindName) (v : View) (level : ℕ) (e : PlainEdge) : Type 0 where
  pub good : IsEdge k v e
  pub below : level < top_of v e.node

-- the low parts of two edges, and the high parts
pub record PlainParts : Type 0 where
  pub low : PlainEdge × PlainEdge
  pub high : PlainEdge × PlainEdge

abbrev pub plain_parts : {K X E : Type 0} → (X → ℤ) → Parts K X E → PlainParts
plain_parts of p = record { low = (plain of p.low.0, plain of p.low.1); high = (plain of p.high.0, plain of p.high.1) }

pub record LieBelow (k : KindName) (v : View) (level : ℕ) (parts : PlainParts) : Type 0 where
  pub within : level < length v.letters
  pub first_low : LiesBelow k v level parts.low.0
  pub second_low : LiesBelow k v level parts.low.1
  pub first_high : LiesBelow k v level parts.high.0
  pub second_high : LiesBelow k v level parts.high.1

-- two tables over the levels from a level on, whose parts there the edges stand for
pub record StandForParts (k : KindName) (v : View) (level : ℕ) (t u : Table) (parts : PlainParts) : Type 0 where
  pub first_over : IsOver (length (drop level v.letters)) t
  pub second_over : IsOver (length (drop level v.letters)) u
  pub first_low : StandsAt k v (level + 1) (part0 (letter_at v.letters level) t) parts.low.0
  pub second_low : StandsAt k v (level + 1) (part0 (letter_at v.letters level) u) parts.low.1
  pub first_high : StandsAt k v (level + 1) (part1 (letter_at v.letters level) t) parts.high.0
  pub second_high : StandsAt k v (level + 1) (part1 (letter_at v.letters level) u) parts.high.1

-- the parts of two edges at a level, or one of their tables does not fit
abbrev pub ArePartsOfBoth : KindName → View → ℕ → PlainEdge → PlainEdge → Result PlainParts Overflow → Type 0
ArePartsOfBoth k v level a b result = (t u : Table) → StandsAt k v level t a → StandsAt k v level u b →
    MatchResult result (λ parts. StandForParts k v level t u parts) (λ _. SomeUnfit k v.letters (pieces level (t ∷ u ∷ [])))

-- what an operation makes of the parts of two edges
abbrev pub IsOfParts : (Table → Table → Table) → (ℕ → Table → Table → List Piece) → KindName → View → View → ℕ → PlainParts → Result PlainEdge Limit → Type 0
IsOfParts op work k old new level parts result = (t u : Table) → StandForParts k old level t u parts →
    Answers k old new (work level t u) level (op t u) result

-- the edge of a constant, where the sum or product that makes it is a weight
abbrev pub IsConstantOf : KindName → Result ℤ Overflow → Result PlainEdge Limit → Type 0
IsConstantOf k value result = MatchResult value (λ w. result ≡ Ok (constant_edge k w)) (λ _. result ≡ Err limit.Overflow)

-- the numbers of a variable's low and high part at its level
abbrev pub variable_low : Decomp → ℤ
variable_low S = pos 0
variable_low P = pos 0
variable_low N = pos 1

abbrev pub variable_high : Decomp → ℤ
variable_high S = pos 1
variable_high P = pos 1
variable_high N = negsuc 0

-- the edge of a level's variable
abbrev pub IsVariable : KindName → View → View → ℕ → Result PlainEdge Limit → Type 0
IsVariable k old new level result =
    let t = variable_table (length old.letters) level in Answers k old new (pieces 0 (t ∷ [])) 0 t result

-- the low and the high part of an edge lie below a level
pub record PartLiesBelow (k : KindName) (v : View) (level : ℕ) (low high : PlainEdge) : Type 0 where
  pub within : level < length v.letters
  pub low_lies : LiesBelow k v level low
  pub high_lies : LiesBelow k v level high

-- a table over the levels from a level on, whose parts there the two edges stand for
pub record StandForPart (k : KindName) (v : View) (level : ℕ) (t : Table) (low high : PlainEdge) : Type 0 where
  pub over : IsOver (length (drop level v.letters)) t
  pub low_stands : StandsAt k v (level + 1) (part0 (letter_at v.letters level) t) low
  pub high_stands : StandsAt k v (level + 1) (part1 (letter_at v.letters level) t) high

-- what an operation makes of the parts of an edge
abbrev pub IsOfPart : (Table → Table) → (ℕ → Table → List Piece) → KindName → View → View → ℕ → PlainEdge → PlainEdge → Result PlainEdge Limit → Type 0
IsOfPart op work k old new level low high result = (t : Table) → StandForPart k old level t low high →
    Answers k old new (work level t) level (op t) result

-- ---- each node read once
-- the level and the body of the node that an edge leads to; the leaf's level is the number of levels, and it has no body
pub record LeadsTo (k : KindName) (v : View) (e : PlainEdge) (level : ℕ) (body : List ℕ) : Type 0 where
  pub level_is : level ≡ top_of v e.node
  pub known : e.node ≢ 0 → find_in v.store e.node ≡ Some body
  pub is_body : e.node ≢ 0 → IsNodeBody k body

-- two edges are the low and the high part of an edge at a level with the letter, by the level and the body of its node
pub record ArePartsBy (k : KindName) (d : Decomp) (l : ℕ) (e : PlainEdge) (level : ℕ) (body : List ℕ) (result : Result (PlainEdge × PlainEdge) Overflow) : Type 0 where
  pub here : level ≡ l → Reads body (λ f. HasParts k d e.root f result)
  pub above : level ≢ l → result ≡ Ok (e, skipped_high k d e)

-- the level of an edge's node and the parts of the edge there, or a table that does not fit
abbrev pub SplitsOne : KindName → View → PlainEdge → Result (ℕ × PlainEdge × PlainEdge) Overflow → Type 0
SplitsOne k v e result =
    MatchResult result
    (λ s. (s.0 ≡ top_of v e.node) × ArePartsOf k v (top_of v e.node) e (Ok (s.1, s.2)))
    (λ o. ArePartsOf k v (top_of v e.node) e (Err o))

-- a level, and the parts of two edges there
pub record PlainSplit : Type 0 where
  pub level : ℕ
  pub parts : PlainParts

abbrev pub plain_split : {K X E : Type 0} → (X → ℤ) → Split K X E → PlainSplit
plain_split of s = record { level = s.level; parts = plain_parts of s.parts }

-- the level of the upper of two edges' nodes
abbrev pub upper : View → PlainEdge → PlainEdge → ℕ
upper v a b = min (top_of v a.node) (top_of v b.node)

-- the level of the upper node of two edges and the parts of both there, or one of their tables does not fit
abbrev pub Splits : KindName → View → PlainEdge → PlainEdge → Result PlainSplit Overflow → Type 0
Splits k v a b result =
    MatchResult result
    (λ s. (s.level ≡ upper v a b) × ArePartsOfBoth k v (upper v a b) a b (Ok s.parts))
    (λ o. ArePartsOfBoth k v (upper v a b) a b (Err o))

-- ---- examples

variable-shannon : merged S (entry (variable_low S)) (entry (variable_high S)) ≡ variable_table 1 0
variable-shannon = refl

variable-positive : merged P (entry (variable_low P)) (entry (variable_high P)) ≡ variable_table 1 0
variable-positive = refl

variable-negative : merged N (entry (variable_low N)) (entry (variable_high N)) ≡ variable_table 1 0
variable-negative = refl

skipped-shannon : skipped_high Evbdd S (plain_edge (pos 3) (pos 0) 7) ≡ plain_edge (pos 3) (pos 0) 7
skipped-shannon = refl

skipped-davio : skipped_high Hdd N (plain_edge (pos 0) (pos 0) 7) ≡ plain_edge (pos 0) (pos 0) 0
skipped-davio = refl
