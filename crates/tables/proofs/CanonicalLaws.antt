-- Canonical diagrams of any kind: of constants, of tables with given parts, of tables that a level does not split, and
-- the parts of a canonical diagram.
use Rattle.std.proofs.Common.{◌≡◌, refl, sym, ◌∙◌, ap, subst, ℕ, zero, suc, ◌+◌, ℤ, pos, List, [], ◌∷◌, true, length}
use Rattle.std.proofs.lemmas.Bool.{and_parts}
use Rattle.word_base.specs.Kind.{is_allowed}
use Rattle.word_base.specs.declared.decomp.Decomp.{Decomp}
use Rattle.word_base.specs.declared.decomp.Decomp.TheVariants.{S, P, N}
use Rattle.word_base.specs.declared.kind_name.KindName.{KindName}
use Rattle.word_base.specs.declared.kind_name.KindName.TheVariants.{Evbdd, StarBmd, Hdd, KStarBmd}
use Rattle.tables.specs.Table.{Table, halves, IsOver, part0, part1, merged, minus, constant_table}
use Rattle.tables.specs.Tree.{constant, tjoin}
use Rattle.tables.specs.Parts.{low_part, high_part}
use Rattle.tables.specs.Meaning.{table}
use Rattle.tables.specs.Canonical.{canonical}
use Rattle.tables.specs.Laws.{are_allowed, AreJoinable, IsSkip}
use Rattle.tables.proofs.EdgeValued.{edge_valued_rule}
use Rattle.tables.proofs.Hybrid.{hybrid_rule}
use Rattle.tables.proofs.Kronecker.{kronecker_rule}
use Rattle.tables.proofs.Moment.{moment_rule}
use Rattle.tables.proofs.KindLaws.{HasRule, canonical-over, canonical_stands, parts_undo_join, joins_skip}
use Rattle.tables.proofs.TableLaws.{minus-self, part0-merged, part1-merged, IsOver-merged, IsOver-part0, IsOver-part1}

pub rule_of : (k : KindName) → HasRule k
rule_of Evbdd = edge_valued_rule
rule_of StarBmd = moment_rule
rule_of Hdd = hybrid_rule
rule_of KStarBmd = kronecker_rule

pub allowed_below : (k : KindName) (d : Decomp) (ds : List Decomp) → are_allowed k (d ∷ ds) ≡ true → are_allowed k ds ≡ true
allowed_below k d ds allowed = (and_parts (is_allowed k d) (are_allowed k ds) allowed).1

-- the canonical diagrams of the parts can be joined
pub parts_joinable : (k : KindName) (d : Decomp) (ds : List Decomp) (l : ℕ) (p q : Table) → are_allowed k (d ∷ ds) ≡ true →
    IsOver (length ds) p → IsOver (length ds) q → AreJoinable k d ds l (canonical k ds (l + 1) p) (canonical k ds (l + 1) q)
parts_joinable k d ds l p q allowed o r =
    let below = allowed_below k d ds allowed in
    record {
      allowed = allowed;
      low_canonical = (canonical_stands k (rule_of k) ds (l + 1) p below o).0;
      high_canonical = (canonical_stands k (rule_of k) ds (l + 1) q below r).0;
    }

-- the table of a canonical diagram
pub table-canonical : (k : KindName) (ds : List Decomp) (l : ℕ) (t : Table) → are_allowed k ds ≡ true → IsOver (length ds) t → table k ds l (canonical k ds l t) ≡ t
table-canonical k ds l t allowed o = (canonical_stands k (rule_of k) ds l t allowed o).1

-- tables with one canonical diagram are equal
pub canonical_tells : (k : KindName) (ds : List Decomp) (l : ℕ) (t u : Table) → are_allowed k ds ≡ true →
    IsOver (length ds) t → IsOver (length ds) u → canonical k ds l t ≡ canonical k ds l u → t ≡ u
canonical_tells k ds l t u allowed o r e =
    sym (table-canonical k ds l t allowed o) ∙ ap (table k ds l) e ∙ table-canonical k ds l u allowed r

pub canonical-merged : (k : KindName) (d : Decomp) (ds : List Decomp) (l : ℕ) (p q : Table) → IsOver (length ds) p → IsOver (length ds) q →
    canonical k (d ∷ ds) l (merged d p q) ≡ tjoin k d l (canonical k ds (l + 1) p) (canonical k ds (l + 1) q)
canonical-merged k d ds l p q o r =
    canonical-over k d ds l (length ds) (merged d p q) (IsOver-merged (length ds) d p q o r)
    ∙ ap (λ (t : Table). tjoin k d l (canonical k ds (l + 1) t) (canonical k ds (l + 1) (part1 d (merged d p q)))) (part0-merged d p q)
    ∙ ap (λ (t : Table). tjoin k d l (canonical k ds (l + 1) p) (canonical k ds (l + 1) t)) (part1-merged (length ds) d p q o r)

-- the parts of a table's canonical diagram are those of its parts
pub parts-canonical : (k : KindName) (d : Decomp) (ds : List Decomp) (l : ℕ) (t : Table) → are_allowed k (d ∷ ds) ≡ true → IsOver (suc (length ds)) t →
    (low_part k l (canonical k (d ∷ ds) l t) ≡ canonical k ds (l + 1) (part0 d t))
    × (high_part k d l (canonical k (d ∷ ds) l t) ≡ canonical k ds (l + 1) (part1 d t))
parts-canonical k d ds l t allowed o =
    let j = parts_joinable k d ds l (part0 d t) (part1 d t) allowed (IsOver-part0 (length ds) d t o) (IsOver-part1 (length ds) d t o) in
    let undone = parts_undo_join k (rule_of k) d ds l _ _ j in
    let is = canonical-over k d ds l (length ds) t o in
    (ap (low_part k l) is ∙ undone.0, ap (high_part k d l) is ∙ undone.1)

-- ---- constants, and tables that a level does not split
pub IsOver-constant : (n : ℕ) (c : ℤ) → IsOver n (constant_table n c)
IsOver-constant zero c = tt
IsOver-constant (suc n) c = (IsOver-constant n c, IsOver-constant n c)

-- the high part of a table with two equal halves
abbrev high_of_twice : Decomp → Table → Table
high_of_twice S t = t
high_of_twice P t = minus t t
high_of_twice N t = minus t t

twice-is_merged : (k : KindName) (d : Decomp) (ds : List Decomp) (l : ℕ) (t : Table) →
    canonical k (d ∷ ds) l (halves t t) ≡ tjoin k d l (canonical k ds (l + 1) t) (canonical k ds (l + 1) (high_of_twice d t))
twice-is_merged k S ds l t = refl
twice-is_merged k P ds l t = refl
twice-is_merged k N ds l t = refl

IsOver-high_of_twice : (d : Decomp) (n : ℕ) (t : Table) → IsOver n t → IsOver n (high_of_twice d t)
IsOver-high_of_twice S n t o = o
IsOver-high_of_twice P n t o = subst (IsOver n) (sym (minus-self n t o)) (IsOver-constant n (pos 0))
IsOver-high_of_twice N n t o = subst (IsOver n) (sym (minus-self n t o)) (IsOver-constant n (pos 0))

IsZeroBelow : (k : KindName) (ds : List Decomp) (l : ℕ) → Type 0
IsZeroBelow k ds l = canonical k ds l (constant_table (length ds) (pos 0)) ≡ constant k (pos 0)

high_is_skip : (k : KindName) (d : Decomp) (ds : List Decomp) (l : ℕ) (t : Table) → IsOver (length ds) t →
    IsZeroBelow k ds l → IsSkip k d (canonical k ds l t) (canonical k ds l (high_of_twice d t))
unfolding IsZeroBelow
high_is_skip k S ds l t o zero_below = refl
high_is_skip k P ds l t o zero_below = ap (canonical k ds l) (minus-self (length ds) t o) ∙ zero_below
high_is_skip k N ds l t o zero_below = ap (canonical k ds l) (minus-self (length ds) t o) ∙ zero_below

twice_given : (k : KindName) (d : Decomp) (ds : List Decomp) (l : ℕ) (t : Table) → are_allowed k (d ∷ ds) ≡ true → IsOver (length ds) t →
    IsZeroBelow k ds (l + 1) → canonical k (d ∷ ds) l (halves t t) ≡ canonical k ds (l + 1) t
twice_given k d ds l t allowed o zero_below =
    twice-is_merged k d ds l t
    ∙ (joins_skip k (rule_of k) d ds l _ _ (parts_joinable k d ds l t (high_of_twice d t) allowed o (IsOver-high_of_twice d (length ds) t o))).1
    (high_is_skip k d ds (l + 1) t o zero_below)

pub canonical-constant : (k : KindName) (ds : List Decomp) (l : ℕ) (c : ℤ) → are_allowed k ds ≡ true → canonical k ds l (constant_table (length ds) c) ≡ constant k c
unfolding IsZeroBelow
canonical-constant k [] l c allowed = refl
canonical-constant k (d ∷ ds) l c allowed =
    let below = allowed_below k d ds allowed in
    twice_given k d ds l (constant_table (length ds) c) allowed (IsOver-constant (length ds) c) (canonical-constant k ds (l + 1) (pos 0) below)
    ∙ canonical-constant k ds (l + 1) c below

-- where both halves are one table, the level has no node
pub canonical-twice : (k : KindName) (d : Decomp) (ds : List Decomp) (l : ℕ) (t : Table) → are_allowed k (d ∷ ds) ≡ true → IsOver (length ds) t →
    canonical k (d ∷ ds) l (halves t t) ≡ canonical k ds (l + 1) t
unfolding IsZeroBelow
canonical-twice k d ds l t allowed o =
    twice_given k d ds l t allowed o (canonical-constant k ds (l + 1) (pos 0) (allowed_below k d ds allowed))
