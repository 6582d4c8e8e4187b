-- The laws of every kind, from the few facts that a kind proves of its own joining rule.
use Rattle.std.proofs.Common.{◌≡◌, refl, sym, ◌∙◌, ap, subst, ℕ, suc, ◌+◌, ℤ, pos, ◌*ℤ◌, List, [], ◌∷◌, Bool, true, false, length, arith}
use Rattle.std.specs.Prelude.{if◌then◌else◌}
use Rattle.std.proofs.lemmas.Bool.{and_parts, eq-eqb}
use Rattle.std.proofs.lemmas.Int.{ints}
use Rattle.std.proofs.Math.IntN.{one, *ℤ-one}
use Rattle.word_base.specs.Kind.{is_allowed}
use Rattle.word_base.specs.declared.decomp.Decomp.{Decomp}
use Rattle.word_base.specs.declared.decomp.Decomp.TheVariants.{S, P, N}
use Rattle.word_base.specs.declared.kind_name.KindName.{KindName}
use Rattle.word_base.specs.declared.kind_name.KindName.TheVariants.{Evbdd, StarBmd, Hdd, KStarBmd}
use Rattle.tables.specs.Table.{Table, entry, halves, IsOver, each, part0, part1, merged, constant_table}
use Rattle.tables.specs.Tree.{Weights, Shape, leaf, node, Tree, tree, constant, skips, node_join, tjoin}
use Rattle.tables.specs.Parts.{low_edge, high_edge, low_of, high_of, low_part, high_part, high_below}
use Rattle.tables.specs.Meaning.{weighed, leaf_value, shape_table, table}
use Rattle.tables.specs.Canonical.{canonical, IsCanonical}
use Rattle.tables.specs.Laws.{are_allowed, ConstantsStand, ConstantsDiffer, LeavesAreConstants, AreJoinable, JoinHasParts, PartsUndoJoin, IsSkip, JoinsSkip, HasCanonicalParts, PartsAreCanonical, JoinOfParts, CanonicalTreesAgree, JoinsAreCanonical, CanonicalStands}
use Rattle.tables.proofs.TableLaws.{both_halves, each-constant_table, minus-self, part0-merged, part1-merged, IsOver-part0, IsOver-part1, same_parts}
use Rattle.tables.proofs.TreeLaws.{chosen, is_at, is_at-node_join, above_levels, IsOver-table, table-above}

-- What a kind proves of its own joining rule
pub record HasRule (k : KindName) : Type 0 where
  pub skip_tells : (d : Decomp) (ds : List Decomp) (l : ℕ) (low high : Tree) → AreJoinable k d ds l low high → skips k d low high ≡ true → IsSkip k d low high
  pub skip_told : (d : Decomp) (ds : List Decomp) (l : ℕ) (low high : Tree) → AreJoinable k d ds l low high → IsSkip k d low high → skips k d low high ≡ true
  pub node_table : (d : Decomp) (ds : List Decomp) (l : ℕ) (low high : Tree) → AreJoinable k d ds l low high → skips k d low high ≡ false →
      table k (d ∷ ds) l (node_join k d l low high) ≡ merged d (table k ds (l + 1) low) (table k ds (l + 1) high)
  pub node_parts : (d : Decomp) (ds : List Decomp) (l : ℕ) (low high : Tree) → AreJoinable k d ds l low high → skips k d low high ≡ false →
      (low_part k l (node_join k d l low high) ≡ low) × (high_part k d l (node_join k d l low high) ≡ high)

-- ---- edges that have no node at the level
low_of-above : (k : KindName) (l : ℕ) (w : Weights) (s : Shape) → is_at l s ≡ false → low_of k l w s ≡ record { root = w; shape = s }
low_of-above k l w leaf h = refl
low_of-above k l w (node n a s b r) h = rw h

high_of-above : (k : KindName) (d : Decomp) (l : ℕ) (w : Weights) (s : Shape) → is_at l s ≡ false → high_of k d l w s ≡ high_below k d (record { root = w; shape = s })
high_of-above k d l w leaf h = refl
high_of-above k d l w (node n a s b r) h = rw h

low_part-above : (k : KindName) (l : ℕ) (t : Tree) → is_at l t.shape ≡ false → low_part k l t ≡ t
low_part-above k l t h = low_of-above k l t.root t.shape h

high_part-above : (k : KindName) (d : Decomp) (l : ℕ) (t : Tree) → is_at l t.shape ≡ false → high_part k d l t ≡ high_below k d t
high_part-above k d l t h = high_of-above k d l t.root t.shape h

-- ---- edges to a node of the level
pub low_part-at : (k : KindName) (l : ℕ) (w a b : Weights) (s r : Shape) → low_of k l w (node l a s b r) ≡ low_edge k w a s
low_part-at k l w a b s r = rw (eq-eqb l l refl)

pub high_part-at : (k : KindName) (d : Decomp) (l : ℕ) (w a b : Weights) (s r : Shape) → high_of k d l w (node l a s b r) ≡ high_edge k d w b r
high_part-at k d l w a b s r = rw (eq-eqb l l refl)

pub part0-twice : (d : Decomp) (t : Table) → part0 d (halves t t) ≡ t
part0-twice S t = refl
part0-twice P t = refl
part0-twice N t = refl

pub canonical-over : (k : KindName) (d : Decomp) (ds : List Decomp) (l n : ℕ) (t : Table) → IsOver (suc n) t →
    canonical k (d ∷ ds) l t ≡ tjoin k d l (canonical k ds (l + 1) (part0 d t)) (canonical k ds (l + 1) (part1 d t))
canonical-over k d ds l n (entry x) o = absurd o
canonical-over k d ds l n (halves lo hi) o = refl

pub constant-leaf : (k : KindName) (c : ℤ) → (constant k c).shape ≡ leaf
constant-leaf Evbdd c = refl
constant-leaf StarBmd c = refl
constant-leaf Hdd c = refl
constant-leaf KStarBmd c = refl

times-one : (c : ℤ) → c *ℤ pos 1 ≡ c
unfolding one
times-one c = *ℤ-one c

-- ---- constants
leaf_weighed : (k : KindName) (c : ℤ) → weighed k (constant k c).root (leaf_value k) ≡ c
leaf_weighed Evbdd c = omega (arith, ints)
leaf_weighed StarBmd c = times-one c
leaf_weighed Hdd c = omega (arith, ints)
leaf_weighed KStarBmd c = omega (arith, ints)

shape_table-leaf : (k : KindName) (ds : List Decomp) (l : ℕ) → shape_table k ds l leaf ≡ constant_table (length ds) (leaf_value k)
shape_table-leaf k [] l = refl
shape_table-leaf k (d ∷ ds) l = both_halves (shape_table-leaf k ds (l + 1)) (shape_table-leaf k ds (l + 1))

pub constants_stand : (k : KindName) → ConstantsStand k
constants_stand k ds l c =
    ap (λ (s : Shape). each (weighed k (constant k c).root) (shape_table k ds l s)) (constant-leaf k c)
    ∙ ap (each (weighed k (constant k c).root)) (shape_table-leaf k ds l)
    ∙ each-constant_table (weighed k (constant k c).root) (length ds) (leaf_value k)
    ∙ ap (constant_table (length ds)) (leaf_weighed k c)

pub constants_differ : (k : KindName) → ConstantsDiffer k
constants_differ Evbdd c e h = ap (λ (t : Tree). t.root.weight) h
constants_differ StarBmd c e h = ap (λ (t : Tree). t.root.weight) h
constants_differ Hdd c e h = ap (λ (t : Tree). t.root.weight) h
constants_differ KStarBmd c e h = ap (λ (t : Tree). t.root.extra) h

-- What the constants have, and each join that is no skip, every canonical tree has
pub by_joins : (k : KindName) (Has : Tree → Type 0) → ((c : ℤ) → Has (constant k c)) →
    ((d : Decomp) (ds : List Decomp) (l : ℕ) (low high : Tree) → AreJoinable k d ds l low high → Has low → Has high →
    skips k d low high ≡ false → Has (node_join k d l low high)) →
    (ds : List Decomp) (l : ℕ) (t : Tree) → are_allowed k ds ≡ true → IsCanonical k ds l t → Has t
by_joins k Has at_constant at_node [] l t allowed c = subst Has (sym c.1) (at_constant c.0)
by_joins k Has at_constant at_node (d ∷ ds) l t allowed c =
    let below = (and_parts (is_allowed k d) (are_allowed k ds) allowed).1 in
    let j : AreJoinable k d ds l c.0 c.1 = record { allowed = allowed; low_canonical = c.2; high_canonical = c.3 } in
    let low = by_joins k Has at_constant at_node ds (l + 1) c.0 below c.2 in
    let high = by_joins k Has at_constant at_node ds (l + 1) c.1 below c.3 in
    subst Has (sym c.4)
    (chosen Has (skips k d c.0 c.1) c.0 (node_join k d l c.0 c.1) (λ e. low) (at_node d ds l c.0 c.1 j low high))

-- only a K*BMD's edges have a second weight
abbrev pub has_extra : KindName → Bool
has_extra Evbdd = false
has_extra StarBmd = false
has_extra Hdd = false
has_extra KStarBmd = true

constant-no_extra : (k : KindName) (c : ℤ) → has_extra k ≡ false → (constant k c).root.extra ≡ pos 0
constant-no_extra Evbdd c h = refl
constant-no_extra StarBmd c h = refl
constant-no_extra Hdd c h = refl
constant-no_extra KStarBmd c h = cc

node_join-no_extra : (k : KindName) (d : Decomp) (l : ℕ) (low high : Tree) → has_extra k ≡ false → (node_join k d l low high).root.extra ≡ pos 0
node_join-no_extra Evbdd d l low high h = refl
node_join-no_extra StarBmd d l low high h = refl
node_join-no_extra Hdd d l low high h = refl
node_join-no_extra KStarBmd d l low high h = absurd (cc)

pub no_extra : (k : KindName) → has_extra k ≡ false → (ds : List Decomp) (l : ℕ) (t : Tree) → are_allowed k ds ≡ true → IsCanonical k ds l t → t.root.extra ≡ pos 0
no_extra k h = by_joins k (λ t. t.root.extra ≡ pos 0) (λ c. constant-no_extra k c h) (λ d ds l low high j p q s. node_join-no_extra k d l low high h)

pub canonical-no_extra : (k : KindName) → has_extra k ≡ false → (ds : List Decomp) (l : ℕ) (t : Table) → (canonical k ds l t).root.extra ≡ pos 0
canonical-no_extra k h ds l (entry x) = constant-no_extra k x h
canonical-no_extra k h [] l (halves lo hi) = constant-no_extra k (pos 0) h
canonical-no_extra k h (d ∷ ds) l (halves lo hi) =
    let low = canonical k ds (l + 1) (part0 d (halves lo hi)) in
    let high = canonical k ds (l + 1) (part1 d (halves lo hi)) in
    chosen (λ t. t.root.extra ≡ pos 0) (skips k d low high) low (node_join k d l low high)
    (λ s. canonical-no_extra k h ds (l + 1) (part0 d (halves lo hi))) (λ s. node_join-no_extra k d l low high h)

-- a tree from its two weights, however they are written
pub with_weights : (t : Tree) (w e : ℤ) → w ≡ t.root.weight → e ≡ t.root.extra → tree w e t.shape ≡ t
with_weights t w e p q = ap (λ (x : ℤ). tree x e t.shape) p ∙ ap (λ (y : ℤ). tree t.root.weight y t.shape) q

-- a tree with no node is a constant
pub leaves : (k : KindName) (ds : List Decomp) (l : ℕ) (t : Tree) → are_allowed k ds ≡ true → IsCanonical k ds l t → t.shape ≡ leaf → (c : ℤ) × (t ≡ constant k c)
leaves k ds l t = by_joins k (λ u. u.shape ≡ leaf → (c : ℤ) × (u ≡ constant k c)) (λ c e. (c, refl)) at_node ds l t
  where
    at_node : (d : Decomp) (ds : List Decomp) (l : ℕ) (low high : Tree) → AreJoinable k d ds l low high →
        (low.shape ≡ leaf → (c : ℤ) × (low ≡ constant k c)) → (high.shape ≡ leaf → (c : ℤ) × (high ≡ constant k c)) →
        skips k d low high ≡ false → (node_join k d l low high).shape ≡ leaf → (c : ℤ) × (node_join k d l low high ≡ constant k c)
    at_node d ds l low high j p q s e =
        let here : is_at l (node_join k d l low high).shape ≡ true = is_at-node_join k d l l low high ∙ eq-eqb l l refl in
        let there : is_at l (node_join k d l low high).shape ≡ false = ap (is_at l) e in
        absurd (cc)

pub leaves_are_constants : (k : KindName) → LeavesAreConstants k
leaves_are_constants k ds l t allowed c = (leaves k ds l t allowed c, λ e. ap (λ (u : Tree). u.shape) e.1 ∙ constant-leaf k e.0)

module _ (k : KindName) (rule : HasRule k) where
  -- ---- joins
  part1-twice : (d : Decomp) (ds : List Decomp) (l : ℕ) (low high : Tree) → IsSkip k d low high →
      part1 d (halves (table k ds (l + 1) low) (table k ds (l + 1) low)) ≡ table k ds (l + 1) high
  part1-twice S ds l low high e = ap (table k ds (l + 1)) e
  part1-twice P ds l low high e =
      minus-self (length ds) (table k ds (l + 1) low) (IsOver-table k ds (l + 1) low)
      ∙ sym (ap (table k ds (l + 1)) e ∙ constants_stand k ds (l + 1) (pos 0))
  part1-twice N ds l low high e =
      minus-self (length ds) (table k ds (l + 1) low) (IsOver-table k ds (l + 1) low)
      ∙ sym (ap (table k ds (l + 1)) e ∙ constants_stand k ds (l + 1) (pos 0))

  low_is_below : (d : Decomp) (ds : List Decomp) (l : ℕ) (low high : Tree) → AreJoinable k d ds l low high → is_at l low.shape ≡ false
  low_is_below d ds l low high j = above_levels k ds l (l + 1) low j.low_canonical (omega arith)

  pub join_has_parts : JoinHasParts k
  join_has_parts d ds l low high j =
      let HasThem : Tree → Type 0 = λ t. (part0 d (table k (d ∷ ds) l t) ≡ table k ds (l + 1) low) × (part1 d (table k (d ∷ ds) l t) ≡ table k ds (l + 1) high) in
      let above : table k (d ∷ ds) l low ≡ halves (table k ds (l + 1) low) (table k ds (l + 1) low) =
      table-above k d ds l low (low_is_below d ds l low high j) in
      chosen HasThem (skips k d low high) low (node_join k d l low high)
      (λ e. (
        ap (part0 d) above ∙ part0-twice d (table k ds (l + 1) low),
        ap (part1 d) above ∙ part1-twice d ds l low high (rule.skip_tells d ds l low high j e),
      ))
      (λ e. let merges = rule.node_table d ds l low high j e in (
        ap (part0 d) merges ∙ part0-merged d (table k ds (l + 1) low) (table k ds (l + 1) high),
        ap (part1 d) merges ∙ part1-merged (length ds) d (table k ds (l + 1) low) (table k ds (l + 1) high)
            (IsOver-table k ds (l + 1) low) (IsOver-table k ds (l + 1) high),
      ))

  high_below-skip : (d : Decomp) (low high : Tree) → IsSkip k d low high → high_below k d low ≡ high
  high_below-skip S low high e = e
  high_below-skip P low high e = sym e
  high_below-skip N low high e = sym e

  pub parts_undo_join : PartsUndoJoin k
  parts_undo_join d ds l low high j =
      let Undoes : Tree → Type 0 = λ t. (low_part k l t ≡ low) × (high_part k d l t ≡ high) in
      let above = low_is_below d ds l low high j in
      chosen Undoes (skips k d low high) low (node_join k d l low high)
      (λ e. (
        low_part-above k l low above,
        high_part-above k d l low above ∙ high_below-skip d low high (rule.skip_tells d ds l low high j e),
      ))
      (rule.node_parts d ds l low high j)

  -- a node of the level is no tree below it
  no_node : (d : Decomp) (ds : List Decomp) (l : ℕ) (low high : Tree) → AreJoinable k d ds l low high → node_join k d l low high ≡ low → ⊥
  no_node d ds l low high j e =
      let here : is_at l (node_join k d l low high).shape ≡ true = is_at-node_join k d l l low high ∙ eq-eqb l l refl in
      let there : is_at l (node_join k d l low high).shape ≡ false = ap (λ (t : Tree). is_at l t.shape) e ∙ low_is_below d ds l low high j in
      cc

  pub joins_skip : JoinsSkip k
  joins_skip d ds l low high j =
      (λ e. tells (skips k d low high) refl e, λ e. told (rule.skip_told d ds l low high j e))
    where
      tells : (b : Bool) → skips k d low high ≡ b → (if b then low else node_join k d l low high) ≡ low → IsSkip k d low high
      tells true s e = rule.skip_tells d ds l low high j s
      tells false s e = absurd (no_node d ds l low high j e)

      told : skips k d low high ≡ true → tjoin k d l low high ≡ low
      told s = rw s

  -- ---- parts
  pub parts_are_canonical : PartsAreCanonical k
  parts_are_canonical d ds l t allowed c =
      subst (HasCanonicalParts k d ds l) (sym c.4) (of_join c.0 c.1 (record { allowed = allowed; low_canonical = c.2; high_canonical = c.3 }))
    where
      of_join : (low high : Tree) → AreJoinable k d ds l low high → HasCanonicalParts k d ds l (tjoin k d l low high)
      of_join low high j =
          let undone = parts_undo_join d ds l low high j in
          let parts = join_has_parts d ds l low high j in
          record {
            low_canonical = subst (IsCanonical k ds (l + 1)) (sym undone.0) j.low_canonical;
            high_canonical = subst (IsCanonical k ds (l + 1)) (sym undone.1) j.high_canonical;
            low_table = ap (table k ds (l + 1)) undone.0 ∙ sym parts.0;
            high_table = ap (table k ds (l + 1)) undone.1 ∙ sym parts.1;
          }

  pub join_of_parts : JoinOfParts k
  join_of_parts d ds l t allowed c =
      let Joins : Tree → Type 0 = λ u. tjoin k d l (low_part k l u) (high_part k d l u) ≡ u in
      let undone = parts_undo_join d ds l c.0 c.1 (record { allowed = allowed; low_canonical = c.2; high_canonical = c.3 }) in
      subst Joins (sym c.4)
      (ap (λ (u : Tree). tjoin k d l u (high_part k d l (tjoin k d l c.0 c.1))) undone.0
      ∙ ap (λ (u : Tree). tjoin k d l c.0 u) undone.1)

  -- ---- canonicity
  pub joins_are_canonical : JoinsAreCanonical k
  joins_are_canonical [] l t allowed c =
      c.1 ∙ sym (ap (canonical k [] l) (ap (table k [] l) c.1 ∙ constants_stand k [] l c.0))
  joins_are_canonical (d ∷ ds) l t allowed c =
      let below = (and_parts (is_allowed k d) (are_allowed k ds) allowed).1 in
      let j : AreJoinable k d ds l c.0 c.1 = record { allowed = allowed; low_canonical = c.2; high_canonical = c.3 } in
      let parts = join_has_parts d ds l c.0 c.1 j in
      let joined = tjoin k d l c.0 c.1 in
      let low : c.0 ≡ canonical k ds (l + 1) (part0 d (table k (d ∷ ds) l joined)) =
      joins_are_canonical ds (l + 1) c.0 below c.2 ∙ sym (ap (canonical k ds (l + 1)) parts.0) in
      let high : c.1 ≡ canonical k ds (l + 1) (part1 d (table k (d ∷ ds) l joined)) =
      joins_are_canonical ds (l + 1) c.1 below c.3 ∙ sym (ap (canonical k ds (l + 1)) parts.1) in
      c.4
      ∙ ap (λ (u : Tree). tjoin k d l u c.1) low
      ∙ ap (λ (u : Tree). tjoin k d l (canonical k ds (l + 1) (part0 d (table k (d ∷ ds) l joined))) u) high
      ∙ sym (canonical-over k d ds l (length ds) (table k (d ∷ ds) l joined) (IsOver-table k (d ∷ ds) l joined))
      ∙ sym (ap (λ (u : Tree). canonical k (d ∷ ds) l (table k (d ∷ ds) l u)) c.4)

  pub canonical_trees_agree : CanonicalTreesAgree k
  canonical_trees_agree ds l t u allowed c e = (
    λ same. ap (table k ds l) same,
    λ same. joins_are_canonical ds l t allowed c ∙ ap (canonical k ds l) same ∙ sym (joins_are_canonical ds l u allowed e),
  )

  pub canonical_stands : CanonicalStands k
  canonical_stands [] l (entry x) allowed o = ((x, refl), constants_stand k [] l x)
  canonical_stands [] l (halves lo hi) allowed o = absurd o
  canonical_stands (d ∷ ds) l (entry x) allowed o = absurd o
  canonical_stands (d ∷ ds) l (halves lo hi) allowed o =
      let t = halves lo hi in
      let below = (and_parts (is_allowed k d) (are_allowed k ds) allowed).1 in
      let low = canonical_stands ds (l + 1) (part0 d t) below (IsOver-part0 (length ds) d t o) in
      let high = canonical_stands ds (l + 1) (part1 d t) below (IsOver-part1 (length ds) d t o) in
      let j : AreJoinable k d ds l (canonical k ds (l + 1) (part0 d t)) (canonical k ds (l + 1) (part1 d t)) =
      record { allowed = allowed; low_canonical = low.0; high_canonical = high.0 } in
      let parts = join_has_parts d ds l _ _ j in (
        (canonical k ds (l + 1) (part0 d t), canonical k ds (l + 1) (part1 d t), low.0, high.0, refl),
        same_parts (length ds) d (table k (d ∷ ds) l (canonical k (d ∷ ds) l t)) t (IsOver-table k (d ∷ ds) l (canonical k (d ∷ ds) l t)) o
            (parts.0 ∙ low.1) (parts.1 ∙ high.1),
      )
