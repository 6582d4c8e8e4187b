-- At which levels an edge stands, and what it stands for from one level to the next.
use Rattle.std.proofs.Common.{◌≡◌, refl, sym, ◌∙◌, ap, subst, ℕ, zero, suc, ◌+◌, ◌<◌, ◌≤◌, List, [], ◌∷◌, true, false, length, drop, arith, add-one, inl, inr}
use Rattle.std.specs.Prelude.{Some, None, ◌⊎◌, ◌==◌}
use Rattle.std.proofs.lemmas.Bool.{eq-eqb}
use Rattle.word_base.specs.declared.decomp.Decomp.{Decomp}
use Rattle.word_base.specs.declared.kind_name.KindName.{KindName}
use Rattle.record_store.specs.StoreView.{find_in}
use Rattle.tables.specs.Table.{Table, halves}
use Rattle.tables.specs.Tree.{Shape, leaf, node}
use Rattle.tables.specs.Canonical.{canonical}
use Rattle.tables.specs.Laws.{are_allowed}
use Rattle.tables.proofs.CanonicalLaws.{rule_of, allowed_below}
use Rattle.tables.proofs.KindLaws.{canonical_stands}
use Rattle.tables.proofs.PieceLaws.{HasLetter}
use Rattle.tables.proofs.TreeLaws.{is_at, above_levels, within_levels, apart}
use Rattle.kind_laws.specs.Body.{body_of, FitsBody, LeavesZeros}
use Rattle.kind_laws.specs.Graph.{HasShape, StandsFor}
use Rattle.kind_laws.specs.Kind.{IsRooted}
use Rattle.kind_laws.specs.Plain.{PlainEdge}
use Rattle.kind_laws.specs.declared.fields.Fields.{Fields}
use Rattle.kind_laws.proofs.GraphLaws.{StandsFor-extends, stands_twice, stands_below}
use Rattle.kind_laws.proofs.RootedLaws.{rooted}
use Rattle.diagram.specs.View.{View, letter_at, StandsAt, IsEdge, top_of, Keeps}

-- ---- letters
pub letters_at : (ds : List Decomp) (l : ℕ) → l < length ds → drop l ds ≡ letter_at ds l ∷ drop (l + 1) ds
letters_at [] l h = absurd (omega arith)
letters_at (d ∷ ds) zero h = refl
letters_at (d ∷ ds) (suc l) h = let below : l < length ds = omega arith in rw (letters_at ds l below, add-one, add-one)

pub allowed_from : (k : KindName) (ds : List Decomp) (l : ℕ) → are_allowed k ds ≡ true → are_allowed k (drop l ds) ≡ true
allowed_from k [] zero h = h
allowed_from k [] (suc l) h = h
allowed_from k (d ∷ ds) zero h = h
allowed_from k (d ∷ ds) (suc l) h = allowed_from k ds l (allowed_below k d ds h)

pub has_letter : (k : KindName) (v : View) (l : ℕ) → are_allowed k v.letters ≡ true → l < length v.letters → HasLetter k v.letters l (letter_at v.letters l)
has_letter k v l allowed within =
    let letters = letters_at v.letters l within in
    record { letters = letters; allowed = subst (λ (ds : List Decomp). are_allowed k ds ≡ true) letters (allowed_from k v.letters l allowed) }

-- ---- levels of nodes
pub top_of-leaf : (v : View) → find_in v.store 0 ≡ None → top_of v 0 ≡ length v.letters
top_of-leaf v no_zero = rw no_zero

pub top_of-node : (v : View) (id : ℕ) (f : Fields) → find_in v.store id ≡ Some (body_of f) → top_of v id ≡ f.level
top_of-node v id f known = rw known (omega arith)

-- the id of a node with this shape has the shape's level on top
above_top : (k : KindName) (v : View) (m id : ℕ) (s : Shape) → HasShape k (find_in v.store) id s → m < top_of v id → is_at m s ≡ false
above_top k v m id leaf h below = refl
above_top k v m id (node n a s b r) h under =
    let top : top_of v id ≡ n = top_of-node v id h.fields h.known ∙ h.level_is in
    let deeper : m < n = omega arith in
    apart m n deeper

-- what an edge's node is: one with a body
pub record IsNode (k : KindName) (v : View) (l : ℕ) (id : ℕ) : Type 0 where
  pub fields : Fields
  pub fits : FitsBody fields
  pub zeros : LeavesZeros k fields
  pub known : find_in v.store id ≡ Some (body_of fields)
  pub from : l ≤ fields.level
  pub below : fields.level < l + length (drop l v.letters)

node_of_shape : (k : KindName) (v : View) (l id : ℕ) (s : Shape) → HasShape k (find_in v.store) id s → ((m : ℕ) → m < l → is_at m s ≡ false) →
    ((m : ℕ) → is_at m s ≡ true → m < l + length (drop l v.letters)) → (id ≡ 0) ⊎ IsNode k v l id
node_of_shape k v l id leaf h free within = inl h
node_of_shape k v l id (node n a s b r) h free within =
    inr (record {
      fields = h.fields;
      fits = h.fits;
      zeros = h.zeros;
      known = h.known;
      from = not_less h.fields.level l (λ less. let e : is_at h.fields.level (node n a s b r) ≡ false = free h.fields.level less in let g : (n == h.fields.level) ≡ true = eq-eqb n h.fields.level (sym h.level_is) in cc);
      below = within h.fields.level (eq-eqb n h.fields.level (sym h.level_is));
    })
  where
    not_less : (m l : ℕ) → (m < l → ⊥) → l ≤ m
    not_less m l h = omega arith

pub node_of_edge : (k : KindName) (v : View) (l : ℕ) (t : Table) (e : PlainEdge) → StandsAt k v l t e → (e.node ≡ 0) ⊎ IsNode k v l e.node
node_of_edge k v l t e h =
    let ds = drop l v.letters in
    let c = canonical k ds l t in
    let made = (canonical_stands k (rule_of k) ds l t (allowed_from k v.letters l h.allowed) h.stands.over).0 in
    node_of_shape k v l e.node c.shape h.stands.shape_is (λ m less. above_levels k ds m l c made less) (λ m at. within_levels k ds m l c made at)

-- an edge stands at no level below its node's
pub from_level : (k : KindName) (v : View) (l : ℕ) (t : Table) (e : PlainEdge) → StandsAt k v l t e → l ≤ top_of v e.node
from_level k v l t e h =
    let within = h.within in
    let Reaches : Type 0 = l ≤ top_of v e.node in
    elim (node_of_edge k v l t e h) as (λ _. Reaches) [
      | inl z ↦ rw (z, h.no_zero) within
      | inr n ↦ let top = top_of-node v e.node n.fields n.known in let from = n.from in omega arith
    ]

pub top_within : (k : KindName) (v : View) (e : PlainEdge) → IsEdge k v e → top_of v e.node ≤ length v.letters
top_within k v e h =
    let Within : Type 0 = top_of v e.node ≤ length v.letters in
    elim (node_of_edge k v 0 h.0 e h.1) as (λ _. Within) [
      | inl z ↦ rw (z, h.1.no_zero) (omega arith)
      | inr n ↦ let top = top_of-node v e.node n.fields n.known in let below = n.below in omega arith
    ]

-- an edge whose node is at no level is a constant's
pub leaf_at_end : (k : KindName) (v : View) (e : PlainEdge) → IsEdge k v e → length v.letters ≤ top_of v e.node → e.node ≡ 0
leaf_at_end k v e h end =
    let Leaf : Type 0 = e.node ≡ 0 in
    elim (node_of_edge k v 0 h.0 e h.1) as (λ _. Leaf) [
      | inl z ↦ z
      | inr n ↦ let top = top_of-node v e.node n.fields n.known in let below = n.below in absurd (omega arith)
    ]

-- a good edge that leads to no leaf has a node's body
pub node_known : (k : KindName) (v : View) (e : PlainEdge) → IsEdge k v e → (e.node ≡ 0 → ⊥) → IsNode k v 0 e.node
node_known k v e h apart = elim (node_of_edge k v 0 h.0 e h.1) [ inl z ↦ absurd (apart z) | inr n ↦ n ]

-- ---- from one level to the next
pub descend : (k : KindName) (v : View) (l : ℕ) (t : Table) (e : PlainEdge) → l < top_of v e.node → l < length v.letters → StandsAt k v l t e →
    (u : Table) × (t ≡ halves u u) × StandsAt k v (l + 1) u e
descend k v l t e below within h =
    let d = letter_at v.letters l in
    let ds = drop (l + 1) v.letters in
    let letter = has_letter k v l h.allowed within in
    let Stands : List Decomp → Type 0 = λ xs. StandsFor k (find_in v.store) xs l t e.root e.node in
    let NotAt : List Decomp → Type 0 = λ xs. is_at l (canonical k xs l t).shape ≡ false in
    let down = stands_below k (find_in v.store) d ds l t e.root e.node letter.allowed (subst Stands letter.letters h.stands)
    (subst NotAt letter.letters (above_top k v l e.node _ h.stands.shape_is below)) in
    (down.0, down.1, record { allowed = h.allowed; no_zero = h.no_zero; within = omega arith; stands = down.2 })

pub ascend : (k : KindName) (v : View) (l : ℕ) (u : Table) (e : PlainEdge) → StandsAt k v (l + 1) u e → StandsAt k v l (halves u u) e
ascend k v l u e h =
    let next = h.within in
    let within : l < length v.letters = omega arith in
    let letter = has_letter k v l h.allowed within in
    let Stands : List Decomp → Type 0 = λ xs. StandsFor k (find_in v.store) xs l (halves u u) e.root e.node in
    record {
      allowed = h.allowed;
      no_zero = h.no_zero;
      within = omega arith;
      stands = subst Stands (sym letter.letters) (stands_twice k (find_in v.store) (letter_at v.letters l) (drop (l + 1) v.letters) l u e.root e.node letter.allowed h.stands);
    }

-- a table under levels that do not split it
abbrev pub lifted : ℕ → Table → Table
lifted zero t = t
lifted (suc n) t = halves (lifted n t) (lifted n t)

-- an edge stands at each level down to its node's, and at each level up
pub lower : (k : KindName) (v : View) (e : PlainEdge) (n l m : ℕ) (t : Table) → l + n ≡ m → m ≤ top_of v e.node → m ≤ length v.letters → StandsAt k v l t e →
    (u : Table) × (t ≡ lifted n u) × StandsAt k v m u e
lower k v e zero l m t sum tops within h =
    let same : l ≡ m = omega arith in (t, refl, subst (λ (x : ℕ). StandsAt k v x t e) same h)
lower k v e (suc n) l m t sum tops within h =
    let under : l < top_of v e.node = omega arith in
    let less : l < length v.letters = omega arith in
    let down = descend k v l t e under less h in
    let rest : l + 1 + n ≡ m = omega arith in
    let deeper = lower k v e n (l + 1) m down.0 rest tops within down.2 in
    (deeper.0, down.1 ∙ ap (λ (x : Table). halves x x) deeper.1, deeper.2)

pub raise : (k : KindName) (v : View) (e : PlainEdge) (n l m : ℕ) (u : Table) → l + n ≡ m → StandsAt k v m u e → StandsAt k v l (lifted n u) e
raise k v e zero l m u sum h =
    let same : m ≡ l = omega arith in subst (λ (x : ℕ). StandsAt k v x u e) same h
raise k v e (suc n) l m u sum h =
    let rest : l + 1 + n ≡ m = omega arith in
    ascend k v l (lifted n u) e (raise k v e n (l + 1) m u rest h)

pub good_at : (k : KindName) (v : View) (e : PlainEdge) (l : ℕ) (t : Table) → StandsAt k v l t e → IsEdge k v e
good_at k v e l t h = let sum : 0 + l ≡ l = omega arith in (lifted l t, raise k v e l 0 l t sum h)

-- a good edge stands for a table at each level down to its node's
pub stands_somewhere : (k : KindName) (v : View) (e : PlainEdge) (m : ℕ) → IsEdge k v e → m ≤ top_of v e.node → m ≤ length v.letters → (u : Table) × StandsAt k v m u e
stands_somewhere k v e m h tops within =
    let sum : 0 + m ≡ m = omega arith in
    let low = lower k v e m 0 m h.0 sum tops within h.1 in (low.0, low.2)

-- ---- what stays
pub stays : (k : KindName) (v w : View) (l : ℕ) (t : Table) (e : PlainEdge) → Keeps v w → StandsAt k v l t e → StandsAt k w l t e
stays k v w l t e keeps h =
    let Stands : List Decomp → Type 0 = λ ds. StandsFor k (find_in w.store) (drop l ds) l t e.root e.node in
    record {
      allowed = subst (λ (ds : List Decomp). are_allowed k ds ≡ true) (sym keeps.letters) h.allowed;
      no_zero = keeps.no_zero h.no_zero;
      within = subst (λ (ds : List Decomp). l ≤ length ds) (sym keeps.letters) h.within;
      stands = subst Stands (sym keeps.letters) (StandsFor-extends k (find_in v.store) (find_in w.store) (drop l v.letters) l t e.root e.node keeps.known h.stands);
    }

pub still_edge : (k : KindName) (v w : View) (e : PlainEdge) → Keeps v w → IsEdge k v e → IsEdge k w e
still_edge k v w e keeps h = (h.0, stays k v w 0 h.0 e keeps h.1)

pub same_top : (k : KindName) (v w : View) (e : PlainEdge) → Keeps v w → IsEdge k v e → top_of w e.node ≡ top_of v e.node
same_top k v w e keeps h =
    let Same : Type 0 = top_of w e.node ≡ top_of v e.node in
    elim (node_of_edge k v 0 h.0 e h.1) as (λ _. Same) [
      | inl z ↦ rw (z, keeps.no_zero h.1.no_zero, h.1.no_zero) (ap length keeps.letters)
      | inr n ↦ top_of-node w e.node n.fields (keeps.known e.node (body_of n.fields) n.known) ∙ sym (top_of-node v e.node n.fields n.known)
    ]

pub is_rooted : (k : KindName) (v : View) (e : PlainEdge) → IsEdge k v e → IsRooted k e
is_rooted k v e h = rooted k (find_in v.store) v.letters 0 h.0 e.root e.node h.1.allowed h.1.no_zero h.1.stands
