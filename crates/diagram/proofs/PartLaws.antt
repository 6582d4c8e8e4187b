-- Constants, and the parts of an edge at a level.
use Rattle.std.proofs.Common.{◌≡◌, refl, sym, ◌∙◌, ap, subst, ℕ, suc, ◌+◌, ◌<◌, ◌≤◌, ◌≢◌, ℤ, pos, ◌+ℤ◌, ◌-ℤ◌, ◌*ℤ◌, List, ◌∷◌, true, length, drop, arith}
use Rattle.std.specs.Prelude.{Some, None, Result, Ok, Err}
use Rattle.std.proofs.lemmas.Bool.{false_from_ne_true, and_parts, and_from}
use Rattle.std.proofs.lemmas.Int.{ints}
use Rattle.word_base.specs.Kind.{is_allowed}
use Rattle.word_base.specs.Range.{in_range}
use Rattle.word_base.specs.declared.decomp.Decomp.{Decomp}
use Rattle.word_base.specs.declared.decomp.Decomp.TheVariants.{S, P, N}
use Rattle.word_base.specs.declared.kind_name.KindName.{KindName}
use Rattle.word_base.specs.declared.kind_name.KindName.TheVariants.{Evbdd, StarBmd, Hdd, KStarBmd}
use Rattle.word_base.specs.declared.weight.Overflow.{Overflow}
use Rattle.record_store.specs.StoreView.{find_in}
use Rattle.tables.specs.Table.{Table, halves, IsOver, part0, part1, constant_table}
use Rattle.tables.specs.Tree.{Weights, Shape, leaf, Tree}
use Rattle.tables.specs.Fits.{weights_in_range, difference_in_range, fits}
use Rattle.tables.specs.Laws.{are_allowed}
use Rattle.tables.specs.Parts.{low_edge, high_edge}
use Rattle.tables.proofs.FitsLaws.{fits_parts}
use Rattle.tables.proofs.KindLaws.{part0-twice}
use Rattle.tables.proofs.CanonicalLaws.{allowed_below}
use Rattle.kind_laws.proofs.RootLaws.{fits_root, fits_difference, root_at}
use Rattle.tables.proofs.TableLaws.{minus-self, IsOver-part0, IsOver-part1}
use Rattle.kind_laws.specs.Body.{body_of, FitsBody, low_weights, high_weights, Reads}
use Rattle.kind_laws.specs.Graph.{HasShape, StandsFor}
use Rattle.kind_laws.specs.Kind.{IsNodeBody, low_part_of, high_part_of, added_in_range, parts_in_range, HasParts}
use Rattle.kind_laws.specs.Plain.{PlainEdge, constant_edge, over_shape}
use Rattle.kind_laws.specs.declared.fields.Fields.{Fields}
use Rattle.kind_laws.proofs.GraphLaws.{stands_constant, stands_parts}
use Rattle.diagram.specs.View.{View, letter_at, StandsAt, top_of}
use Rattle.diagram.specs.Calls.{CanPart, skipped_high, ArePartsOf}
use Rattle.diagram.proofs.LevelLaws.{allowed_from, has_letter, top_of-leaf, top_of-node, descend}

pub constant_stands : (k : KindName) (v : View) (l : ℕ) (c : ℤ) → are_allowed k v.letters ≡ true → find_in v.store 0 ≡ None → l ≤ length v.letters →
    StandsAt k v l (constant_table (length (drop l v.letters)) c) (constant_edge k c)
constant_stands k v l c allowed no_zero within = record {
  allowed = allowed;
  no_zero = no_zero;
  within = within;
  stands = stands_constant k (find_in v.store) (drop l v.letters) l c (allowed_from k v.letters l allowed);
}

-- ---- an edge that has no node at the level
zero_part : (k : KindName) (v : View) (l : ℕ) (t u : Table) (e : PlainEdge) → StandsAt k v l u e → t ≡ constant_table (length (drop l v.letters)) (pos 0) →
    StandsAt k v l t (constant_edge k (pos 0))
zero_part k v l t u e h is =
    subst (λ (x : Table). StandsAt k v l x (constant_edge k (pos 0))) (sym is) (constant_stands k v l (pos 0) h.allowed h.no_zero h.within)

high_of_twice : (k : KindName) (v : View) (l : ℕ) (d : Decomp) (u : Table) (e : PlainEdge) → StandsAt k v l u e → StandsAt k v l (part1 d (halves u u)) (skipped_high k d e)
high_of_twice k v l S u e h = h
high_of_twice k v l P u e h = zero_part k v l _ u e h (minus-self (length (drop l v.letters)) u h.stands.over)
high_of_twice k v l N u e h = zero_part k v l _ u e h (minus-self (length (drop l v.letters)) u h.stands.over)

pub skipped_are : (k : KindName) (v : View) (l : ℕ) (e : PlainEdge) → l < top_of v e.node → l < length v.letters →
    ArePartsOf k v l e (Ok (e, skipped_high k (letter_at v.letters l) e))
skipped_are k v l e below within t h =
    let d = letter_at v.letters l in
    let down = descend k v l t e below within h in
    let Low : Table → Type 0 = λ x. StandsAt k v (l + 1) (part0 d x) e in
    let High : Table → Type 0 = λ x. StandsAt k v (l + 1) (part1 d x) (skipped_high k d e) in
    let low : Low (halves down.0 down.0) = subst (λ (x : Table). StandsAt k v (l + 1) x e) (sym (part0-twice d down.0)) down.2 in
    (subst Low (sym down.1) low, subst High (sym down.1) (high_of_twice k v (l + 1) d down.0 e down.2))

-- ---- an edge to a node of the level
low_edge-root : (k : KindName) (root w : Weights) (s r : Shape) → (low_edge k root w s).root ≡ (low_edge k root w r).root
low_edge-root Evbdd root w s r = refl
low_edge-root StarBmd root w s r = refl
low_edge-root Hdd root w s r = refl
low_edge-root KStarBmd root w s r = refl

low_edge-shape : (k : KindName) (root w : Weights) (s : Shape) → (low_edge k root w s).shape ≡ s
low_edge-shape Evbdd root w s = refl
low_edge-shape StarBmd root w s = refl
low_edge-shape Hdd root w s = refl
low_edge-shape KStarBmd root w s = refl

high_edge-root : (k : KindName) (d : Decomp) (root w : Weights) (s r : Shape) → (high_edge k d root w s).root ≡ (high_edge k d root w r).root
high_edge-root Evbdd d root w s r = refl
high_edge-root StarBmd d root w s r = refl
high_edge-root Hdd d root w s r = refl
high_edge-root KStarBmd S root w s r = refl
high_edge-root KStarBmd P root w s r = refl
high_edge-root KStarBmd N root w s r = refl

high_edge-shape : (k : KindName) (d : Decomp) (root w : Weights) (s : Shape) → (high_edge k d root w s).shape ≡ s
high_edge-shape Evbdd d root w s = refl
high_edge-shape StarBmd d root w s = refl
high_edge-shape Hdd d root w s = refl
high_edge-shape KStarBmd S root w s = refl
high_edge-shape KStarBmd P root w s = refl
high_edge-shape KStarBmd N root w s = refl

-- the parts of an edge to a node of the level stand for the parts of its table
pub record NodeParts (k : KindName) (v : View) (l : ℕ) (t : Table) (root : Weights) (f : Fields) : Type 0 where
  pub low : StandsAt k v (l + 1) (part0 (letter_at v.letters l) t) (low_part_of k root f)
  pub high : StandsAt k v (l + 1) (part1 (letter_at v.letters l) t) (high_part_of k (letter_at v.letters l) root f)

pub node_parts : (k : KindName) (v : View) (l : ℕ) (t : Table) (e : PlainEdge) (f : Fields) → l < length v.letters → FitsBody f →
    find_in v.store e.node ≡ Some (body_of f) → f.level ≡ l → StandsAt k v l t e → NodeParts k v l t e.root f
node_parts k v l t e f within fits known level h =
    let d = letter_at v.letters l in
    let ds = drop (l + 1) v.letters in
    let find = find_in v.store in
    let letter = has_letter k v l h.allowed within in
    let here = subst (λ (xs : List Decomp). StandsFor k find xs l t e.root e.node) letter.letters h.stands in
    let parts = stands_parts k find d ds l t e.root e.node f letter.allowed h.no_zero fits known level here in
    let next : l + 1 ≤ length v.letters = omega arith in
    record {
      low = record {
        allowed = h.allowed;
        no_zero = h.no_zero;
        within = next;
        stands = record {
          over = IsOver-part0 (length ds) d t here.over;
          root_is = low_edge-root k e.root (low_weights k f) _ parts.low_shape ∙ sym (ap (λ (x : Tree). x.root) parts.low_is);
          shape_is = subst (HasShape k find f.low) (sym (ap (λ (x : Tree). x.shape) parts.low_is ∙ low_edge-shape k e.root (low_weights k f) parts.low_shape)) parts.low_below;
        };
      };
      high = record {
        allowed = h.allowed;
        no_zero = h.no_zero;
        within = next;
        stands = record {
          over = IsOver-part1 (length ds) d t here.over;
          root_is = high_edge-root k d e.root (high_weights k f) _ parts.high_shape ∙ sym (ap (λ (x : Tree). x.root) parts.high_is);
          shape_is = subst (HasShape k find f.high) (sym (ap (λ (x : Tree). x.shape) parts.high_is ∙ high_edge-shape k d e.root (high_weights k f) parts.high_shape)) parts.high_below;
        };
      };
    }

-- ---- where a table fits, the weights of its parts are in range
minus_first : (a m : ℤ) → (a +ℤ m) -ℤ a ≡ m
minus_first a m = omega (arith, ints)

added_fits : (k : KindName) (d : Decomp) (root : Weights) (f : Fields) →
    difference_in_range k d (over_shape (low_part_of k root f) leaf) (over_shape (high_part_of k d root f) leaf) ≡ true → added_in_range k d root f ≡ true
added_fits Evbdd d root f h = refl
added_fits StarBmd d root f h = refl
added_fits Hdd d root f h = refl
added_fits KStarBmd S root f h = subst (λ (z : ℤ). in_range z ≡ true) (minus_first root.extra (root.weight *ℤ f.added)) h
added_fits KStarBmd P root f h = refl
added_fits KStarBmd N root f h = refl

parts_fit : (k : KindName) (v : View) (l : ℕ) (t : Table) (e : PlainEdge) (f : Fields) → l < length v.letters → StandsAt k v l t e → NodeParts k v l t e.root f →
    fits k (drop l v.letters) t ≡ true → parts_in_range k (letter_at v.letters l) e.root f ≡ true
parts_fit k v l t e f within h parts fitting =
    let d = letter_at v.letters l in
    let ds = drop (l + 1) v.letters in
    let letter = has_letter k v l h.allowed within in
    let below = allowed_below k d ds letter.allowed in
    let here : fits k (d ∷ ds) t ≡ true = subst (λ (xs : List Decomp). fits k xs t ≡ true) letter.letters fitting in
    let over : IsOver (suc (length ds)) t = subst (λ (xs : List Decomp). IsOver (length xs) t) letter.letters h.stands.over in
    let both = fits_parts k d ds t here in
    let low = parts.low.stands in
    let high = parts.high.stands in
    let near = fits_difference k d ds t (over_shape (low_part_of k e.root f) leaf) (over_shape (high_part_of k d e.root f) leaf) letter.allowed over
    (low.root_is ∙ root_at k ds (l + 1) 1 (part0 d t) below low.over) (high.root_is ∙ root_at k ds (l + 1) 1 (part1 d t) below high.over) here in
    and_from _ _ (ap weights_in_range low.root_is ∙ fits_root k ds (l + 1) (part0 d t) below low.over both.0)
    (and_from _ _ (ap weights_in_range high.root_is ∙ fits_root k ds (l + 1) (part1 d t) below high.over both.1) (added_fits k d e.root f near))

pub parts_are : (k : KindName) (v : View) (l : ℕ) (e : PlainEdge) (f : Fields) (result : Result (PlainEdge × PlainEdge) Overflow) → l < length v.letters → FitsBody f →
    find_in v.store e.node ≡ Some (body_of f) → f.level ≡ l → HasParts k (letter_at v.letters l) e.root f result → ArePartsOf k v l e result
parts_are k v l e f (Ok p) within fitting known level has t h =
    let n = node_parts k v l t e f within fitting known level h in
    let d = letter_at v.letters l in (
      subst (StandsAt k v (l + 1) (part0 d t)) (sym has.1) n.low,
      subst (StandsAt k v (l + 1) (part1 d t)) (sym has.2) n.high,
    )
parts_are k v l e f (Err o) within fitting known level has t h =
    false_from_ne_true _ (λ g. let r = parts_fit k v l t e f within h (node_parts k v l t e f within fitting known level h) g in absurd (cc))

-- ---- at a call
-- a level that the code has compared with that of an edge's node
pub skipped_parts_are : (k : KindName) (v : View) (l : ℕ) (e p q : PlainEdge) → CanPart k v l e → (l ≡ top_of v e.node → ⊥) → p ≡ e →
    q ≡ skipped_high k (letter_at v.letters l) e → ArePartsOf k v l e (Ok (p, q))
skipped_parts_are k v l e p q can apart p_is q_is t h =
    let not_above = can.not_above in
    let other : l ≢ top_of v e.node = apart in
    let is = skipped_are k v l e (omega arith) can.below t h in
    let d = letter_at v.letters l in
    (subst (StandsAt k v (l + 1) (part0 d t)) (sym p_is) is.0, subst (StandsAt k v (l + 1) (part1 d t)) (sym q_is) is.1)

pub leaf_apart : (k : KindName) (v : View) (l : ℕ) (e : PlainEdge) → CanPart k v l e → e.node ≡ 0 → l ≡ top_of v e.node → ⊥
leaf_apart k v l e can z is =
    let below = can.below in
    let top : top_of v e.node ≡ length v.letters = ap (top_of v) z ∙ top_of-leaf v can.good.1.no_zero in
    omega arith

pub letter_allowed : (k : KindName) (v : View) (l : ℕ) (d : Decomp) → are_allowed k v.letters ≡ true → l < length v.letters → d ≡ letter_at v.letters l → is_allowed k d ≡ true
letter_allowed k v l d allowed within is =
    ap (is_allowed k) is ∙ (and_parts (is_allowed k (letter_at v.letters l)) _ (has_letter k v l allowed within).allowed).0

-- the level that a node's body says is that of its id
pub level_read : (k : KindName) (v : View) (id level : ℕ) (body : List ℕ) → find_in v.store id ≡ Some body → IsNodeBody k body → Reads body (λ f. level ≡ f.level) →
    level ≡ top_of v id
level_read k v id level body known (f, fits, zeros, is) reads =
    reads f fits is ∙ sym (top_of-node v id f (known ∙ ap Some is))

-- the parts that a kind answers for a node of the level
pub node_parts_are : (k : KindName) (v : View) (l : ℕ) (d : Decomp) (e : PlainEdge) (body : List ℕ) (level : ℕ) (result : Result (PlainEdge × PlainEdge) Overflow) →
    CanPart k v l e → d ≡ letter_at v.letters l → find_in v.store e.node ≡ Some body → IsNodeBody k body → Reads body (λ f. level ≡ f.level) → level ≡ l →
    Reads body (λ f. HasParts k d e.root f result) → ArePartsOf k v l e result
node_parts_are k v l d e body level result can is known (f, fits, zeros, body_is) reads here has =
    parts_are k v l e f result can.below fits (known ∙ ap Some body_is) (sym (reads f fits body_is) ∙ here)
    (subst (λ (x : Decomp). HasParts k x e.root f result) is (has f fits body_is))
