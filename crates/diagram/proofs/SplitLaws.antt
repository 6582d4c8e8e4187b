-- The parts of an edge by the node that was read, and of two edges at the level of the upper node.
use Rattle.std.proofs.Common.{◌≡◌, refl, sym, ◌∙◌, ap, subst, ℕ, ◌≢◌, List, min, inl, inr}
use Rattle.std.specs.Prelude.{Some, Result, Ok, Err}
use Rattle.std.proofs.lemmas.Bool.Decides.{eqb_tells}
use Rattle.word_base.specs.declared.decomp.Decomp.{Decomp}
use Rattle.word_base.specs.declared.kind_name.KindName.{KindName}
use Rattle.word_base.specs.declared.weight.Overflow.{Overflow}
use Rattle.record_store.specs.StoreView.{find_in}
use Rattle.kind_laws.specs.Body.{Reads}
use Rattle.kind_laws.specs.Kind.{IsNodeBody, HasParts}
use Rattle.kind_laws.specs.Plain.{PlainEdge}
use Rattle.diagram.specs.Calls.{CanPart, ArePartsOf, ArePartsOfBoth, skipped_high, LieBelow, LeadsTo, ArePartsBy, PlainSplit, Splits, upper}
use Rattle.diagram.specs.View.{View, letter_at, IsEdge, top_of}
use Rattle.diagram.proofs.BothLaws.{HaveNode, can_part_first, can_part_second, parts_lie_below, first_unfit, second_unfit}
use Rattle.diagram.proofs.EachLaws.{can_part_at}
use Rattle.diagram.proofs.LevelLaws.{top_of-node}
use Rattle.diagram.proofs.PartLaws.{leaf_apart, skipped_parts_are, level_read, node_parts_are}

-- ---- one edge
-- an edge with its node at a level that it can be parted at is no constant's
some_node : (k : KindName) (v : View) (l : ℕ) (e : PlainEdge) (level : ℕ) (body : List ℕ) → CanPart k v l e → LeadsTo k v e level body → level ≡ l → e.node ≢ 0
some_node k v l e level body can node at = λ leaf. leaf_apart k v l e can leaf (sym at ∙ node.level_is)

pub body_there : (k : KindName) (v : View) (l : ℕ) (e : PlainEdge) (level : ℕ) (body : List ℕ) → CanPart k v l e → LeadsTo k v e level body → level ≡ l → IsNodeBody k body
body_there k v l e level body can node at = node.is_body (some_node k v l e level body can node at)

pub parts_by_node : (k : KindName) (v : View) (l : ℕ) (d : Decomp) (e : PlainEdge) (level : ℕ) (body : List ℕ) (result : Result (PlainEdge × PlainEdge) Overflow) → CanPart k v l e →
    d ≡ letter_at v.letters l → LeadsTo k v e level body → ArePartsBy k d l e level body result → ArePartsOf k v l e result
parts_by_node k v l d e level body result can letter node by =
    elim (eqb_tells level l) [
      | inl (_, at) ↦
          let some = some_node k v l e level body can node at in
          node_parts_are k v l d e body level result can letter (node.known some) (node.is_body some)
          (λ f fits is. node.level_is ∙ top_of-node v e.node f (node.known some ∙ ap Some is)) at (by.here at)
      | inr (_, apart) ↦
          subst (ArePartsOf k v l e) (sym (by.above apart))
          (skipped_parts_are k v l e e (skipped_high k d e) can (λ at. apart (node.level_is ∙ sym at)) refl (ap (λ (x : Decomp). skipped_high k x e) letter))
    ]

-- the answer of a kind for a good edge to a node that was read
pub node_split : (k : KindName) (v : View) (d : Decomp) (e : PlainEdge) (level : ℕ) (body : List ℕ) (result : Result (PlainEdge × PlainEdge) Overflow) → IsEdge k v e → e.node ≢ 0 →
    d ≡ letter_at v.letters level → find_in v.store e.node ≡ Some body → IsNodeBody k body → Reads body (λ f. level ≡ f.level) →
    Reads body (λ f. HasParts k d e.root f result) → ArePartsOf k v (top_of v e.node) e result
node_split k v d e level body result good some letter known is_body reads has =
    let is = level_read k v e.node level body known is_body reads in
    subst (λ (l : ℕ). ArePartsOf k v l e result) is
    (node_parts_are k v level d e body level result (can_part_at k v e level good some is) letter known is_body reads refl has)

-- ---- two edges
-- two edges of which one leads to a node, their nodes, and the level of the upper one
pub record AreRead (k : KindName) (v : View) (a b : PlainEdge) (first : ℕ) (first_body : List ℕ) (second : ℕ) (second_body : List ℕ) (level : ℕ) : Type 0 where
  pub first_node : LeadsTo k v a first first_body
  pub second_node : LeadsTo k v b second second_body
  pub level_is : level ≡ upper v a b
  pub can_first : CanPart k v level a
  pub can_second : CanPart k v level b

-- the second was read after the first
pub are_read : (k : KindName) (v w : View) (a b : PlainEdge) (first : ℕ) (first_body : List ℕ) (second : ℕ) (second_body : List ℕ) (level : ℕ) → HaveNode k v a b → w ≡ v →
    LeadsTo k v a first first_body → LeadsTo k w b second second_body → level ≡ min first second → AreRead k v a b first first_body second second_body level
are_read k v w a b first first_body second second_body level have same one other least =
    let two = subst (λ (x : View). LeadsTo k x b second second_body) same other in
    let is = least ∙ ap (λ (n : ℕ). min n second) one.level_is ∙ ap (min (top_of v a.node)) two.level_is in
    record { first_node = one; second_node = two; level_is = is; can_first = can_part_first k v a b level have is; can_second = can_part_second k v a b level have is }

pub are_split : (k : KindName) (v : View) (a b : PlainEdge) (level : ℕ) (p q : PlainEdge × PlainEdge) → level ≡ upper v a b → ArePartsOf k v level a (Ok p) → ArePartsOf k v level b (Ok q) →
    Splits k v a b (Ok (record { level = level; parts = record { low = (p.0, q.0); high = (p.1, q.1) } }))
are_split k v a b level p q is first second = (
  is,
  subst (λ (l : ℕ). ArePartsOfBoth k v l a b (Ok (record { low = (p.0, q.0); high = (p.1, q.1) }))) is
      (λ t u h g. record {
        first_over = h.stands.over;
        second_over = g.stands.over;
        first_low = (first t h).0;
        second_low = (second u g).0;
        first_high = (first t h).1;
        second_high = (second u g).1;
      }),
)

pub split_lies_below : (k : KindName) (v x : View) (a b : PlainEdge) (split : PlainSplit) → HaveNode k v a b → x ≡ v → Splits k v a b (Ok split) → LieBelow k x split.level split.parts
split_lies_below k v x a b split have same splits =
    let level = upper v a b in
    subst (λ (z : View). LieBelow k z split.level split.parts) (sym same)
    (subst (λ (l : ℕ). LieBelow k v l split.parts) (sym splits.0)
    (parts_lie_below k v level a b split.parts (can_part_first k v a b level have refl) (can_part_second k v a b level have refl) splits.1))

pub first_refused : (k : KindName) (v : View) (a b : PlainEdge) (level : ℕ) (o x : Overflow) → level ≡ upper v a b → ArePartsOf k v level a (Err o) →
    ArePartsOfBoth k v (upper v a b) a b (Err x)
first_refused k v a b level o x is are =
    subst (λ (l : ℕ). ArePartsOfBoth k v l a b (Err x)) is (λ t u h g. first_unfit k v level t u (are t h))

pub second_refused : (k : KindName) (v : View) (a b : PlainEdge) (level : ℕ) (o x : Overflow) → level ≡ upper v a b → ArePartsOf k v level b (Err o) →
    ArePartsOfBoth k v (upper v a b) a b (Err x)
second_refused k v a b level o x is are =
    subst (λ (l : ℕ). ArePartsOfBoth k v l a b (Err x)) is (λ t u h g. second_unfit k v level t u (are u g))
