-- Lists of nodes that have with each node all below it.
use Rattle.std.proofs.Common.{◌≡◌, refl, ◌∙◌, ap, subst, ℕ, ◌+◌, ◌≤◌, List, ◌∷◌, true, arith, inl, inr}
use Rattle.std.specs.Prelude.{if◌then◌else◌}
use Rattle.tables.specs.Tree.{Weights, Shape, leaf, node}
use Rattle.tables.specs.Canonical.{IsNodeOf, has, add_nodes}
use Rattle.tables.proofs.NodeLaws.{nodes_are_added}
use Rattle.diagram.specs.Below.{IsClosed, Descends}

-- ---- nodes below nodes
pub below_below : (s n m : Shape) → IsNodeOf n s → IsNodeOf m n → IsNodeOf m s
below_below leaf n m h g = absurd h
below_below (node l a s b r) n m (inl e) g = subst (IsNodeOf m) e g
below_below (node l a s b r) n m (inr (inl h)) g = inr (inl (below_below s n m h g))
below_below (node l a s b r) n m (inr (inr h)) g = inr (inr (below_below r n m h g))

-- a node below a level has a level from there on
pub from_level : (m : ℕ) (s : Shape) (l : ℕ) (a : Weights) (low : Shape) (b : Weights) (high : Shape) → Descends m s → IsNodeOf (node l a low b high) s → m ≤ l
from_level m leaf l a low b high d h = absurd h
from_level m (node n c s e r) l a low b high d (inl is) =
    let same : l ≡ n = ap level is in
    let from = d.0 in
    omega arith
  where
    level : Shape → ℕ
    level leaf = 0
    level (node k x y z w) = k
from_level m (node n c s e r) l a low b high d (inr (inl h)) =
    let from = d.0 in
    let deeper = from_level (n + 1) s l a low b high d.1 h in
    omega arith
from_level m (node n c s e r) l a low b high d (inr (inr h)) =
    let from = d.0 in
    let deeper = from_level (n + 1) r l a low b high d.2 h in
    omega arith

-- ---- what is found with all below it
pub added_closed : (s : Shape) (found : List Shape) → IsClosed found → IsClosed (add_nodes s found)
added_closed s found closed x n h below = elim ((nodes_are_added s found x).0 h) [
  | inl old ↦ (nodes_are_added s found n).1 (inl (closed x n old below))
  | inr new ↦ (nodes_are_added s found n).1 (inr (below_below s x n new below))
]

-- a shape all of whose nodes were found adds none
pub none_added : (s : Shape) (found : List Shape) → ((n : Shape) → IsNodeOf n s → has found n ≡ true) → add_nodes s found ≡ found
none_added leaf found all = refl
none_added (node l a s b r) found all =
    let here = node l a s b r in
    let low : add_nodes s found ≡ found = none_added s found (λ n h. all n (inr (inl h))) in
    let high : add_nodes r found ≡ found = none_added r found (λ n h. all n (inr (inr h))) in
    let both : add_nodes r (add_nodes s found) ≡ found = ap (add_nodes r) low ∙ high in
    ap (λ (ts : List Shape). if has ts here then ts else here ∷ ts) both ∙ ap (λ b. if b then found else here ∷ found) (all here (inl refl))

pub known_adds_none : (s : Shape) (found : List Shape) → IsClosed found → has found s ≡ true → add_nodes s found ≡ found
known_adds_none s found closed h = none_added s found (λ n below. closed s n h below)
