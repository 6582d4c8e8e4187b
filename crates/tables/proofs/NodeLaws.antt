-- Lists of the nodes of a shape.
use Rattle.std.proofs.Common.{◌≡◌, refl, sym, ◌∙◌, ap, List, [], ◌∷◌, Bool, true, false, ◌⊎◌, inl, inr}
use Rattle.std.specs.Prelude.{◌||◌, if◌then◌else◌}
use Rattle.std.specs.List.{AllByRecursion, IsDistinct}
use Rattle.std.proofs.lemmas.Bool.{or_cases, or_left, or_right}
use Rattle.std.proofs.lemmas.Map.Keys.{IsDistinct-cons}
use Rattle.tables.specs.Tree.{Shape, leaf, node, same_shape}
use Rattle.tables.specs.Canonical.{IsNodeOf, has, add_nodes}
use Rattle.tables.specs.Laws.{NodesAreAdded, NodesAreListed, NodesAreDistinct, ListedNodesAreDistinct}
use Rattle.tables.proofs.TreeLaws.{chosen, same_shape-same, same_shape-refl}

-- ---- tests
or_neither : (a b : Bool) → (a || b) ≡ false → (a ≡ false) × (b ≡ false)
or_neither true b h = absurd (cc)
or_neither false b h = (refl, h)

same_shape-sym : (s t : Shape) → same_shape t s ≡ false → same_shape s t ≡ false
same_shape-sym s t h = by_test (same_shape s t) refl
  where
    by_test : (b : Bool) → same_shape s t ≡ b → b ≡ false
    by_test false e = refl
    by_test true e =
        let same : s ≡ t = same_shape-same s t e in
        let back : same_shape t s ≡ true = ap (λ (u : Shape). same_shape t u) same ∙ same_shape-refl t in
        absurd (cc)

-- ---- one more node
abbrev pub add_node : Shape → List Shape → List Shape
add_node n found = if has found n then found else n ∷ found

add_node-from : (s n : Shape) (found : List Shape) → has (add_node s found) n ≡ true → (n ≡ s) ⊎ (has found n ≡ true)
add_node-from s n found = chosen (λ ts. has ts n ≡ true → (n ≡ s) ⊎ (has found n ≡ true)) (has found s) found (s ∷ found)
    (λ e h. inr h)
    (λ e h. elim (or_cases (same_shape s n) (has found n) h) [
      | inl p ↦ inl (sym (same_shape-same s n p))
      | inr q ↦ inr q
    ])

add_node-keeps : (s n : Shape) (found : List Shape) → has found n ≡ true → has (add_node s found) n ≡ true
add_node-keeps s n found h = chosen (λ ts. has ts n ≡ true) (has found s) found (s ∷ found) (λ e. h) (λ e. or_right (same_shape s n) (has found n) h)

add_node-has : (s : Shape) (found : List Shape) → has (add_node s found) s ≡ true
add_node-has s found = chosen (λ ts. has ts s ≡ true) (has found s) found (s ∷ found) (λ e. e) (λ e. or_left (same_shape s s) (has found s) (same_shape-refl s))

differs_from_all : (s : Shape) (found : List Shape) → has found s ≡ false → AllByRecursion (λ t. same_shape s t ≡ false) found
differs_from_all s [] h = tt
differs_from_all s (t ∷ ts) h =
    let both = or_neither (same_shape t s) (has ts s) h in
    (same_shape-sym s t both.0, differs_from_all s ts both.1)

add_node-distinct : (s : Shape) (found : List Shape) → IsDistinct same_shape found → IsDistinct same_shape (add_node s found)
add_node-distinct s found h = chosen (IsDistinct same_shape) (has found s) found (s ∷ found) (λ e. h) (λ e. IsDistinct-cons same_shape s found (differs_from_all s found e) h)

-- ---- all nodes of a shape
nodes-from : (s : Shape) (found : List Shape) (n : Shape) → has (add_nodes s found) n ≡ true → (has found n ≡ true) ⊎ IsNodeOf n s
nodes-from leaf found n h = inl h
nodes-from (node l a s b r) found n h = elim (add_node-from (node l a s b r) n (add_nodes r (add_nodes s found)) h) [
  | inl e ↦ inr (inl e)
  | inr q ↦ elim (nodes-from r (add_nodes s found) n q) [
    | inl p ↦ elim (nodes-from s found n p) [ inl old ↦ inl old | inr new ↦ inr (inr (inl new)) ]
    | inr new ↦ inr (inr (inr new))
  ]
]

-- what was found is kept
nodes-keep : (s : Shape) (found : List Shape) (n : Shape) → has found n ≡ true → has (add_nodes s found) n ≡ true
nodes-keep leaf found n h = h
nodes-keep (node l a s b r) found n h =
    add_node-keeps (node l a s b r) n (add_nodes r (add_nodes s found)) (nodes-keep r (add_nodes s found) n (nodes-keep s found n h))

nodes-have : (s : Shape) (found : List Shape) (n : Shape) → IsNodeOf n s → has (add_nodes s found) n ≡ true
nodes-have leaf found n h = absurd h
nodes-have (node l a s b r) found n h =
    let here = node l a s b r in
    let below = add_nodes r (add_nodes s found) in
    elim h [
      | inl e ↦ ap (has (add_node here below)) e ∙ add_node-has here below
      | inr q ↦ elim q [
        | inl low ↦ add_node-keeps here n below (nodes-keep r (add_nodes s found) n (nodes-have s found n low))
        | inr high ↦ add_node-keeps here n below (nodes-have r (add_nodes s found) n high)
      ]
    ]

pub nodes_are_added : NodesAreAdded
nodes_are_added s found n = (
  nodes-from s found n,
  λ h. elim h [ inl old ↦ nodes-keep s found n old | inr new ↦ nodes-have s found n new ],
)

pub nodes_are_listed : NodesAreListed
nodes_are_listed s n = (
  λ h. elim (nodes-from s [] n h) [ inl none ↦ absurd (cc) | inr new ↦ new ],
  nodes-have s [] n,
)

pub nodes_are_distinct : NodesAreDistinct
nodes_are_distinct leaf found h = h
nodes_are_distinct (node l a s b r) found h =
    add_node-distinct (node l a s b r) (add_nodes r (add_nodes s found))
    (nodes_are_distinct r (add_nodes s found) (nodes_are_distinct s found h))

pub none_distinct : IsDistinct same_shape []
unfolding IsDistinct
none_distinct = tt

pub listed_nodes_are_distinct : ListedNodesAreDistinct
listed_nodes_are_distinct s = nodes_are_distinct s [] none_distinct
