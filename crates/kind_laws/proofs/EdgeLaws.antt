-- Edges with no additive weight beside the other.
use Rattle.std.proofs.Common.{◌≡◌, sym, ◌∙◌, ap, ℕ, ℤ, pos}
use Rattle.kind_laws.specs.Plain.{PlainEdge, plain_edge}

-- the edge of its weights and its node
pub same_numbers : (e : PlainEdge) (w x : ℤ) (n : ℕ) → w ≡ e.root.weight → x ≡ e.root.extra → n ≡ e.node → plain_edge w x n ≡ e
same_numbers e w x n p q r =
    ap (λ (y : ℤ). plain_edge y x n) p ∙ ap (λ (y : ℤ). plain_edge e.root.weight y n) q ∙ ap (plain_edge e.root.weight e.root.extra) r

-- a number in place of an equal additive weight
pub without_extra : (e : PlainEdge) (w x : ℤ) (n : ℕ) → plain_edge w x n ≡ e → e.root.extra ≡ pos 0 → plain_edge w (pos 0) n ≡ e
without_extra e w x n p q =
    ap (λ (y : ℤ). plain_edge w y n) (sym (ap (λ (f : PlainEdge). f.root.extra) p ∙ q)) ∙ p
