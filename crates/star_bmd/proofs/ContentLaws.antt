-- The weights of nodes of *BMDs, and the content of edges.
use Rattle.std.proofs.Common.{◌≡◌, ◌≢◌, refl, sym, ◌∙◌, ap, ℕ, ℤ, ◌*◌, pos}
use Rattle.std.specs.Prelude.{unsigned_abs, int_div}
use Rattle.std.proofs.Math.Nat.{mul-one}
use Rattle.integers.specs.Gcd.{gcd, signed_gcd}
use Rattle.integers.proofs.Division.{int_div-of_zero}
use Rattle.integers.proofs.GcdLaws.{gcd-multiples}
use Rattle.integers.proofs.SignedGcd.{unsigned_abs-signed_gcd, signed_gcd-quotients}
use Rattle.word_base.specs.declared.kind_name.KindName.TheVariants.{StarBmd}
use Rattle.tables.proofs.KindLaws.{by_joins}
use Rattle.star_bmd.specs.Laws.{HasReducedNode, NodesAreReduced, ReducedKeepsContent}
use Rattle.star_bmd.proofs.JoinLaws.{divisor-nonzero}

quotients : (a b : ℤ) → signed_gcd a b (pos 0) ≢ pos 0 → signed_gcd (int_div a (signed_gcd a b (pos 0))) (int_div b (signed_gcd a b (pos 0))) (pos 0) ≡ pos 1
quotients a b some =
    let g : ℤ = signed_gcd a b (pos 0) in
    ap (signed_gcd (int_div a g) (int_div b g)) (sym (int_div-of_zero g)) ∙ signed_gcd-quotients a b (pos 0) some

pub nodes_are_reduced : NodesAreReduced
nodes_are_reduced = by_joins StarBmd (λ t. HasReducedNode t.shape) (λ c. tt)
    (λ d ds l low high j p q s.
    quotients low.root.weight high.root.weight
    (divisor-nonzero low.root.weight high.root.weight (signed_gcd low.root.weight high.root.weight (pos 0)) refl s))

pub reduced_keeps_content : ReducedKeepsContent
reduced_keeps_content d root f h =
    let one : gcd (unsigned_abs f.low_weight) (unsigned_abs f.high_weight) ≡ 1 =
    sym (unsigned_abs-signed_gcd f.low_weight f.high_weight (pos 0)) ∙ ap unsigned_abs h in
    sym (gcd-multiples root.weight f.low_weight f.high_weight ∙ ap (λ (n : ℕ). unsigned_abs root.weight * n) one ∙ mul-one (unsigned_abs root.weight))
