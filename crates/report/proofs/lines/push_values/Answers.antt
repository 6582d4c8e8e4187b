use Rattle.std.proofs.Common.{◌≡◌, ◌++◌, List, ℕ, ℤ, codes, append_assoc, ap, ◌∙◌, to_z, of_z}
use Rattle.std.specs.Fmt.{signed_decimal}
use Rattle.std.specs.String.{string_bytes}
use Rattle.std.specs.Int.{w128}
use Rattle.std.proofs.lemmas.Int.{to_z-of_z, fits_signed_from_abs}
use Rattle.word_base.specs.Range.{InRange}
use Rattle.report.proofs.lines.push_values.Goals as goal

-- what is written of a weight that was read from w
written : (z w : ℤ) → z ≡ w → InRange z → signed_decimal (to_z w128 (of_z w128 z)) ≡ signed_decimal w
written z w is_w in_range = ap signed_decimal (to_z-of_z w128 z (fits_signed_from_abs w128 z in_range) ∙ is_w)

-- the pieces, joined from the left
joined : (left right : List ℕ) → codes "different left " ++ (left ++ (codes " right " ++ (right ++ codes " at")))
    ≡ codes "different left " ++ left ++ codes " right " ++ right ++ codes " at"
joined left right = simp append_assoc

pub returns : goal.returns
returns c =
    let left = written _ _ c.get-left.ensures.value c.get-left.ensures.in_range in
    let right = written _ _ c.get-right.ensures.value c.get-right.ensures.in_range in
    c.in_ok-write.ensures.bytes
    ∙ ap (λ text. string_bytes c.args.text.now ++ text) (joined _ _ ∙ (λ i. codes "different left " ++ left i ++ codes " right " ++ right i ++ codes " at"))
