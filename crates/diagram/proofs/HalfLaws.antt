-- The halves of a table by its parts.
use Rattle.std.proofs.Common.{◌≡◌, refl, sym, ◌∙◌, ap, subst, ℕ, suc, ◌+◌, ◌<◌, Bool, true, false, List, [], ◌∷◌, length, drop, arith}
use Rattle.std.specs.Prelude.{Result, Ok, Err, IfOk, not}
use Rattle.std.specs.Result.{IsErrAnd}
use Rattle.word_base.specs.declared.decomp.Decomp.{Decomp}
use Rattle.word_base.specs.declared.decomp.Decomp.TheVariants.{S, P, N}
use Rattle.word_base.specs.declared.kind_name.KindName.{KindName}
use Rattle.word_base.specs.declared.weight.Overflow.{Overflow}
use Rattle.tables.specs.Table.{Table, entry, halves, IsOver, plus, part0, part1}
use Rattle.tables.specs.Pieces.{pieces, add_work}
use Rattle.tables.proofs.PieceLaws.{Covers, HasLetter, covers_on, covers_left, covers_right, covers_both, covers_low, covers_high}
use Rattle.tables.proofs.TableLaws.{plus-minus}
use Rattle.kind_laws.specs.Plain.{PlainEdge, answered}
use Rattle.diagram.specs.Answers.{Answers}
use Rattle.diagram.specs.Calls.{CanPart, ArePartsOf, IsOfBoth}
use Rattle.diagram.specs.Cofactor.{half, cofactor_work, IsHalf}
use Rattle.diagram.specs.View.{View, letter_at, StandsAt, IsEdge, Keeps}
use Rattle.diagram.specs.declared.limit.Limit.{Limit}
use Rattle.diagram.specs.declared.limit.Limit.TheVariants as limit
use Rattle.diagram.proofs.CallLaws.{ran_nothing, answers_then}
use Rattle.diagram.proofs.EachLaws.{part_lies_below, good_answer}
use Rattle.diagram.proofs.JoinCauses.{answers_overflow, refused}
use Rattle.diagram.proofs.LevelLaws.{letters_at, has_letter, stands_somewhere}

-- ---- which half the parts are
-- the letter and the bit whose half is the sum of both parts
abbrev pub is_sum : Decomp → Bool → Bool
is_sum S bit = false
is_sum P bit = bit
is_sum N bit = not bit

half_of_sum : (n : ℕ) (d : Decomp) (bit : Bool) (t : Table) → is_sum d bit ≡ true → IsOver (suc n) t → plus (part0 d t) (part1 d t) ≡ half bit t
half_of_sum n d bit (entry x) is o = absurd o
half_of_sum n S bit (halves lo hi) is o = absurd (cc)
half_of_sum n P false (halves lo hi) is o = absurd (cc)
half_of_sum n P true (halves lo hi) is o = plus-minus n lo hi o.0 o.1
half_of_sum n N true (halves lo hi) is o = absurd (cc)
half_of_sum n N false (halves lo hi) is o = plus-minus n hi lo o.1 o.0

-- ---- a sum of both parts
-- the operands are parts of the table, and the sum is the half
cofactor_covers_sum : (k : KindName) (ds : List Decomp) (l : ℕ) (d : Decomp) (bit : Bool) (t : Table) → HasLetter k ds l d → IsOver (suc (length (drop (l + 1) ds))) t →
    plus (part0 d t) (part1 d t) ≡ half bit t → Covers k ds (cofactor_work bit l t) (add_work (l + 1) (part0 d t) (part1 d t))
cofactor_covers_sum k ds l d bit t at o is =
    let whole = cofactor_work bit l t in
    let p = part0 d t in
    let q = part1 d t in
    let table = covers_left k ds (pieces l (t ∷ [])) (pieces (l + 1) (half bit t ∷ [])) in
    let sum = covers_right k ds (pieces l (t ∷ [])) (pieces (l + 1) (half bit t ∷ [])) in
    covers_both k ds whole (pieces (l + 1) (p ∷ [])) (pieces (l + 1) (q ∷ plus p q ∷ []))
    (covers_on k ds whole _ _ table (covers_low k ds l d t at o))
    (covers_both k ds whole (pieces (l + 1) (q ∷ [])) (pieces (l + 1) (plus p q ∷ []))
    (covers_on k ds whole _ _ table (covers_high k ds l d t at o))
    (subst (λ (u : Table). Covers k ds whole (pieces (l + 1) (u ∷ []))) (sym is) sum))

pub sum_is_half : (k : KindName) (v w x : View) (l : ℕ) (d : Decomp) (bit : Bool) (e low high : PlainEdge) (r : Result PlainEdge Limit) → letter_at v.letters l ≡ d →
    is_sum d bit ≡ true → l < length v.letters → w ≡ v → ArePartsOf k v l e (Ok (low, high)) → Keeps w x → IsOfBoth plus add_work k w x low high r →
    IsHalf k v x l bit e r
sum_is_half k v w x l d bit e low high r letter sums within same are keeps sum t h =
    let both = are t h in
    let p = part0 d t in
    let q = part1 d t in
    let work = cofactor_work bit l t in
    let lows = subst (λ (c : Decomp). StandsAt k v (l + 1) (part0 c t) low) letter both.0 in
    let highs = subst (λ (c : Decomp). StandsAt k v (l + 1) (part1 c t) high) letter both.1 in
    let from = subst (λ (z : View). IsOfBoth plus add_work k z x low high r) same sum in
    let kept = subst (λ (z : View). Keeps z x) same keeps in
    let at = subst (HasLetter k v.letters l) letter (has_letter k v l h.allowed within) in
    let over = subst (λ (ds : List Decomp). IsOver (length ds) t) (letters_at v.letters l within) h.stands.over in
    let is = half_of_sum (length (drop (l + 1) v.letters)) d bit t sums over in
    subst (λ (u : Table). Answers k v x work (l + 1) u r) is
    (answers_then k v v x work (add_work (l + 1) p q) (l + 1) (plus p q) r (ran_nothing k v work) kept
    (cofactor_covers_sum k v.letters l d bit t at over is) (from (l + 1) p q lows highs))

-- ---- no parts
pub no_half : {T : Type 0} (k : KindName) (v w : View) (l : ℕ) (bit : Bool) (e : PlainEdge) (o : Overflow) (f : T → PlainEdge) (result : Result T Limit) → w ≡ v →
    ArePartsOf k v l e (Err o) → IsErrAnd result (λ y. y ≡ limit.Overflow) → IsHalf k v w l bit e (answered f result)
no_half k v w l bit e o f result same are is t h =
    let work = cofactor_work bit l t in
    let unfit = (covers_left k v.letters (pieces l (t ∷ [])) (pieces (l + 1) (half bit t ∷ []))).unfit (record { level = l; table = t }, (0, omega arith, refl), are t h) in
    refused k v w work (l + 1) (half bit t) f result limit.Overflow is
    (subst (λ (x : View). Answers k v x work (l + 1) (half bit t) (Err limit.Overflow)) (sym same) (answers_overflow k v work (l + 1) (half bit t) unfit))

-- ---- both parts are good edges, also after the call that told them
pub parts_good : (k : KindName) (v w : View) (l : ℕ) (e low high : PlainEdge) → CanPart k v l e → w ≡ v → ArePartsOf k v l e (Ok (low, high)) → IsEdge k w low × IsEdge k w high
parts_good k v w l e low high can same are =
    let lies = part_lies_below k v l e low high can are in
    subst (λ (x : View). IsEdge k x low × IsEdge k x high) (sym same) (lies.low_lies.good, lies.high_lies.good)

-- the letter that was read
pub letter_read : (v w : View) (l : ℕ) (d : Decomp) → w ≡ v → d ≡ letter_at w.letters l → letter_at v.letters l ≡ d
letter_read v w l d same is = ap (λ (x : View). letter_at x.letters l) (sym same) ∙ sym is

-- a half that is answered is a good edge
pub half_good : {T : Type 0} (k : KindName) (v w : View) (l : ℕ) (bit : Bool) (e : PlainEdge) (f : T → PlainEdge) (result : Result T Limit) → CanPart k v l e →
    IsHalf k v w l bit e (answered f result) → IfOk result (λ x. IsEdge k w (f x))
half_good k v w l bit e f result can is =
    let below = can.below in
    let t = stands_somewhere k v e l can.good can.not_above (omega arith) in
    good_answer k v w (cofactor_work bit l t.0) (l + 1) (half bit t.0) f result (is t.0 t.1)
