-- The first line of a text.
use Rattle.std.proofs.Common.{◌≡◌, ℕ, suc, ◌<◌, ◌==◌, Bool, true, not, List, [], ◌∷◌, ◌++◌, length, take, drop, Some, None, refl, ap, ◌∙◌, arith, position}
use Rattle.std.specs.List.{list_all}
use Rattle.std.proofs.lemmas.Bool.{eqb-true, and_parts, not-true}
use Rattle.texts.specs.Lines.{lines}
use Rattle.texts.proofs.Places.{splits, passes_nowhere}

abbrev pub is_end : ℕ → Bool
is_end b = b == 10

pub lines_ended : (front rest : List ℕ) → list_all (λ b. not (is_end b)) front ≡ true → lines (front ++ 10 ∷ rest) ≡ front ∷ lines rest
lines_ended [] rest e = refl
lines_ended (b ∷ front) rest e =
    let parts = and_parts (not (is_end b)) (list_all (λ b. not (is_end b)) front) e in
    rw (not-true (is_end b) parts.0, lines_ended front rest parts.1) refl

pub lines_last : (b : ℕ) (front : List ℕ) → list_all (λ b. not (is_end b)) (b ∷ front) ≡ true → lines (b ∷ front) ≡ (b ∷ front) ∷ []
lines_last b [] e =
    let parts = and_parts (not (is_end b)) true e in
    rw (not-true (is_end b) parts.0) refl
lines_last b (c ∷ front) e =
    let parts = and_parts (not (is_end b)) (list_all (λ b. not (is_end b)) (c ∷ front)) e in
    rw (not-true (is_end b) parts.0, lines_last c front parts.1) refl

pub first_line : (text : List ℕ) (k : ℕ) → position is_end text ≡ Some k → lines text ≡ take k text ∷ lines (drop (suc k) text)
first_line text k e =
    let s = splits is_end text k e in
    let ended : s.here ≡ 10 = eqb-true s.here 10 s.passes in
    ap lines (s.whole ∙ ap (λ b. take k text ++ b ∷ drop (suc k) text) ended) ∙ lines_ended (take k text) (drop (suc k) text) s.before

pub last_line : (text : List ℕ) → 0 < length text → position is_end text ≡ None → lines text ≡ text ∷ []
last_line [] some e = absurd (omega arith)
last_line (b ∷ text) some e = lines_last b text (passes_nowhere is_end (b ∷ text) e)
