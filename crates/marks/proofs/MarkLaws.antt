-- Stamps after a clearing, and after a mark.
use Rattle.std.proofs.Common.{◌≡◌, refl, sym, ◌∙◌, ap, subst, ℕ, zero, suc, ◌+◌, ◌<◌, ◌≤◌, ◌^◌, List, [], ◌∷◌, Bool, true, false, length, get_or, set, arith, get_or-set_same, get_or-set_other, length-set, ⊎_elim}
use Rattle.std.specs.Prelude.{◌==◌, replicate, cond}
use Rattle.std.specs.List.{count_by}
use Rattle.std.proofs.lemmas.Bool.{cases_eq, eq-eqb, eqb-true, false_from_ne_true}
use Rattle.std.proofs.lemmas.List.{map-set}
use Rattle.std.proofs.lemmas.List.Sums.{sum_by-cons, count_by-le-length}
use Rattle.marks.specs.Inside.{marked_under, IsSound}
use Rattle.marks.specs.Marked.{none_of}

-- ---- a clearing
other_stamp : (s stamp : ℕ) → s ≤ stamp → (s == stamp + 1) ≡ false
other_stamp s stamp h = false_from_ne_true (s == stamp + 1) (λ e. let same : s ≡ stamp + 1 = eqb-true s (stamp + 1) e in absurd (omega arith))

-- no stamp is above the last one
abbrev pub AreUsed : List ℕ → ℕ → Type 0
AreUsed stamps stamp = (i : ℕ) → get_or stamps i 0 ≤ stamp

pub none_marked : (stamps : List ℕ) (stamp : ℕ) → AreUsed stamps stamp → marked_under (stamp + 1) stamps ≡ none_of (length stamps)
none_marked [] stamp h = refl
none_marked (s ∷ ss) stamp h = rw (other_stamp s stamp (h 0), none_marked ss stamp (λ i. h (suc i))) refl

none_counted : (stamps : List ℕ) (stamp : ℕ) → AreUsed stamps stamp → count_by (λ s. s == stamp + 1) stamps ≡ 0
none_counted [] stamp h = refl
none_counted (s ∷ ss) stamp h = rw (other_stamp s stamp (h 0)) (none_counted ss stamp (λ i. h (suc i)))

pub cleared_sound : (stamps : List ℕ) (stamp : ℕ) → AreUsed stamps stamp → length stamps < 2 ^ 32 → IsSound stamps (stamp + 1) 0
cleared_sound stamps stamp h few = record {
  some_stamp = omega arith;
  used = λ i. let below = h i in omega arith;
  counted = sym (none_counted stamps stamp h);
  few = few;
}

pub zeros_used : (n stamp : ℕ) → AreUsed (replicate n 0) stamp
zeros_used zero stamp i = omega arith
zeros_used (suc n) stamp zero = omega arith
zeros_used (suc n) stamp (suc i) = zeros_used n stamp i

-- ---- a mark
counted_first : (s : ℕ) (ss : List ℕ) (stamp : ℕ) → count_by (λ s. s == stamp) (s ∷ ss) ≡ cond (s == stamp) 1 0 + count_by (λ s. s == stamp) ss
counted_first s ss stamp = sum_by-cons (λ x. cond (x == stamp) 1 0) s ss

pub counted_more : (stamps : List ℕ) (stamp i : ℕ) → i < length stamps → get_or (marked_under stamp stamps) i false ≡ false →
    count_by (λ s. s == stamp) (set stamps i stamp) ≡ count_by (λ s. s == stamp) stamps + 1
counted_more [] stamp i h free = absurd (omega arith)
counted_more (s ∷ ss) stamp zero h free =
    let e = counted_first stamp ss stamp in
    let f = counted_first s ss stamp in
    let one : ◌≡◌ {A = ℕ} (cond (stamp == stamp) 1 0) 1 = ap (λ (b : Bool). cond {A = ℕ} b 1 0) (eq-eqb stamp stamp refl) in
    let none : ◌≡◌ {A = ℕ} (cond (s == stamp) 1 0) 0 = ap (λ (b : Bool). cond {A = ℕ} b 1 0) free in
    omega (arith, e, f, one, none)
counted_more (s ∷ ss) stamp (suc i) h free =
    let e = counted_first s (set ss i stamp) stamp in
    let f = counted_first s ss stamp in
    let r = counted_more ss stamp i (omega arith) free in
    omega (arith, e, f, r)

pub zeros_unmarked : (n stamp : ℕ) → 0 < stamp → marked_under stamp (replicate n 0) ≡ none_of n
zeros_unmarked zero stamp h = refl
zeros_unmarked (suc n) stamp h =
    let other : (0 == stamp) ≡ false = false_from_ne_true (0 == stamp) (λ e. let same : 0 ≡ stamp = eqb-true 0 stamp e in absurd (omega arith)) in
    rw (other, zeros_unmarked n stamp h) refl

-- a mark that is not set leaves room for one more
pub room_for_one : (stamps : List ℕ) (stamp i count : ℕ) → i < length stamps → get_or (marked_under stamp stamps) i false ≡ false → IsSound stamps stamp count → count < length stamps
room_for_one stamps stamp i count h free sound =
    let more = counted_more stamps stamp i h free in
    let most = count_by-le-length (λ s. s == stamp) (set stamps i stamp) in
    let same = length-set stamps i stamp in
    omega (arith, more, most, same, sound.counted)

pub marked_sound : (stamps : List ℕ) (stamp i count : ℕ) → i < length stamps → get_or (marked_under stamp stamps) i false ≡ false → IsSound stamps stamp count →
    IsSound (set stamps i stamp) stamp (count + 1)
marked_sound stamps stamp i count h free sound = record {
  some_stamp = sound.some_stamp;
  used = λ j. ⊎_elim
      (λ (same : j ≡ i). subst (λ n. get_or (set stamps i stamp) n 0 ≤ stamp) (sym same) (subst (λ n. n ≤ stamp) (sym (get_or-set_same stamps i stamp 0 h)) (omega arith)))
      (λ (apart : j ≡ i → ⊥). subst (λ n. n ≤ stamp) (sym (get_or-set_other stamps i j stamp 0 apart)) (sound.used j))
      (cases_eq j i);
  counted = let more = counted_more stamps stamp i h free in omega (arith, more, sound.counted);
  few = subst (λ n. n < 2 ^ 32) (sym (length-set stamps i stamp)) sound.few;
}

pub marked_with : (stamps : List ℕ) (stamp i : ℕ) → marked_under stamp (set stamps i stamp) ≡ set (marked_under stamp stamps) i true
marked_with stamps stamp i =
    map-set (λ s. s == stamp) stamps i stamp ∙ ap (λ b. set (marked_under stamp stamps) i b) (eq-eqb stamp stamp refl)
