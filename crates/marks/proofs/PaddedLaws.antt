-- Stamps as those of more ids.
use Rattle.std.proofs.Common.{◌≡◌, refl, sym, ◌∙◌, ap, subst, ℕ, zero, suc, ◌+◌, ◌-◌, ◌<◌, ◌≤◌, ◌^◌, List, [], ◌∷◌, ◌++◌, false, length, Some, get_or, set, arith, length-set}
use Rattle.std.specs.Prelude.{◌==◌, replicate}
use Rattle.std.proofs.lemmas.Bool.{false_from_ne_true, eqb-true}
use Rattle.std.proofs.lemmas.List.{length-append, length-replicate, append_assoc, append-nil, replicate-append-replicate, set-append_left, get_or_past}
use Rattle.std.proofs.lemmas.Option.{slice_get-get_or, get_or_from_slice_get}
use Rattle.marks.specs.Inside.{marked_under, padded, IsSound, IsStored}
use Rattle.marks.proofs.MarkLaws.{zeros_used, cleared_sound, marked_sound}

length_padded_more : (stamps : List ℕ) (cells : ℕ) → length (padded stamps cells) ≡ length stamps + (cells - length stamps)
length_padded_more stamps cells = length-append stamps (replicate (cells - length stamps) 0) ∙ ap (λ n. length stamps + n) (length-replicate {A = ℕ} (cells - length stamps) 0)

pub length-padded : (stamps : List ℕ) (cells : ℕ) → length stamps ≤ cells → length (padded stamps cells) ≡ cells
length-padded stamps cells within = omega (arith, length_padded_more stamps cells)

pub padded_long : (stamps : List ℕ) (len : ℕ) → len ≤ length (padded stamps len)
padded_long stamps len = omega (arith, length_padded_more stamps len)

pub padded_none : (cells : ℕ) → padded [] cells ≡ replicate cells 0
padded_none cells = let e : cells - 0 ≡ cells = omega arith in ap (λ n. replicate n 0) e

-- stamps that are padded already
pub padded_whole : (stamps : List ℕ) (len : ℕ) → len ≤ length stamps → padded stamps len ≡ stamps
padded_whole stamps len whole = let none : len - length stamps ≡ 0 = omega arith in ap (λ n. stamps ++ replicate n 0) none ∙ append-nil stamps

zeros_join : (stamps : List ℕ) (n m all : ℕ) → n + m ≡ all → (stamps ++ replicate n 0) ++ replicate m 0 ≡ stamps ++ replicate all 0
zeros_join stamps n m all sum =
    append_assoc stamps (replicate n 0) (replicate m 0) ∙ ap (λ zeros. stamps ++ zeros) (replicate-append-replicate n m 0 ∙ ap (λ k. replicate k 0) sum)

pub padded_twice : (stamps : List ℕ) (fewer cells : ℕ) → fewer ≤ cells → padded (padded stamps fewer) cells ≡ padded stamps cells
padded_twice stamps fewer cells within =
    zeros_join stamps (fewer - length stamps) (cells - length (padded stamps fewer)) (cells - length stamps) (omega (arith, length_padded_more stamps fewer))

pub padded_push : (stamps : List ℕ) (len : ℕ) → length stamps < len → padded (stamps ++ 0 ∷ []) len ≡ padded stamps len
padded_push stamps len below =
    let one : (length stamps + 1) - length stamps ≡ 1 = omega arith in
    ap (λ n. padded (stamps ++ replicate n 0) len) (sym one) ∙ padded_twice stamps (length stamps + 1) len (omega arith)

-- a stamp past the end is 0
pub padded_at : (stamps : List ℕ) (cells i : ℕ) → get_or (padded stamps cells) i 0 ≡ get_or stamps i 0
padded_at stamps cells i = same stamps (cells - length stamps) i
  where
    same : (ss : List ℕ) (n i : ℕ) → get_or (ss ++ replicate n 0) i 0 ≡ get_or ss i 0
    same [] zero i = refl
    same [] (suc n) zero = refl
    same [] (suc n) (suc i) = same [] n i
    same (s ∷ ss) n zero = refl
    same (s ∷ ss) n (suc i) = same ss n i

pub padded_set : (stamps : List ℕ) (cells i stamp : ℕ) → i < length stamps → padded (set stamps i stamp) cells ≡ set (padded stamps cells) i stamp
padded_set stamps cells i stamp within =
    ap (λ n. set stamps i stamp ++ replicate (cells - n) 0) (length-set stamps i stamp)
    ∙ sym (set-append_left stamps (replicate (cells - length stamps) 0) i stamp within)

other_stamp_zero : (stamp : ℕ) → 0 < stamp → (0 == stamp) ≡ false
other_stamp_zero stamp some = false_from_ne_true (0 == stamp) (λ e. let same : 0 ≡ stamp = eqb-true 0 stamp e in absurd (omega arith))

-- an id is marked exactly if its stamp is the last one
pub marked_at : (stamps : List ℕ) (cells stamp i : ℕ) → 0 < stamp → get_or (marked_under stamp (padded stamps cells)) i false ≡ (get_or stamps i 0 == stamp)
marked_at stamps cells stamp i some = same (padded stamps cells) i ∙ ap (λ s. s == stamp) (padded_at stamps cells i)
  where
    same : (ss : List ℕ) (i : ℕ) → get_or (marked_under stamp ss) i false ≡ (get_or ss i 0 == stamp)
    same [] i = sym (other_stamp_zero stamp some)
    same (s ∷ ss) zero = refl
    same (s ∷ ss) (suc i) = same ss i

pub marked_by : (stamps : List ℕ) (cells stamp i found : ℕ) → 0 < stamp → i < length stamps → found ≡ get_or stamps i found →
    (found == stamp) ≡ get_or (marked_under stamp (padded stamps cells)) i false
marked_by stamps cells stamp i found some within read =
    let at : get_or stamps i 0 ≡ found = get_or_from_slice_get stamps i found 0 (slice_get-get_or stamps i found within ∙ ap Some (sym read)) in
    ap (λ s. s == stamp) (sym at) ∙ sym (marked_at stamps cells stamp i some)

pub not_marked : (stamps : List ℕ) (cells stamp i : ℕ) → 0 < stamp → length stamps ≤ i → false ≡ get_or (marked_under stamp (padded stamps cells)) i false
not_marked stamps cells stamp i some past =
    sym (marked_at stamps cells stamp i some ∙ ap (λ s. s == stamp) (get_or_past stamps i 0 past) ∙ other_stamp_zero stamp some)

-- the stamps up to an id are written, and then its own
pub padded_mark : (stamps : List ℕ) (cells stamp id : ℕ) → 0 < id → id ≤ cells → padded (set (padded stamps id) (id - 1) stamp) cells ≡ set (padded stamps cells) (id - 1) stamp
padded_mark stamps cells stamp id above within =
    padded_set (padded stamps id) cells (id - 1) stamp (omega (arith, padded_long stamps id))
    ∙ ap (λ ss. set ss (id - 1) stamp) (padded_twice stamps id cells within)

pub stored_mark : (stamps : List ℕ) (cells stamp count capacity id : ℕ) → IsStored stamps cells stamp count capacity → 0 < id → id ≤ cells →
    get_or (marked_under stamp (padded stamps cells)) (id - 1) false ≡ false → IsStored (set (padded stamps id) (id - 1) stamp) cells stamp (count + 1) capacity
stored_mark stamps cells stamp count capacity id held above within free = record {
  sound =
      let place : id - 1 < length (padded stamps cells) = omega (arith, padded_long stamps cells) in
      subst (λ ss. IsSound ss stamp (count + 1)) (sym (padded_mark stamps cells stamp id above within))
      (marked_sound (padded stamps cells) stamp (id - 1) count place free held.sound);
  within = omega (arith, length-set (padded stamps id) (id - 1) stamp, length_padded_more stamps id, held.within);
  capacious = held.capacious;
}

pub padded_zeros : (n cells : ℕ) → n ≤ cells → padded (replicate n 0) cells ≡ replicate cells 0
padded_zeros n cells within =
    ap (λ zeros. padded zeros cells) (sym (padded_none n)) ∙ padded_twice [] n cells within ∙ padded_none cells

-- no stamps are those of no marks
pub none_stored : (cells stamp capacity : ℕ) → 0 < stamp → cells < 2 ^ 32 → cells ≤ capacity → IsStored [] cells stamp 0 capacity
none_stored cells stamp capacity some few capacious =
    let next : (stamp - 1) + 1 ≡ stamp = omega arith in
    let length_is : length (replicate {A = ℕ} cells 0) ≡ cells = length-replicate {A = ℕ} cells 0 in
    record {
      sound = subst (λ ss. IsSound ss stamp 0) (sym (padded_none cells))
          (subst (λ s. IsSound (replicate cells 0) s 0) next (cleared_sound (replicate cells 0) (stamp - 1) (zeros_used cells (stamp - 1)) (omega arith)));
      within = omega arith;
      capacious = capacious;
    }
