-- The value of a word is below the power of two of its length.
use Rattle.std.proofs.Common.{◌≡◌, ℕ, ◌+◌, ◌*◌, ◌^◌, ◌≤◌, Bool, true, false, cond, List, [], ◌∷◌, length, ap, arith, add-one}
use Rattle.std.proofs.Math.Nat.{two-pow-succ}
use Rattle.std.specs.List.{fold, enumerate_from}
use Rattle.circuits.specs.Valuation.{bit_of}
use Rattle.spec_lang.specs.Value.{digit_of, word_value, WordValueIsBelow}

bit_times-le : (x : ℕ) (b : Bool) → x * cond b 1 0 ≤ x
bit_times-le x true = let once : x * 1 ≤ x = omega arith in once
bit_times-le x false = let never : x * 0 ≤ x = omega arith in never

-- from place i on, added to what came before
from_place : (values : List Bool) (nets : List ℕ) (i a j : ℕ) → i + length nets ≡ j → fold (λ a (i, net). a + 2 ^ i * digit_of values net) a (enumerate_from i nets) + 2 ^ i ≤ a + 2 ^ j
from_place values [] i a j e =
    let here : i + 0 ≡ j = e in
    let same : 2 ^ i ≡ 2 ^ j = let at : i ≡ j = omega arith in ap (λ k. 2 ^ k) at in
    let done : a + 2 ^ i ≤ a + 2 ^ j = omega arith in
    done
from_place values (net ∷ nets) i a j e =
    let more : i + (length nets + 1) ≡ j = rw add-one e in
    let added : 2 ^ i * digit_of values net ≤ 2 ^ i = bit_times-le (2 ^ i) (bit_of values net) in
    let doubled : 2 ^ (i + 1) ≡ 2 ^ i + 2 ^ i = rw add-one (two-pow-succ i) in
    let now = a + 2 ^ i * digit_of values net in
    let rest = from_place values nets (i + 1) now j (omega arith) in
    let done : fold (λ a (i, net). a + 2 ^ i * digit_of values net) now (enumerate_from (i + 1) nets) + 2 ^ i ≤ a + 2 ^ j = omega arith in
    done

pub word_value_below : WordValueIsBelow
word_value_below values nets =
    let bound : word_value values nets + 1 ≤ 0 + 2 ^ length nets = from_place values nets 0 0 (length nets) (omega arith) in
    omega arith
