-- How pairs are read from the front.
use Rattle.std.proofs.Common.{◌≡◌, ◌∙◌, ℕ, ◌-◌, ◌<◌, ◌≤◌, List, [], ◌∷◌, length, get_or, take, drop, Option, Some, refl, ap, arith}
use Rattle.std.specs.Borrow.{Bor}
use Rattle.std.specs.Option.{option_and_then}
use Rattle.std.proofs.lemmas.List.{take_all, length-drop}
use Rattle.settings.specs.declared.given.Given.{Given}
use Rattle.settings.specs.Pairs.{pairs, with_pair}
use Rattle.settings.specs.Words.{texts}

pub behind : {A : Type 0} (k : ℕ) (xs : List A) → take (length xs - k) (drop k xs) ≡ drop k xs
behind k xs = take_all (length xs - k) (drop k xs) (omega (arith, length-drop k xs))

-- with more than two words left, the first two are a pair
pub takes_pair : (given : Given) (words : List (Bor (List ℕ))) (x : Bor (List ℕ)) → 2 < length words →
    pairs given (texts words)
    ≡ option_and_then (λ g. pairs g (texts (drop 2 words))) (with_pair given (get_or words 0 x).now (get_or words 1 x).now)
takes_pair given [] x h = absurd (omega arith)
takes_pair given (a ∷ []) x h = absurd (omega arith)
takes_pair given (a ∷ b ∷ []) x h = absurd (omega arith)
takes_pair given (a ∷ b ∷ c ∷ more) x h = refl

-- with two words left or fewer, all pairs are read
pub takes_last : (given : Given) (words : List (Bor (List ℕ))) → length words ≤ 2 → pairs given (texts words) ≡ Some (given, texts words)
takes_last given [] h = refl
takes_last given (a ∷ []) h = refl
takes_last given (a ∷ b ∷ []) h = refl
takes_last given (a ∷ b ∷ c ∷ more) h = absurd (omega arith)
