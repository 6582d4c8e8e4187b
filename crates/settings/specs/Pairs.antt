-- Pairs: an option and its value.
use Rattle.std.specs.Prelude.{ℕ, ◌&&◌, List, [], ◌∷◌, codes, is_none, Option, Some, None, if◌then◌else◌}
use Rattle.std.specs.Borrow.{Bor}
use Rattle.std.specs.Option.{option_and_then, option_map}
use Rattle.std.specs.Str.{bytes_eq}
use Rattle.settings.specs.declared.given.Given.{Given}
use Rattle.settings.specs.Numbers.{number_of}
use Rattle.settings.specs.Words.{kind_of, method_of, texts}

abbrev pub nothing : Given
nothing = record { kind = None; method = None; workers = None; cells = None }

-- what is given with one pair more, where the two words are one and its option is not given yet
abbrev pub with_pair : Given → List ℕ → List ℕ → Option Given
with_pair given option value =
    if bytes_eq option (codes "--kind") && is_none given.kind then option_map (λ k. record given { kind = Some k }) (kind_of value)
    else (if bytes_eq option (codes "--method") && is_none given.method then option_map (λ m. record given { method = Some m }) (method_of value)
    else (if bytes_eq option (codes "--workers") && is_none given.workers then option_map (λ n. record given { workers = Some n }) (number_of value)
    else (if bytes_eq option (codes "--cells") && is_none given.cells then option_map (λ n. record given { cells = Some n }) (number_of value)
    else None)))

-- what the pairs in front give, and the last words, two at most: they are no pair, since names or a size have to follow
abbrev pub pairs : Given → List (List ℕ) → Option (Given × List (List ℕ))
pairs given (option ∷ value ∷ next ∷ more) = option_and_then (λ g. pairs g (next ∷ more)) (with_pair given option value)
pairs given last = Some (given, last)

abbrev pub front_of : Given × Bor (List (Bor (List ℕ))) → Given × List (List ℕ)
front_of front = (front.0, texts front.1.now)
