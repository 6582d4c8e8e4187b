-- For proofs alone: what holds of the symbols of a text, and of those of a check without a fault.
use Rattle.std.specs.Prelude.{ℕ, Bool, true, not, ◌&&◌, List, length, nat_lt}
use Rattle.std.specs.Char.{is_ascii_digit}
use Rattle.std.specs.List.{list_all}
use Rattle.spec_grammar.specs.Faults.{is_great, is_unknown_name}
use Rattle.spec_grammar.specs.Symbols.{Symbol, digits}
use Rattle.spec_lang.specs.Specification.{Word}

abbrev pub are_digits : List ℕ → Bool
are_digits ds = nat_lt 0 (length ds) && list_all is_ascii_digit ds

-- a number has digits, and these alone
abbrev pub has_digits : Symbol → Bool
has_digits (digits ds) = are_digits ds
has_digits _ = true

abbrev pub is_good : List Word → Symbol → Bool
is_good words symbol = has_digits symbol && not (is_great symbol) && not (is_unknown_name words symbol)
