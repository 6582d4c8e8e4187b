-- The inputs of a gate are all names of their text.
use Rattle.std.proofs.Common.{◌≡◌, ℕ, List, [], ◌∷◌, length, filter_map, unwrap_or, Option, Some, None, option_map, refl, ap, ◌∙◌}
use Rattle.bench_reader.specs.Forms.{names, names_or_none}
use Rattle.bench_reader.specs.Symbols.{Symbol, name, closing, comma}
use Rattle.bench_reader.specs.Views.{name_text}

name_more : (a : List ℕ) (more : List Symbol) (o : Option (List (List ℕ))) (ns : List (List ℕ)) → ((ms : List (List ℕ)) → o ≡ Some ms → filter_map name_text more ≡ ms)
    → option_map (λ others. a ∷ others) o ≡ Some ns → a ∷ filter_map name_text more ≡ ns
name_more a more None ns h e = absurd cc
name_more a more (Some ms) ns h e = let first : a ∷ ms ≡ ns = cc in ap (λ others. a ∷ others) (h ms refl) ∙ first

names_listed : (s : List Symbol) (ns : List (List ℕ)) → names s ≡ Some ns → filter_map name_text s ≡ ns
names_listed (name a ∷ closing ∷ []) ns e = cc
names_listed (name a ∷ comma ∷ more) ns e = name_more a more (names more) ns (names_listed more) e
names_listed s ns e = absurd cc

listed : (s : List Symbol) (o : Option (List (List ℕ))) (count : ℕ) → names s ≡ o → option_map length o ≡ Some count → filter_map name_text s ≡ unwrap_or o []
listed s None count is e = absurd cc
listed s (Some ns) count is e = names_listed s ns is

pub inputs_listed : (s : List Symbol) (count : ℕ) → option_map length (names_or_none s) ≡ Some count → filter_map name_text s ≡ unwrap_or (names_or_none s) []
inputs_listed (closing ∷ []) count e = refl
inputs_listed s count e = listed s (names s) count refl e
