-- The names of nets, and the number of a name.
use Rattle.std.specs.Prelude.{◌≡◌, ℕ, Bool, true, false, not, ◌&&◌, List, ◌++◌, map, Option, Some, None, codes, nat_eq, nat_lt, refl, position}
use Rattle.std.specs.List.{list_any, list_all}
use Rattle.std.specs.Str.{bytes_eq}
use Rattle.circuits.specs.Circuit.{Circuit}
use Rattle.circuits.specs.Examples.{half}

-- what a name is made of, from 33 to 126, and none of ( ) , = #
abbrev pub is_name_byte : ℕ → Bool
is_name_byte b = nat_lt 32 b && nat_lt b 127 && not (list_any (nat_eq b) (codes "(),=#"))

name-bytes : list_all is_name_byte (codes "!c1[0]~") ≡ true
name-bytes = refl

other-bytes : list_any is_name_byte (codes " (),=#\t") ≡ false
other-bytes = refl

-- by the number of the net
abbrev pub names_of : Circuit → List (List ℕ)
names_of c = c.inputs ++ map (λ gate. gate.name) c.gates

-- the first place of a name
abbrev pub place_of : List (List ℕ) → List ℕ → Option ℕ
place_of names name = position (bytes_eq name) names

abbrev pub net_of : Circuit → List ℕ → Option ℕ
net_of c name = place_of (names_of c) name

half-c : net_of half (codes "c") ≡ Some 3
half-c = refl

half-t : net_of half (codes "t") ≡ None
half-t = refl
