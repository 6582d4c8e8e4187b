-- The name at the front of a text, as long as it can be.
use Rattle.std.specs.Prelude.{◌≡◌, ℕ, not, List, take, drop, codes, refl}
use Rattle.std.specs.List.{position_or_len}
use Rattle.circuits.specs.Names.{is_name_byte}

-- how many bytes of a name are at the front
abbrev pub name_len : List ℕ → ℕ
name_len text = position_or_len (λ b. not (is_name_byte b)) text

abbrev pub front_name : List ℕ → List ℕ
front_name text = take (name_len text) text

abbrev pub behind_name : List ℕ → List ℕ
behind_name text = drop (name_len text) text

cut-name : front_name (codes "b[0],a") ≡ codes "b[0]"
cut-name = refl

cut-rest : behind_name (codes "b[0],a") ≡ codes ",a"
cut-rest = refl
