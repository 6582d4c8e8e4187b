-- What stands between white space, and the keyword that a line begins with.
use Rattle.std.specs.Prelude.{◌≡◌, ℕ, Bool, true, false, List, [], ◌∷◌, filter, codes, refl}
use Rattle.std.specs.List.{slice_split, before_first, after_first}
use Rattle.texts.specs.White.{is_white, behind_white}

abbrev pub has_bytes : List ℕ → Bool
has_bytes [] = false
has_bytes (b ∷ more) = true

-- what stands between white space, as long as it can be
abbrev pub fields : List ℕ → List (List ℕ)
fields text = filter has_bytes (slice_split is_white text)

-- the first field of a text, and no bytes where it has none
abbrev pub keyword : List ℕ → List ℕ
keyword text = before_first is_white (behind_white text)

-- what stands behind the first field and one byte of white space
abbrev pub behind_keyword : List ℕ → List ℕ
behind_keyword text = after_first is_white (behind_white text)

three-fields : fields (codes " a[0]\tb  c=\r") ≡ codes "a[0]" ∷ codes "b" ∷ codes "c=" ∷ []
three-fields = refl

no-fields : fields (codes " \t ") ≡ []
no-fields = refl

first-field : keyword (codes "\t word a = b") ≡ codes "word"
first-field = refl

field-alone : behind_keyword (codes " order") ≡ []
field-alone = refl

other-fields : behind_keyword (codes " word  a = b") ≡ codes " a = b"
other-fields = refl

white-alone : keyword (codes " \r") ≡ []
white-alone = refl
