-- Single words: names of files, kinds and methods.
use Rattle.std.specs.Prelude.{◌≡◌, ℕ, ◌==◌, Bool, true, false, not, List, [], ◌∷◌, codes, map, Option, Some, None, if◌then◌else◌, refl}
use Rattle.std.specs.Borrow.{Bor}
use Rattle.std.specs.Str.{bytes_eq}
use Rattle.checks.specs.declared.method.Method.{Method}
use Rattle.checks.specs.declared.method.Method.TheVariants.{Forward, Backward}
use Rattle.word_base.specs.declared.kind_name.KindName.{KindName}
use Rattle.word_base.specs.declared.kind_name.KindName.TheVariants.{Evbdd, StarBmd, Hdd, KStarBmd}

-- the bytes of each word
abbrev pub texts : List (Bor (List ℕ)) → List (List ℕ)
texts words = map (λ word. word.now) words

-- not empty, and not beginning with -
abbrev pub is_name : List ℕ → Bool
is_name [] = false
is_name (byte ∷ bytes) = not (byte == 45)

-- the kind that a word names
abbrev pub kind_of : List ℕ → Option KindName
kind_of word =
    if bytes_eq word (codes "evbdd") then Some Evbdd
    else (if bytes_eq word (codes "star_bmd") then Some StarBmd
    else (if bytes_eq word (codes "hdd") then Some Hdd
    else (if bytes_eq word (codes "k_star_bmd") then Some KStarBmd else None)))

-- the method that a word names
abbrev pub method_of : List ℕ → Option Method
method_of word =
    if bytes_eq word (codes "forward") then Some Forward
    else (if bytes_eq word (codes "backward") then Some Backward else None)

a_name : is_name (codes "a-b") ≡ true
a_name = refl

an_option_is_no_name : is_name (codes "--kind") ≡ false
an_option_is_no_name = refl

the_empty_word_is_no_name : is_name [] ≡ false
the_empty_word_is_no_name = refl

a_kind : kind_of (codes "k_star_bmd") ≡ Some KStarBmd
a_kind = refl

no_kind : kind_of (codes "bdd") ≡ None
no_kind = refl

a_method : method_of (codes "backward") ≡ Some Backward
a_method = refl
