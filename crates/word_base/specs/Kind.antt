-- Which decompositions a kind of diagram has.
use Rattle.std.specs.Prelude.{◌≡◌, Bool, true, false, refl}
use Rattle.word_base.specs.declared.decomp.Decomp.{Decomp}
use Rattle.word_base.specs.declared.decomp.Decomp.TheVariants.{S, P, N}
use Rattle.word_base.specs.declared.kind_name.KindName.{KindName}
use Rattle.word_base.specs.declared.kind_name.KindName.TheVariants.{Evbdd, StarBmd, Hdd, KStarBmd}

abbrev pub is_allowed : KindName → Decomp → Bool
is_allowed Evbdd S = true
is_allowed Evbdd P = false
is_allowed Evbdd N = false
is_allowed StarBmd S = false
is_allowed StarBmd P = true
is_allowed StarBmd N = false
is_allowed Hdd d = true
is_allowed KStarBmd d = true

-- the letter of a level for which no other is asked
abbrev pub usual_letter : KindName → Decomp
usual_letter Evbdd = S
usual_letter StarBmd = P
usual_letter Hdd = P
usual_letter KStarBmd = P

usual-allowed : (k : KindName) → is_allowed k (usual_letter k) ≡ true
usual-allowed Evbdd = refl
usual-allowed StarBmd = refl
usual-allowed Hdd = refl
usual-allowed KStarBmd = refl
