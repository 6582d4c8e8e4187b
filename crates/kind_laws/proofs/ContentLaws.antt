-- The content of constants, and that of an edge from its two parts.
use Rattle.std.proofs.Common.{◌≡◌, refl, sym, ◌∙◌, ap, ℤ, pos, ◌+ℤ◌, arith}
use Rattle.std.specs.Prelude.{unsigned_abs}
use Rattle.std.proofs.lemmas.Int.{ints}
use Rattle.integers.specs.Gcd.{gcd}
use Rattle.integers.proofs.GcdLaws.{gcd-zero_left, gcd-add}
use Rattle.word_base.specs.declared.decomp.Decomp.{Decomp}
use Rattle.word_base.specs.declared.kind_name.KindName.{KindName}
use Rattle.word_base.specs.declared.kind_name.KindName.TheVariants.{Evbdd, StarBmd, Hdd, KStarBmd}
use Rattle.tables.specs.Fits.{content}
use Rattle.tables.specs.Table.{entry}
use Rattle.tables.specs.Tree.{Weights}
use Rattle.kind_laws.specs.Content.{content_of_edge, ContentOfParts}
use Rattle.kind_laws.specs.Plain.{constant_edge}
use Rattle.kind_laws.specs.declared.fields.Fields.{Fields}

-- the content of a constant's edge is its magnitude
pub content-of_constant : (k : KindName) (c : ℤ) → content_of_edge k (constant_edge k c).root ≡ content (entry c)
content-of_constant Evbdd c = refl
content-of_constant StarBmd c = refl
content-of_constant Hdd c = refl
content-of_constant KStarBmd c = refl

plus_comm : (x y : ℤ) → x +ℤ y ≡ y +ℤ x
plus_comm x y = omega (arith, ints)

pub evbdd-content_of_parts : (d : Decomp) (root : Weights) (f : Fields) → ContentOfParts Evbdd d root f
evbdd-content_of_parts d root f =
    sym (ap (λ (x : ℤ). gcd (unsigned_abs root.weight) (unsigned_abs x)) (plus_comm root.weight f.added) ∙ gcd-add root.weight f.added)

pub hdd-content_of_parts : (d : Decomp) (root : Weights) (f : Fields) → root.weight ≡ pos 0 → ContentOfParts Hdd d root f
hdd-content_of_parts d root f h =
    ap (λ (w : ℤ). gcd (unsigned_abs w) (gcd (unsigned_abs f.low_weight) (unsigned_abs f.high_weight))) h
    ∙ gcd-zero_left (gcd (unsigned_abs f.low_weight) (unsigned_abs f.high_weight))
