-- The content of a table and that of its parts, and that the parts of a table that fits do.
use Rattle.std.proofs.Common.{◌≡◌, refl, sym, ◌∙◌, ap, ℕ, zero, suc, ◌∷◌, ◌&&◌}
use Rattle.std.proofs.lemmas.Bool.{and_parts}
use Rattle.integers.specs.Gcd.{gcd}
use Rattle.integers.proofs.GcdLaws.{gcd_comm, gcd_exchange, gcd-sub}
use Rattle.word_base.specs.declared.decomp.Decomp.TheVariants.{S, P, N}
use Rattle.word_base.specs.declared.kind_name.KindName.{KindName}
use Rattle.tables.specs.Table.{Table, entry, halves, IsOver, minus, part0, part1}
use Rattle.tables.specs.Canonical.{canonical}
use Rattle.tables.specs.Fits.{weights_in_range, difference_in_range, fits, content}
use Rattle.tables.specs.Laws.{ContentOfParts, FitsParts}

-- ---- content

-- what is taken away may be left out
content-minus : (n : ℕ) (t u : Table) → IsOver n t → IsOver n u → gcd (content t) (content (minus u t)) ≡ gcd (content t) (content u)
content-minus zero (entry x) (entry y) o p = gcd-sub x y
content-minus zero (halves a b) u o p = absurd o
content-minus zero (entry x) (halves c d) o p = absurd p
content-minus (suc n) (entry x) u o p = absurd o
content-minus (suc n) (halves a b) (entry y) o p = absurd p
content-minus (suc n) (halves a b) (halves c d) o p =
    gcd_exchange (content a) (content b) (content (minus c a)) (content (minus d b))
    ∙ ap (λ (g : ℕ). gcd g (gcd (content b) (content (minus d b)))) (content-minus n a c o.0 p.0)
    ∙ ap (gcd (gcd (content a) (content c))) (content-minus n b d o.1 p.1)
    ∙ gcd_exchange (content a) (content c) (content b) (content d)

pub content_of_parts : ContentOfParts
content_of_parts d n (entry x) o = absurd o
content_of_parts S n (halves lo hi) o = refl
content_of_parts P n (halves lo hi) o = sym (content-minus n lo hi o.0 o.1)
content_of_parts N n (halves lo hi) o = gcd_comm (content lo) (content hi) ∙ sym (content-minus n hi lo o.1 o.0)

-- ---- fits
pub fits_parts : (k : KindName) → FitsParts k
fits_parts k d ds (entry x) h = (h, h)
fits_parts k d ds (halves lo hi) h =
    let p = part0 d (halves lo hi) in
    let q = part1 d (halves lo hi) in
    let near = difference_in_range k d (canonical k ds 1 p) (canonical k ds 1 q) in
    let rest = (and_parts (weights_in_range (canonical k (d ∷ ds) 0 (halves lo hi)).root) (near && (fits k ds p && fits k ds q)) h).1 in
    let both = (and_parts near (fits k ds p && fits k ds q) rest).1 in
    and_parts (fits k ds p) (fits k ds q) both
