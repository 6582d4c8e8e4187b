-- A body has one reading.
use Rattle.std.proofs.Common.{◌≡◌, sym, ◌∙◌, ap, ℕ, ◌+◌, ◌*◌, ◌/◌, ◌%◌, ◌^◌, ◌<◌, ℤ, arith}
use Rattle.std.specs.Int.{w128, cast_unsigned, cast_signed}
use Rattle.std.proofs.lemmas.Int.{to_z-of_z, fits_signed_from_abs}
use Rattle.tables.specs.Tree.{Weights}
use Rattle.word_base.specs.Range.{InRange}
use Rattle.word_base.specs.declared.kind_name.KindName.{KindName}
use Rattle.word_base.specs.declared.kind_name.KindName.TheVariants.{Evbdd, StarBmd, Hdd, KStarBmd}
use Rattle.kind_laws.specs.declared.fields.Fields.{Fields}
use Rattle.kind_laws.specs.Body.{body_of, FitsBody, low_weights, high_weights, LeavesZeros}

-- a weight is what its two words make
pub weight-from_words : (z : ℤ) → InRange z → cast_signed w128 (cast_unsigned w128 z) ≡ z
weight-from_words z h = to_z-of_z w128 z (fits_signed_from_abs w128 z h)

same_quotient_and_rest : (m n : ℕ) → m % 2 ^ 64 ≡ n % 2 ^ 64 → m / 2 ^ 64 ≡ n / 2 ^ 64 → m ≡ n
same_quotient_and_rest m n p q = omega arith

same_words : (y z : ℤ) → InRange y → InRange z → cast_unsigned w128 y % 2 ^ 64 ≡ cast_unsigned w128 z % 2 ^ 64 →
    cast_unsigned w128 y / 2 ^ 64 ≡ cast_unsigned w128 z / 2 ^ 64 → y ≡ z
same_words y z h k p q =
    sym (weight-from_words y h)
    ∙ ap (cast_signed w128) (same_quotient_and_rest (cast_unsigned w128 y) (cast_unsigned w128 z) p q)
    ∙ weight-from_words z k

same_low : (a b c d : ℕ) → a < 2 ^ 32 → c < 2 ^ 32 → a + 2 ^ 32 * b ≡ c + 2 ^ 32 * d → a ≡ c
same_low a b c d h k e = omega arith

same_high : (a b c d : ℕ) → a < 2 ^ 32 → c < 2 ^ 32 → a + 2 ^ 32 * b ≡ c + 2 ^ 32 * d → b ≡ d
same_high a b c d h k e = omega arith

-- equal fields make equal records
pub same_fields : (f g : Fields) → f.level ≡ g.level → f.low ≡ g.low → f.high ≡ g.high → f.low_weight ≡ g.low_weight →
    f.added ≡ g.added → f.high_weight ≡ g.high_weight → f ≡ g
same_fields f g p q r s t u =
    let make : ℕ → ℕ → ℕ → ℤ → ℤ → ℤ → Fields = λ a b c d e h. record { level = a; low = b; high = c; low_weight = d; added = e; high_weight = h } in
    ap (λ (x : ℕ). make x f.low f.high f.low_weight f.added f.high_weight) p
    ∙ ap (λ (x : ℕ). make g.level x f.high f.low_weight f.added f.high_weight) q
    ∙ ap (λ (x : ℕ). make g.level g.low x f.low_weight f.added f.high_weight) r
    ∙ ap (λ (x : ℤ). make g.level g.low g.high x f.added f.high_weight) s
    ∙ ap (λ (x : ℤ). make g.level g.low g.high g.low_weight x f.high_weight) t
    ∙ ap (λ (x : ℤ). make g.level g.low g.high g.low_weight g.added x) u

pub body_of-tells : (f g : Fields) → FitsBody f → FitsBody g → body_of f ≡ body_of g → f ≡ g
body_of-tells f g h k e =
    let first : f.level + 1 ≡ g.level + 1 = cc in
    let children : f.low + 2 ^ 32 * f.high ≡ g.low + 2 ^ 32 * g.high = cc in
    let p2 : cast_unsigned w128 f.low_weight % 2 ^ 64 ≡ cast_unsigned w128 g.low_weight % 2 ^ 64 = cc in
    let p3 : cast_unsigned w128 f.low_weight / 2 ^ 64 ≡ cast_unsigned w128 g.low_weight / 2 ^ 64 = cc in
    let p4 : cast_unsigned w128 f.added % 2 ^ 64 ≡ cast_unsigned w128 g.added % 2 ^ 64 = cc in
    let p5 : cast_unsigned w128 f.added / 2 ^ 64 ≡ cast_unsigned w128 g.added / 2 ^ 64 = cc in
    let p6 : cast_unsigned w128 f.high_weight % 2 ^ 64 ≡ cast_unsigned w128 g.high_weight % 2 ^ 64 = cc in
    let p7 : cast_unsigned w128 f.high_weight / 2 ^ 64 ≡ cast_unsigned w128 g.high_weight / 2 ^ 64 = cc in
    same_fields f g (omega arith) (same_low f.low f.high g.low g.high h.low k.low children) (same_high f.low f.high g.low g.high h.low k.low children)
    (same_words f.low_weight g.low_weight h.low_weight k.low_weight p2 p3)
    (same_words f.added g.added h.added k.added p4 p5)
    (same_words f.high_weight g.high_weight h.high_weight k.high_weight p6 p7)

-- the weights of a node's edges tell those of its fields, since the words that a kind does not use are 0
record HaveWeights (f g : Fields) : Type 0 where
  low_weight : f.low_weight ≡ g.low_weight
  added : f.added ≡ g.added
  high_weight : f.high_weight ≡ g.high_weight

weights_tell : (k : KindName) (f g : Fields) → LeavesZeros k f → LeavesZeros k g → low_weights k f ≡ low_weights k g →
    high_weights k f ≡ high_weights k g → HaveWeights f g
weights_tell Evbdd f g z y p q =
    record { low_weight = z.0 ∙ sym y.0; added = ap (λ (w : Weights). w.weight) q; high_weight = z.1 ∙ sym y.1 }
weights_tell StarBmd f g z y p q =
    record { low_weight = ap (λ (w : Weights). w.weight) p; added = z ∙ sym y; high_weight = ap (λ (w : Weights). w.weight) q }
weights_tell Hdd f g z y p q =
    record { low_weight = ap (λ (w : Weights). w.weight) p; added = z ∙ sym y; high_weight = ap (λ (w : Weights). w.weight) q }
weights_tell KStarBmd f g z y p q =
    record {
      low_weight = ap (λ (w : Weights). w.weight) p;
      added = ap (λ (w : Weights). w.extra) q;
      high_weight = ap (λ (w : Weights). w.weight) q;
    }

pub node_tells : (k : KindName) (f g : Fields) → LeavesZeros k f → LeavesZeros k g → f.level ≡ g.level → f.low ≡ g.low → f.high ≡ g.high →
    low_weights k f ≡ low_weights k g → high_weights k f ≡ high_weights k g → f ≡ g
node_tells k f g z y p q r s t =
    let have = weights_tell k f g z y s t in same_fields f g p q r have.low_weight have.added have.high_weight
