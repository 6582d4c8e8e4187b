-- The parts of the operands of a product, and what the products of parts cover.
use Rattle.std.proofs.Common.{◌≡◌, sym, subst, ℕ, ◌+◌, ◌<◌, List, length, drop}
use Rattle.word_base.specs.declared.decomp.Decomp.{Decomp}
use Rattle.word_base.specs.declared.decomp.Decomp.TheVariants.{S}
use Rattle.word_base.specs.declared.kind_name.KindName.{KindName}
use Rattle.tables.specs.Table.{Table, IsOver, part0, part1, merged}
use Rattle.tables.proofs.PieceLaws.{CoversMul}
use Rattle.tables.proofs.TableLaws.{IsOver-merged, part0-merged, part1-merged}
use Rattle.kind_laws.specs.Plain.{PlainEdge}
use Rattle.diagram.specs.Calls.{PlainParts, StandForParts, LieBelow}
use Rattle.diagram.specs.Products.{product_work}
use Rattle.diagram.specs.View.{View, letter_at, StandsAt, Keeps}
use Rattle.diagram.proofs.BothLaws.{still_below}
use Rattle.diagram.proofs.LevelLaws.{letters_at}
use Rattle.diagram.proofs.ProductLaws.{ShannonCovers, shannon_covered, davio_covered}
use Rattle.diagram.proofs.SumCalls.{somewhere}

-- ---- the parts
-- two tables whose parts the edges stand for
pub record SomeParts (k : KindName) (v : View) (l : ℕ) (parts : PlainParts) : Type 0 where
  pub first : Table
  pub second : Table
  pub stand : StandForParts k v l first second parts

pub some_parts : (k : KindName) (v : View) (l : ℕ) (parts : PlainParts) → LieBelow k v l parts → SomeParts k v l parts
some_parts k v l parts below =
    let d = letter_at v.letters l in
    let n = length (drop (l + 1) v.letters) in
    let letters = letters_at v.letters l below.within in
    let a = somewhere k v l parts.low.0 below.within below.first_low in
    let b = somewhere k v l parts.low.1 below.within below.second_low in
    let c = somewhere k v l parts.high.0 below.within below.first_high in
    let e = somewhere k v l parts.high.1 below.within below.second_high in
    let over : (p q : Table) → IsOver n p → IsOver n q → IsOver (length (drop l v.letters)) (merged d p q) =
    λ p q o r. subst (λ (xs : List Decomp). IsOver (length xs) (merged d p q)) (sym letters) (IsOver-merged n d p q o r) in
    let stands : (x y : Table) (z : PlainEdge) → x ≡ y → StandsAt k v (l + 1) y z → StandsAt k v (l + 1) x z =
    λ x y z is h. subst (λ (w : Table). StandsAt k v (l + 1) w z) (sym is) h in
    record {
      first = merged d a.0 c.0;
      second = merged d b.0 e.0;
      stand = record {
        first_over = over a.0 c.0 a.1.stands.over c.1.stands.over;
        second_over = over b.0 e.0 b.1.stands.over e.1.stands.over;
        first_low = stands (part0 d (merged d a.0 c.0)) a.0 parts.low.0 (part0-merged d a.0 c.0) a.1;
        second_low = stands (part0 d (merged d b.0 e.0)) b.0 parts.low.1 (part0-merged d b.0 e.0) b.1;
        first_high = stands (part1 d (merged d a.0 c.0)) c.0 parts.high.0 (part1-merged n d a.0 c.0 a.1.stands.over c.1.stands.over) c.1;
        second_high = stands (part1 d (merged d b.0 e.0)) e.0 parts.high.1 (part1-merged n d b.0 e.0 b.1.stands.over e.1.stands.over) e.1;
      };
    }

pub still_lie : (k : KindName) (v w : View) (l : ℕ) (parts : PlainParts) → Keeps v w → LieBelow k v l parts → LieBelow k w l parts
still_lie k v w l parts keeps h = record {
  within = subst (λ (ds : List Decomp). l < length ds) (sym keeps.letters) h.within;
  first_low = still_below k v w l parts.low.0 keeps h.first_low;
  second_low = still_below k v w l parts.low.1 keeps h.second_low;
  first_high = still_below k v w l parts.high.0 keeps h.first_high;
  second_high = still_below k v w l parts.high.1 keeps h.second_high;
}

-- ---- the work
pub shannon_at : (k : KindName) (v : View) (l : ℕ) (t u : Table) (parts : PlainParts) → letter_at v.letters l ≡ S → LieBelow k v l parts → StandForParts k v l t u parts →
    ShannonCovers k v.letters (product_work v.letters l t u) (letter_at v.letters l) (drop (l + 1) v.letters) l t u
shannon_at k v l t u parts shannon below s = shannon_covered k v l t u shannon s.first_low.allowed below.within s.first_over s.second_over

pub davio_at : (k : KindName) (v : View) (l : ℕ) (t u : Table) (parts : PlainParts) → (letter_at v.letters l ≡ S → ⊥) → LieBelow k v l parts → StandForParts k v l t u parts →
    CoversMul k v.letters (product_work v.letters l t u) (letter_at v.letters l) (drop (l + 1) v.letters) l t u
davio_at k v l t u parts davio below s = davio_covered k v l t u davio s.first_low.allowed below.within s.first_over s.second_over
