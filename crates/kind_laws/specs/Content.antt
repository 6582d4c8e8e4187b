-- The content of an edge's weights and of a node's, of which the content of a table is the greatest common divisor.
use Rattle.std.specs.Prelude.{◌≡◌, ℕ, pos, negsuc, unsigned_abs, refl}
use Rattle.integers.specs.Gcd.{gcd}
use Rattle.word_base.specs.declared.decomp.Decomp.{Decomp}
use Rattle.word_base.specs.declared.kind_name.KindName.{KindName}
use Rattle.word_base.specs.declared.kind_name.KindName.TheVariants.{Evbdd, StarBmd, Hdd, KStarBmd}
use Rattle.tables.specs.Tree.{Weights, weights}
use Rattle.kind_laws.specs.Kind.{low_part_of, high_part_of}
use Rattle.kind_laws.specs.declared.fields.Fields.{Fields}

abbrev pub content_of_edge : KindName → Weights → ℕ
content_of_edge Evbdd w = unsigned_abs w.weight
content_of_edge StarBmd w = unsigned_abs w.weight
content_of_edge Hdd w = unsigned_abs w.weight
content_of_edge KStarBmd w = gcd (unsigned_abs w.extra) (unsigned_abs w.weight)

-- in a hybrid diagram that of the constants in the body
abbrev pub content_of_fields : KindName → Fields → ℕ
content_of_fields Evbdd f = unsigned_abs f.added
content_of_fields StarBmd f = 0
content_of_fields Hdd f = gcd (unsigned_abs f.low_weight) (unsigned_abs f.high_weight)
content_of_fields KStarBmd f = 0

-- the content of an edge to a node, with the node's, is that of its two parts
abbrev pub ContentOfParts : KindName → Decomp → Weights → Fields → Type 0
ContentOfParts k d root f =
    gcd (content_of_edge k root) (content_of_fields k f)
    ≡ gcd (content_of_edge k (low_part_of k root f).root) (content_of_edge k (high_part_of k d root f).root)

content-of_edge : content_of_edge KStarBmd (weights (negsuc 3) (pos 6)) ≡ 2
content-of_edge = refl

content-of_fields : content_of_fields Hdd (record { level = 0; low = 0; high = 0; low_weight = pos 4; added = pos 0; high_weight = negsuc 5 }) ≡ 2
content-of_fields = refl
