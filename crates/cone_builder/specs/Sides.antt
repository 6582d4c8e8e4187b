-- What the edges of a check's sides stand for, and why they were not built.
use Rattle.std.specs.Prelude.{◌≡◌, IfSome, List, codes, slice_get, ℕ, refl}
use Rattle.circuits.specs.Circuit.{Circuit}
use Rattle.spec_lang.specs.Specification.{Specification}
use Rattle.checks.specs.Sides.{side}
use Rattle.kind_laws.specs.Plain.{PlainEdge}
use Rattle.word_base.specs.declared.kind_name.KindName.{KindName}
use Rattle.diagram.specs.View.{View, StandsAt}
use Rattle.diagram.specs.declared.limit.Limit.{Limit}
use Rattle.diagram.specs.declared.limit.Limit.TheVariants as limit
use Rattle.cone_builder.specs.declared.build_error.BuildError.{BuildError}
use Rattle.cone_builder.specs.declared.build_error.BuildError.TheVariants as error

-- the edges stand for the tables of both sides of the check of this number
abbrev pub AreSides : KindName → Circuit → Specification → ℕ → View → PlainEdge → PlainEdge → Type 0
AreSides k c s number v left right =
    IfSome (slice_get s.checks number) (λ check. StandsAt k v 0 (side c s check.left) left × StandsAt k v 0 (side c s check.right) right)

abbrev pub build_error_of : Limit → BuildError
build_error_of limit.Overflow = error.Overflow
build_error_of limit.Full = error.Full

abbrev pub build_error_text : BuildError → List ℕ
build_error_text error.Overflow = codes "a number needs more than 127 bits"
build_error_text error.Full = codes "the store of nodes is full"
build_error_text error.Memory = codes "out of memory"

text-of_memory : build_error_text error.Memory ≡ codes "out of memory"
text-of_memory = refl
