-- Why the building of a check's sides gives up, and which nodes it makes.
use Rattle.std.specs.Prelude.{◌≡◌, ℕ, List, ◌++◌, Result, Ok, Err, Contains, refl}
use Rattle.std.proofs.lemmas.List.Elements.{Contains-append_right}
use Rattle.tables.specs.Pieces.{Piece}
use Rattle.diagram.specs.declared.limit.Limit.{Limit}
use Rattle.diagram.specs.declared.limit.Limit.TheVariants as limit
use Rattle.cone_builder.specs.declared.build_error.BuildError.{BuildError}
use Rattle.cone_builder.specs.declared.build_error.BuildError.TheVariants as error

-- the limit that was met, if one was: want of memory says nothing
abbrev pub limit_met : {X : Type 0} → Result X BuildError → Result (Unit {0}) Limit
limit_met (Ok x) = Ok tt
limit_met (Err error.Overflow) = Err limit.Overflow
limit_met (Err error.Full) = Err limit.Full
limit_met (Err error.Memory) = Ok tt

full_is_met : limit_met {X = ℕ} (Err error.Full) ≡ Err limit.Full
full_is_met = refl

memory_says_nothing : limit_met {X = ℕ} (Err error.Memory) ≡ limit_met {X = ℕ} (Ok 0)
memory_says_nothing = refl

-- the second list's pieces are among the first's
abbrev pub Includes : List Piece → List Piece → Type 0
Includes ps qs = (p : Piece) → Contains qs p → Contains ps p

includes_the_end : (ps qs : List Piece) → Includes (ps ++ qs) qs
includes_the_end ps qs = λ p has. Contains-append_right ps qs p has
