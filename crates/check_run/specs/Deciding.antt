-- The verdict that the steps of a decision lead to.
use Rattle.std.specs.Prelude.{◌≡◌, ℕ, ℤ, Bool, List, Result, Ok, Err, IfSome, slice_get, alloc_error}
use Rattle.std.specs.List.{Contains}
use Rattle.std.specs.declared.alloc.AllocError.{AllocError}
use Rattle.diagram.specs.Answers.{HasNodeShape}
use Rattle.diagram.specs.View.{View}
use Rattle.checks.specs.Forward.{building_work}
use Rattle.circuits.specs.Circuit.{Circuit}
use Rattle.spec_lang.specs.Specification.{Specification}
use Rattle.word_base.specs.declared.kind_name.KindName.{KindName}
use Rattle.spec_lang.specs.declared.eval_error.EvalError.{EvalError}
use Rattle.spec_lang.specs.declared.eval_error.EvalError.TheVariants as eval
use Rattle.cone_builder.specs.declared.build_error.BuildError.{BuildError}
use Rattle.cone_builder.specs.declared.build_error.BuildError.TheVariants as build
use Rattle.checks.specs.declared.verdict.Verdict.{Verdict}
use Rattle.checks.specs.declared.verdict.Verdict.TheVariants.{Different, Overflow, Full}

-- the sides differ first at these bits: both values there, where each is a weight
abbrev pub verdict_at : List Bool → Result (ℤ × ℤ) EvalError → Result Verdict AllocError
verdict_at at (Ok values) = Ok (Different values.0 values.1 at)
verdict_at at (Err eval.Overflow) = Ok Overflow
verdict_at at (Err eval.Memory) = Err alloc_error

-- the sides were not built
abbrev pub verdict_of_limit : BuildError → Result Verdict AllocError
verdict_of_limit build.Overflow = Ok Overflow
verdict_of_limit build.Full = Ok Full
verdict_of_limit build.Memory = Err alloc_error

-- where there is a check of this number, the builder's store holds nodes of the tables of both its sides' building alone
pub record HasBuilt (k : KindName) (c : Circuit) (s : Specification) (place : ℕ) (v : View) : Type 0 where
  pub letters : v.letters ≡ s.letters
  pub made : (id : ℕ) → Contains v.store.made id → IfSome (slice_get s.checks place) (λ check. HasNodeShape k v (building_work c s check) id)
