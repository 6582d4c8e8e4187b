-- The values of both sides over a netlist, from the steps of their evaluation.
use Rattle.std.specs.Prelude.{◌≡◌, ℕ, ℤ, Bool, true, false, ◌&&◌, List, length, Option, Some, None, Result, Ok, Err, IsTrue}
use Rattle.std.specs.Result.{IsErrAnd}
use Rattle.std.proofs.Common.{refl, sym, ◌∙◌, ap, subst}
use Rattle.std.proofs.lemmas.Result.{err_from_is_err_and}
use Rattle.circuits.specs.Circuit.{Circuit, input_count}
use Rattle.circuits.specs.Valuation.{valuation}
use Rattle.spec_lang.specs.Evaluated.{AreEvaluated, AreValues}
use Rattle.spec_lang.specs.Placed.{placed, net_values}
use Rattle.spec_lang.specs.Specification.{Word, Check, Specification}
use Rattle.spec_lang.specs.Value.{all_in_range}
use Rattle.spec_lang.specs.WellFormed.{IsOver}
use Rattle.spec_lang.specs.declared.eval_error.EvalError.{EvalError}
use Rattle.spec_lang.specs.declared.eval_error.EvalError.TheVariants.{Overflow}
use Rattle.spec_lang.proofs.Placed.{length-placed}

-- the code's order is the specification's
pub inputs_are : (c : Circuit) (s : Specification) (order : List ℕ) (bits inputs : List Bool) → IsOver c s → order ≡ s.order → inputs ≡ placed (length order) order bits →
    inputs ≡ placed (input_count c) s.order bits
inputs_are c s order bits inputs over same is =
    is ∙ ap (λ (o : List ℕ). placed (length o) o bits) same ∙ ap (λ (n : ℕ). placed n s.order bits) over.inputs

pub as_many_inputs : (c : Circuit) (s : Specification) (order : List ℕ) (bits inputs : List Bool) → IsOver c s → order ≡ s.order → inputs ≡ placed (length order) order bits →
    length inputs ≡ input_count c
as_many_inputs c s order bits inputs over same is = ap length (inputs_are c s order bits inputs over same is) ∙ length-placed (input_count c) s.order bits

pub values_are : (c : Circuit) (s : Specification) (order : List ℕ) (bits inputs values : List Bool) → IsOver c s → order ≡ s.order → inputs ≡ placed (length order) order bits →
    values ≡ valuation c inputs → values ≡ net_values c s bits
values_are c s order bits inputs values over same is valued = valued ∙ ap (valuation c) (inputs_are c s order bits inputs over same is)

evaluated_value : (E : Type 0) (words : List Word) (o : Option Check) (values : List Bool) (found : ℤ × ℤ) → AreValues {E = E} words o values (Ok found) → AreEvaluated words o values (Ok found)
evaluated_value E words None values found h = tt
evaluated_value E words (Some sides) values found h = h

never_true : (b : Bool) → (IsTrue b → ⊥) → b ≡ false
never_true true h = absurd (h refl)
never_true false h = refl

evaluated_overflow : (E : Type 0) (words : List Word) (o : Option Check) (values : List Bool) (e : E) → AreValues words o values (Err e) → AreEvaluated words o values (Err Overflow)
evaluated_overflow E words None values e h = tt
evaluated_overflow E words (Some sides) values e h = never_true (all_in_range words values sides.left && all_in_range words values sides.right) h

pub evaluated-ok : {E : Type 0} (words : List Word) (o : Option Check) (values real : List Bool) (r : Result (ℤ × ℤ) E) (found : ℤ × ℤ) → AreValues words o values r → r ≡ Ok found → values ≡ real →
    AreEvaluated words o real (Ok found)
evaluated-ok {E} words o values real r found h is same =
    subst (λ (v : List Bool). AreEvaluated words o v (Ok found)) same (evaluated_value E words o values found (subst (AreValues words o values) is h))

pub evaluated-err : {E : Type 0} (words : List Word) (o : Option Check) (values real : List Bool) (r : Result (ℤ × ℤ) E) (e : E) (out : Result (ℤ × ℤ) EvalError) → AreValues words o values r → r ≡ Err e →
    IsErrAnd out (λ x. x ≡ Overflow) → values ≡ real → AreEvaluated words o real out
evaluated-err {E} words o values real r e out h is gives same =
    let given = err_from_is_err_and out gives in
    subst (λ (v : List Bool). AreEvaluated words o v out) same
    (subst (AreEvaluated words o values) (sym (given.1 ∙ ap Err given.2)) (evaluated_overflow E words o values e (subst (AreValues words o values) is h)))
