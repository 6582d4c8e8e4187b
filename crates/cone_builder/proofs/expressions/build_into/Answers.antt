use Rattle.std.proofs.Common.{◌≡◌, sym, ap, subst, ℕ, ◌<◌, List, length}
use Rattle.std.proofs.lemmas.Result.{on_ok_weaker}
use Rattle.word_base.specs.declared.decomp.Decomp.{Decomp}
use Rattle.checks.specs.Forward.{net_work}
use Rattle.diagram.proofs.StoreLaws.{keeps_on}
use Rattle.cone_builder.specs.Causes.{Includes, limit_met}
use Rattle.cone_builder.specs.Plans.{BuildsPlan, is_needed, plain_plan}
use Rattle.cone_builder.proofs.CauseLaws.{causes_on, limit_refused, none_if_refused}
use Rattle.cone_builder.proofs.expressions.build_into.Goals as goal

pub returns-in_err-build_inputs-clause-builds : goal.returns-in_err-build_inputs-clause-builds
returns-in_err-build_inputs-clause-builds g c =
    record {
      good = none_if_refused c.from_residual.result _ _ c.from_residual.ensures.1;
      built = none_if_refused c.from_residual.result _ _ c.from_residual.ensures.1;
      causes = λ table ps can covers.
          limit_refused g.K.Kind.NAME c.args.builder.now c.build_inputs.new.builder ps c.from_residual.result c.build_inputs.result c.in_err-build_inputs.field-0.0
          c.in_err-build_inputs.was c.from_residual.ensures.1 (c.build_inputs.ensures.causes table ps can.variables covers.inputs);
    }

pub returns-clause-builds : goal.returns-clause-builds
returns-clause-builds g c =
    let plan = plain_plan c.args.plan in
    let letters = c.build_inputs.ensures.keeps.letters in
    record {
      good = c.build_gates.ensures.good;
      built = on_ok_weaker c.build_gates.result
          (λ makes table can. makes table (is_needed plan) can.gates (c.in_ok-build_inputs.ensures.built table can.variables) can.after) c.build_gates.ensures.built;
      causes = λ table ps can covers.
          causes_on g.K.Kind.NAME c.args.builder.now c.build_inputs.new.builder c.build_gates.new.builder ps c.build_inputs.result (limit_met c.build_gates.result)
          c.build_inputs.ensures.keeps c.build_gates.ensures.keeps (c.build_inputs.ensures.causes table ps can.variables covers.inputs)
          (c.build_gates.ensures.causes table (is_needed plan) ps can.gates (c.in_ok-build_inputs.ensures.built table can.variables) can.after
          (λ net has. subst (λ (ds : List Decomp). Includes ps (net_work c.args.netlist.now ds table net)) (sym letters) (covers.gates net has)));
    }

pub returns-clause-keeps : goal.returns-clause-keeps
returns-clause-keeps g c =
    keeps_on c.args.builder.now c.build_inputs.new.builder c.build_gates.new.builder c.build_inputs.ensures.keeps c.build_gates.ensures.keeps
