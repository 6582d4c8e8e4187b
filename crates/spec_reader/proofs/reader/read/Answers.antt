use Rattle.std.proofs.Common.{◌∙◌, ◌+◌, length, sym, ap, subst, arith}
use Rattle.std.proofs.lemmas.Bool.{eqb-true}
use Rattle.std.proofs.lemmas.List.{nil_from_length}
use Rattle.std.proofs.lemmas.Result.{IfOk-weaker, IfErr-weaker}
use Rattle.spec_grammar.proofs.Drafts.{empty_is_good, line_is_good, reading_is_well_formed}
use Rattle.spec_grammar.specs.GoodDraft.{IsGood}
use Rattle.spec_grammar.specs.Reading.{reading, reading_from}
use Rattle.spec_reader.specs.Views.{seen_draft}
use Rattle.spec_reader.proofs.Reading.{goes_on, stops, along_fault}
use Rattle.texts.specs.Lines.{lines}
use Rattle.spec_reader.proofs.reader.read.Goals as goal

pub with_line-requires : goal.with_line-requires
with_line-requires c = c.loop-rest.invariant.good.few_words

pub finished-requires : goal.finished-requires
finished-requires c = c.loop-rest.invariant.good

pub loop-rest-init : goal.loop-rest-init
loop-rest-init c = record {
  short = omega arith;
  good = subst (IsGood c.args.netlist.now c.args.kind) (sym c.empty_draft-draft.ensures) (empty_is_good c.args.netlist.now c.args.kind);
  reads = ap (λ d. reading_from c.args.netlist.now c.args.kind 1 d (lines c.args.bytes.now)) c.empty_draft-draft.ensures;
}

pub loop-rest-preserved : goal.loop-rest-preserved
loop-rest-preserved c =
    let n = c.args.netlist.now in
    let k = c.args.kind in
    let d = seen_draft c.loop-rest.draft in
    let text = c.split_line.result.0.now in
    let more = lines c.split_line.result.1.now in
    let told = c.in-Ok.ensures in
    let short = c.loop-rest.invariant.short in
    let less = c.split_line.ensures.shorter in
    record {
      short = omega arith;
      good = subst (IsGood n k) (sym told.1) (line_is_good n k d text c.loop-rest.invariant.good told.0);
      reads = goes_on n k (c.loop-rest.line + 1) d text more (reading n k c.args.bytes.now) (seen_draft c.in-Ok.next) (ap (reading_from n k (c.loop-rest.line + 1) d) (sym c.split_line.ensures.first) ∙ c.loop-rest.invariant.reads) told.0 told.1;
    }

pub returns-in-Err-clause-fault : goal.returns-in-Err-clause-fault
returns-in-Err-clause-fault c =
    let n = c.args.netlist.now in
    let k = c.args.kind in
    let d = seen_draft c.loop-rest.draft in
    let text = c.split_line.result.0.now in
    let more = lines c.split_line.result.1.now in
    stops n k (c.loop-rest.line + 1) d text more (reading n k c.args.bytes.now) c.in-Err.error c.at_line.result _ (ap (reading_from n k (c.loop-rest.line + 1) d) (sym c.split_line.ensures.first) ∙ c.loop-rest.invariant.reads) c.in-Err.ensures c.at_line.ensures

pub returns-clause-spec : goal.returns-clause-spec
returns-clause-spec c =
    let n = c.args.netlist.now in
    let k = c.args.kind in
    let d = seen_draft c.loop-rest.draft in
    let none = nil_from_length c.loop-rest.rest.now (eqb-true (length c.loop-rest.rest.now) 0 (sym c.is_empty.ensures ∙ c.loop-rest-test.false)) in
    let end = ap (λ r. reading_from n k (c.loop-rest.line + 1) d (lines r)) (sym none) ∙ c.loop-rest.invariant.reads in
    IfOk-weaker c.finished.result _ _ (λ spec e. sym end ∙ e) c.finished.ensures.spec

pub returns-clause-fault : goal.returns-clause-fault
returns-clause-fault c =
    let n = c.args.netlist.now in
    let k = c.args.kind in
    let d = seen_draft c.loop-rest.draft in
    let none = nil_from_length c.loop-rest.rest.now (eqb-true (length c.loop-rest.rest.now) 0 (sym c.is_empty.ensures ∙ c.loop-rest-test.false)) in
    let end = ap (λ r. reading_from n k (c.loop-rest.line + 1) d (lines r)) (sym none) ∙ c.loop-rest.invariant.reads in
    IfErr-weaker c.finished.result _ _ (λ error h. along_fault error _ _ end h) c.finished.ensures.fault

pub returns-clause-read_for : goal.returns-clause-read_for
returns-clause-read_for c =
    let n = c.args.netlist.now in
    let k = c.args.kind in
    let d = seen_draft c.loop-rest.draft in
    let none = nil_from_length c.loop-rest.rest.now (eqb-true (length c.loop-rest.rest.now) 0 (sym c.is_empty.ensures ∙ c.loop-rest-test.false)) in
    let end = ap (λ r. reading_from n k (c.loop-rest.line + 1) d (lines r)) (sym none) ∙ c.loop-rest.invariant.reads in
    IfOk-weaker c.finished.result _ _ (λ spec e. reading_is_well_formed n k c.args.bytes.now spec (sym end ∙ e)) c.finished.ensures.spec
