use Rattle.std.proofs.Common.{◌+◌, ◌∙◌, length, arith, subst, sym}
use Rattle.std.proofs.lemmas.Bool.{eqb-true}
use Rattle.std.proofs.lemmas.List.{nil_from_length}
use Rattle.texts.specs.Lines.{lines}
use Rattle.bench_reader.proofs.Gathering.{IsGathered, goes_on, refused, ends}
use Rattle.bench_reader.proofs.gather.gather.Goals as goal

pub returns-in-Err : goal.returns-in-Err
returns-in-Err c =
    let text = lines c.args.bytes.now in
    let n = c.loop-rest.line in
    let so_far = subst (IsGathered text n c.loop-rest.maker c.loop-rest.saying.items) c.split_line.ensures.first c.loop-rest.invariant.gathered in
    refused text n c.loop-rest.maker c.loop-rest.saying.items c.split_line.result.0.now (lines c.split_line.result.1.now) c.in-Err.error c.at_line.result
    (omega (arith, c.loop-rest.invariant.short, c.requires)) so_far c.in-Err.ensures.fault c.at_line.ensures

pub loop-rest-preserved : goal.loop-rest-preserved
loop-rest-preserved c =
    let text = lines c.args.bytes.now in
    let n = c.loop-rest.line in
    let so_far = subst (IsGathered text n c.loop-rest.maker c.loop-rest.saying.items) c.split_line.ensures.first c.loop-rest.invariant.gathered in
    let more = goes_on text n c.loop-rest.maker c.add_line.new.maker c.loop-rest.saying.items c.split_line.result.0.now (lines c.split_line.result.1.now) c.in-Ok.says
    (omega (arith, c.loop-rest.invariant.short, c.requires)) so_far c.in-Ok.ensures.added in
    record {
      short = omega (arith, c.loop-rest.invariant.short, c.split_line.ensures.shorter);
      gathered = subst (λ numbers. IsGathered text (n + 1) c.add_line.new.maker numbers (lines c.split_line.result.1.now)) (sym c.in_ok-note-in-Ok.ensures) more;
    }

pub returns : goal.returns
returns c =
    let text = lines c.args.bytes.now in
    let empty = nil_from_length c.loop-rest.rest.now (eqb-true (length c.loop-rest.rest.now) 0 (sym c.is_empty.ensures ∙ c.loop-rest-test.false)) in
    ends text c.loop-rest.line c.loop-rest.maker c.loop-rest.saying.items (subst (λ rest. IsGathered text c.loop-rest.line c.loop-rest.maker c.loop-rest.saying.items (lines rest)) empty c.loop-rest.invariant.gathered)
