use Rattle.std.proofs.Common.{length, rules, arith, add-one}
use Rattle.std.proofs.lemmas.List.{take_all, take_rest, drop_all}
use Rattle.texts.proofs.LineLemmas.{first_line, last_line}
use Rattle.texts.proofs.lines.split_line.Goals as goal

pub returns-in-Some-clause-first : goal.returns-in-Some-clause-first
returns-in-Some-clause-first c =
    rw (take_rest, add-one) (first_line c.args.text.now c.in-Some.end (search rules))

pub returns-in-None-clause-first : goal.returns-in-None-clause-first
returns-in-None-clause-first c =
    let text = c.args.text.now in
    rw (c.split_at.ensures.front, c.split_at.ensures.back, take_all (length text) text (omega arith), drop_all (length text) text (omega arith))
    (last_line text c.requires (search rules))
