use Rattle.std.proofs.Common.{ap, sym, ◌∙◌, option_map}
use Rattle.bench_reader.specs.Views.{seen_statement}
use Rattle.bench_reader.proofs.Sizes.{sized_line}
use Rattle.bench_reader.proofs.gather.add_line.Goals as goal

pub add-requires : goal.add-requires
add-requires c =
    let says = c.in_ok-statement.ensures in
    sized_line c.args.line.now (seen_statement c.in-Some.statement) says.0 (sym says.1 ∙ ap (option_map seen_statement) c.in-Some.is)
