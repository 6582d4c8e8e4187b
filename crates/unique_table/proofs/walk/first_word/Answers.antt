use Rattle.std.proofs.Common.{arith}
use Rattle.unique_table.proofs.Reading.{met_within}
use Rattle.unique_table.proofs.walk.first_word.Goals as goal

pub overflow_sub-id : goal.overflow_sub-id
overflow_sub-id c =
    let within = met_within c.args.table.now.layout c.args.place.now.me.0 c.requires.possible c.requires.live c.args.id c.requires.met in
    let some = within.0 in
    omega arith

pub cell_start-requires : goal.cell_start-requires
cell_start-requires c =
    let within = met_within c.args.table.now.layout c.args.place.now.me.0 c.requires.possible c.requires.live c.args.id c.requires.met in
    let some = within.0 in
    let few = within.1 in
    omega arith
