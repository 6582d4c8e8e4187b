use Rattle.std.proofs.Common.{string_bytes}
use Rattle.std.proofs.lemmas.Map.Text.{hash_set_updates_text}
use Rattle.netlist.proofs.maker.put_output.Goals as goal

-- the key has the bytes of the name
pub returns-clause-named : goal.returns-clause-named
returns-clause-named c =
    let sets = hash_set_updates_text (string_bytes c.in_ok-key.key) c.args.named.now c.insert.new.self _ c.in_ok-insert.ensures.updates in
    rw c.in_ok-key.ensures.ok at sets
