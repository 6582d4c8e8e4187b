use Rattle.std.proofs.Common.{string_bytes}
use Rattle.std.proofs.lemmas.Map.Text.{hash_map_updates_text}
use Rattle.netlist.proofs.maker.put_gate.Goals as goal

-- the key has the bytes of the name
pub returns-clause-sources : goal.returns-clause-sources
returns-clause-sources c =
    let sets = hash_map_updates_text (string_bytes c.in_ok-key.key) c.args.sources.now c.insert.new.self _ c.in_ok-insert.ensures.updates in
    rw (c.in_ok-key.ensures.ok, c.len.ensures, c.reserve.ensures.len, c.args.gates.now.ok.0) at sets
