use Rattle.std.proofs.Common.{◌≡◌, ◌≤◌, ◌∙◌, sym, ap, subst, length, arith}
use Rattle.std.proofs.lemmas.List.Elements.{Contains-get_or}
use Rattle.netlist.proofs.Counts.{readers_more, readers_all, refilled}
use Rattle.circuits.specs.Circuit.{net_count}
use Rattle.netlist.specs.Inside.Waiting.{HasReader}
use Rattle.netlist.proofs.order.readers_of.Goals as goal

pub note_reader-requires : goal.note_reader-requires
note_reader-requires c = λ k d low.
    rw (c.deref_mut.ensures.value, c.loop-net.invariant.length) (c.count.ensures.sound.inputs c.loop-net.net _ (rw (← c.fanin.ensures) (Contains-get_or c.fanin.result.now k d low)))

pub loop-net-preserved : goal.loop-net-preserved
loop-net-preserved c =
    let before : c.deref_mut.result.now ≡ c.loop-net.readers.items = c.deref_mut.ensures.value in
    let same : length c.note_reader.new.readers ≡ length c.loop-net.readers.items = c.note_reader.auto.readers ∙ ap length before in
    rw (refilled c.note_reader.new.readers c.loop-net.readers.items c.loop-net.readers.len (c.loop-net.readers.ok.0 ∙ sym same))
    (record {
      length = same ∙ c.loop-net.invariant.length;
      counts = readers_more c.args.nets.now c.loop-net.readers.items c.note_reader.new.readers c.loop-net.net c.loop-net.invariant.length
          (subst (λ inputs. HasReader c.loop-net.readers.items c.note_reader.new.readers c.loop-net.net inputs) c.fanin.ensures (subst (λ lists. HasReader lists c.note_reader.new.readers c.loop-net.net c.fanin.result.now) before c.in_ok-note_reader.ensures))
          c.loop-net.invariant.counts;
    })

pub returns-clause-counts : goal.returns-clause-counts
returns-clause-counts c =
    let all : net_count c.args.nets.now ≤ c.loop-net.net = omega (arith, c.loop-net-test.false, c.count-net-end.ensures.count) in
    readers_all c.args.nets.now c.loop-net.readers.items c.loop-net.net all c.loop-net.invariant.counts
