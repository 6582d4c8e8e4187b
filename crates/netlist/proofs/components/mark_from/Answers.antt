use Rattle.std.proofs.Common.{◌<◌, ◌∙◌, sym, length, arith}
use Rattle.std.proofs.lemmas.List.{nil_from_length}
use Rattle.netlist.proofs.Marking.{All-listed, led_begins, led_within, led_more, marks-led}
use Rattle.netlist.proofs.Counts.{nets-list_at}
use Rattle.netlist.specs.Inside.Waiting.{list_at}
use Rattle.netlist.proofs.components.mark_from.Goals as goal

pub mark_all-requires : goal.mark_all-requires
mark_all-requires c =
    All-listed (list_at c.args.lists.now) c.args.marks.now c.requires.closed c.args.net c.deref.result.now (nets-list_at c.args.lists.now c.args.net c.index-lists-net.result c.deref.result.now c.requires.net c.index-lists-net.is c.deref.ensures.value)

pub loop-other-init : goal.loop-other-init
loop-other-init c =
    led_begins (list_at c.args.lists.now) c.args.marks.now c.args.net c.requires.closed c.mark_all.new.marks c.deref.result.now c.mark_all.new.unvisited.items
    (nets-list_at c.args.lists.now c.args.net c.index-lists-net.result c.deref.result.now c.requires.net c.index-lists-net.is c.deref.ensures.value)
    c.mark_all.auto.marks
    c.in_ok-mark_all.ensures.marks
    (rw c.new-unvisited.ensures.items at c.in_ok-mark_all.ensures.unvisited)

pub bounds-lists-other : goal.bounds-lists-other
bounds-lists-other c =
    let low : c.in-Some.other < length c.args.marks.now = led_within (list_at c.args.lists.now) c.args.marks.now c.args.net c.requires.closed c.loop-other.marks c.loop-other.unvisited.items c.loop-other.invariant c.pop.new.self.items c.in-Some.other c.in-Some.ensures.items in
    omega (arith, low, c.requires.long)

pub mark_all-requires-in-Some : goal.mark_all-requires-in-Some
mark_all-requires-in-Some c =
    let low : c.in-Some.other < length c.args.marks.now = led_within (list_at c.args.lists.now) c.args.marks.now c.args.net c.requires.closed c.loop-other.marks c.loop-other.unvisited.items c.loop-other.invariant c.pop.new.self.items c.in-Some.other c.in-Some.ensures.items in
    rw c.loop-other.invariant.long
    (All-listed (list_at c.args.lists.now) c.args.marks.now c.requires.closed c.in-Some.other c.deref-in-Some.result.now (nets-list_at c.args.lists.now c.in-Some.other c.index-lists-other.result c.deref-in-Some.result.now (omega (arith, low, c.requires.long)) c.index-lists-other.is c.deref-in-Some.ensures.value))

pub loop-other-preserved : goal.loop-other-preserved
loop-other-preserved c =
    let low : c.in-Some.other < length c.args.marks.now = led_within (list_at c.args.lists.now) c.args.marks.now c.args.net c.requires.closed c.loop-other.marks c.loop-other.unvisited.items c.loop-other.invariant c.pop.new.self.items c.in-Some.other c.in-Some.ensures.items in
    led_more (list_at c.args.lists.now) c.args.marks.now c.args.net c.requires.closed c.loop-other.marks c.loop-other.unvisited.items c.loop-other.invariant c.pop.new.self.items c.in-Some.other c.in-Some.ensures.items c.mark_all-in-Some.new.marks c.deref-in-Some.result.now c.mark_all-in-Some.new.unvisited.items
    (nets-list_at c.args.lists.now c.in-Some.other c.index-lists-other.result c.deref-in-Some.result.now (omega (arith, low, c.requires.long)) c.index-lists-other.is c.deref-in-Some.ensures.value)
    (c.mark_all-in-Some.auto.marks ∙ c.loop-other.invariant.long)
    (λ y below. c.in_ok-mark_all-2.ensures.marks y (rw c.loop-other.invariant.long below))
    c.in_ok-mark_all-2.ensures.unvisited

pub returns : goal.returns
returns c =
    marks-led (list_at c.args.lists.now) c.args.marks.now c.args.net c.requires.closed c.loop-other.marks c.loop-other.unvisited.items c.loop-other.invariant
    (nil_from_length c.loop-other.unvisited.items (sym c.loop-other.unvisited.ok.0 ∙ c.in_default.ensures.cases.0))
