use Rattle.std.proofs.Common.{◌-◌, length}
use Rattle.record_store.proofs.BucketLaws.{HasPassed}
use Rattle.record_store.proofs.probe.probe.Given as goal

abbrev pub invariant-loop-mask : goal.invariant-loop-mask
invariant-loop-mask l = HasPassed l.buckets l.bodies l.body l.distance

abbrev pub decreases-loop-mask : goal.decreases-loop-mask
decreases-loop-mask l = length l.buckets - l.distance
