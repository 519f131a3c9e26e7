use Rattle.std.proofs.Common.{length, ◌-◌}
use Rattle.io.specs.Counts.{IsPrefixLen}
use Rattle.plotprint.proofs.read_file.Given as goal

abbrev pub invariant-loop-count : goal.invariant-loop-count
invariant-loop-count g l = IsPrefixLen l.count l.into

abbrev pub decreases-loop-count : goal.decreases-loop-count
decreases-loop-count g l = length l.initial.into - l.count
