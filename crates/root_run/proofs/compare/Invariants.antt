-- What `root_run::compare` keeps: each 16 bytes that were passed were a pair, and those that differ were counted. The measure is what is
-- left of the file.
use Rattle.std.proofs.Common.{◌≡◌, ◌+◌, ◌*◌, ◌≤◌, drop, length}
use Rattle.root_run.specs.Pairs.{differing}
use Rattle.root_run.proofs.compare.Given as goal

abbrev pub invariant-loop-x : goal.invariant-loop-x
invariant-loop-x l = record {
  passed : l.pairs * 16 + length l.rest ≡ length l.file;
  left : l.rest ≡ drop (16 * l.pairs) l.file;
  some : l.differ ≤ l.pairs;
  right : l.differ ≡ differing l.file l.pairs;
}

abbrev pub decreases-loop-x : goal.decreases-loop-x
decreases-loop-x l = length l.rest
