-- The first numbers are put.
use Rattle.std.proofs.Common.{◌+◌, ◌*◌, ◌≤◌, take}
use Rattle.report.specs.Text.{spaced}
use Rattle.report.specs.Wrote.{Wrote}
use Rattle.report.proofs.line.Line.numbers.Given as goal

abbrev pub invariant-loop-x : goal.invariant-loop-x
invariant-loop-x l = record {
  text : Wrote l.initial.self l.self (spaced (take l.x-index l.xs));
  most : l.self.written ≤ l.initial.self.written + 21 * l.x-index;
}
