-- The first bytes are put.
use Rattle.std.proofs.Common.{◌≡◌, ◌+◌, ◌*◌, ◌∷◌, take}
use Rattle.report.specs.Text.{hex}
use Rattle.report.specs.Wrote.{Wrote}
use Rattle.report.proofs.line.Line.hex.Given as goal

abbrev pub invariant-loop-b : goal.invariant-loop-b
invariant-loop-b l = record {
  text : Wrote l.fn.self l.self (32 ∷ hex (take l.b-index l.bytes));
  size : l.self.written ≡ l.fn.self.written + 1 + 2 * l.b-index;
}
