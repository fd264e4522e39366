-- One byte behind the first ones.
use native.Mathlib.Omega.{arith}
use Rattle.report.proofs.Texts.Hexes.{hex-next}
use Rattle.report.proofs.Texts.Lines.{wrote-on}
use Rattle.report.specs.Text.{hex}
use Rattle.report.proofs.line.Line.hex.Goals as goal

pub loop-b-init : goal.loop-b-init
unfolding hex
loop-b-init c = record { text = c.put.ensures; size = omega arith }

pub loop-b-preserved : goal.loop-b-preserved
loop-b-preserved c = record {
  text =
      rw (hex-next c.args.bytes.now c.loop-b.b-index (omega arith))
      (rw (c.glyph.ensures, c.glyph-in-loop-b.ensures) at (wrote-on (omega arith) c.loop-b.invariant.text c.put-in-loop-b.ensures));
  size = omega arith;
}
