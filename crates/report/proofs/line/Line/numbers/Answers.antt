-- One number behind the first ones.
use native.Mathlib.Omega.{arith}
use Rattle.report.proofs.Texts.Words.{spaced-next}
use Rattle.report.proofs.Texts.Lines.{wrote-none, wrote-on}
use Rattle.report.specs.Text.{spaced}
use Rattle.report.proofs.line.Line.numbers.Goals as goal

pub loop-x-init : goal.loop-x-init
unfolding spaced
loop-x-init c = record { text = wrote-none c.args.self.now; most = omega arith }

pub loop-x-preserved : goal.loop-x-preserved
loop-x-preserved c = record {
  text =
      rw (spaced-next c.args.xs.now c.loop-x.x-index (omega arith))
      (wrote-on (omega arith) c.loop-x.invariant.text c.number.ensures.text);
  most = omega arith;
}
