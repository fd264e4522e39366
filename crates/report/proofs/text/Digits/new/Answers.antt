use mathlib.Core.Path.{refl}
use lib.ListN.{replicate}
use native.Mathlib.Omega.{arith}
use Rattle.report.proofs.Texts.Spelling.{spelling-one, spelling-on, spelling-all}
use Rattle.report.proofs.text.Digits.new.Goals as goal

pub loop-left-init : goal.loop-left-init
loop-left-init c = rw c.glyph.ensures (spelling-one c.args.x (replicate 20 0) refl (omega arith))

pub loop-left-preserved : goal.loop-left-preserved
loop-left-preserved c = rw c.glyph-in-loop-left.ensures (spelling-on c.loop-left.invariant c.loop-left-test.true)

pub returns-clause-digits : goal.returns-clause-digits
returns-clause-digits c = spelling-all c.loop-left.invariant c.loop-left-test.false
