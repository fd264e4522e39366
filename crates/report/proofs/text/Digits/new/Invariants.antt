use Rattle.report.proofs.Texts.Spelling.{Spelling}
use Rattle.report.proofs.text.Digits.new.Given as goal

abbrev pub invariant-loop-left : goal.invariant-loop-left
invariant-loop-left l = Spelling l.x l.left l.all l.first

abbrev pub decreases-loop-left : goal.decreases-loop-left
decreases-loop-left l = l.left
