-- One byte behind the first ones.
use Rattle.std.proofs.Common.{arith}
use Rattle.std.proofs.KnownBytes.{Appends-trans}
use Rattle.show.proofs.Words.{words-next}
use Rattle.show.proofs.bytes.Goals as goal

pub loop-x-preserved : goal.loop-x-preserved
loop-x-preserved g c =
    rw (words-next c.args.all.now c.loop-x.x-index (omega arith))
    (Appends-trans _ _ _ _ _ c.loop-x.invariant (rw c.from.ensures at c.in_ok-word.ensures))
