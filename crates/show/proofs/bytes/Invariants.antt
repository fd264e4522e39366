-- The first bytes are told.
use Rattle.std.proofs.Common.{take}
use Rattle.std.specs.Io.KnownBytes.{Appends}
use Rattle.show.specs.Words.{words}
use Rattle.show.proofs.bytes.Given as goal

abbrev pub invariant-loop-x : goal.invariant-loop-x
invariant-loop-x g l = Appends (g.W.Write.contents l.initial.to) (g.W.Write.contents l.to) (words (take l.x-index l.all))
