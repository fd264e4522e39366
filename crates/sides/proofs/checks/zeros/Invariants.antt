use Rattle.std.proofs.Common.{◌≡◌, true, take}
use Rattle.queue.specs.Valid.{zeros}
use Rattle.sides.proofs.checks.zeros.Given as goal

-- the digits so far are zero
abbrev pub invariant-loop-d : goal.invariant-loop-d
invariant-loop-d l = zeros (take l.d-index l.digits) ≡ true
