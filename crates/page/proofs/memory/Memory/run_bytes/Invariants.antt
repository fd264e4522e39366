use Rattle.std.proofs.Common.{◌≡◌, length}
use Rattle.checks.specs.Seen.{shape}
use Rattle.page.specs.Loans.{SameLoans}
use Rattle.page.specs.Pen.{Knows}
use Rattle.page.specs.Carry.{lent}
use Rattle.page.proofs.Loop.SoFar.{SoFar}
use Rattle.page.proofs.memory.Memory.run_bytes.Given as goal

-- some of the commands are carried out, and the rest of them, from here, does what is still to do
abbrev pub invariant-loop-self : goal.invariant-loop-self
invariant-loop-self l =
    let F = shape l.form in
    let i = l.initial in
    record {
      so : SoFar F l.records i.commands.bytes.now
          (lent i.self.page.now i.pen.writer i.self.readers.now i.self.buffers.now) i.log.bytes.now
          l.commands.bytes.now l.commands.done l.log.written
          (lent l.self.page.now l.pen.writer l.self.readers.now l.self.buffers.now) l.log.bytes.now;
      knows : Knows F l.pen;
      loans : SameLoans i.self l.self;
      log_loan : l.log.bytes.ghost_name ≡ i.log.bytes.ghost_name;
    }

abbrev pub decreases-loop-self : goal.decreases-loop-self
decreases-loop-self l = length l.commands.bytes.now
