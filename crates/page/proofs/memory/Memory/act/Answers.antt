use Rattle.std.proofs.Common.{Ok, ap, ◌∙◌}
use Rattle.page.specs.Runs.{acted, entered}
use Rattle.codec.specs.Entry.{added}
use Rattle.page.specs.Carry.{lent}
use Rattle.page.proofs.memory.Memory.act.Goals as goal

pub returns-clause-acted : goal.returns-clause-acted
returns-clause-acted c =
    let m = c.command.new.self in
    let log = c.args.log.now in
    ap (acted (Ok tt) (lent m.page.now c.command.new.pen.writer m.readers.now m.buffers.now)) c.put.ensures.log
    ∙ ap (entered (added log.bytes.now log.written)) (rw c.room.ensures at c.in_ok-outcome.ensures.carried)
