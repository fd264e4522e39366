-- A command is one reader's, or it is the writer's or refused.
use Rattle.std.proofs.Common.{sym, ap, ◌∙◌}
use Rattle.page.specs.Carry.{lent, after, AfterRead}
use Rattle.page.proofs.Readers.Lent.{read-ready, carry-read}
use Rattle.page.proofs.Writes.Lent.{among, write-ready, no_reader, carry-writes}
use Rattle.page.proofs.memory.Memory.command.Goals as goal

pub carry-requires-clause-ready : goal.carry-requires-clause-ready
carry-requires-clause-ready c =
    let m = c.args.self.now in
    let L = lent m.page.now c.args.pen.now.writer m.readers.now m.buffers.now in
    read-ready _ c.args.records.now L c.requires.ready c.reader_or-i.result c.if-i-n.true c.args.command c.reader_or-i.ensures

pub returns-then-i-n-clause-carried : goal.returns-then-i-n-clause-carried
returns-then-i-n-clause-carried c =
    let m = c.args.self.now in
    let L = lent m.page.now c.args.pen.now.writer m.readers.now m.buffers.now in
    rw c.carry.ensures.page
    (ap (λ (y : AfterRead). after y.answer (lent L.page L.writer y.readers y.buffers)) c.carry.ensures.carried
    ∙ sym (carry-read _ c.args.records.now L c.requires.ready c.reader_or-i.result c.if-i-n.true c.args.command
    c.reader_or-i.ensures c.args.room))

pub carry-requires-2-clause-ready : goal.carry-requires-2-clause-ready
carry-requires-2-clause-ready c =
    let m = c.args.self.now in
    let L = lent m.page.now c.args.pen.now.writer m.readers.now m.buffers.now in
    write-ready _ c.args.records.now L c.requires.ready

pub carry-requires-2-clause-none : goal.carry-requires-2-clause-none
carry-requires-2-clause-none c =
    let m = c.args.self.now in
    let L = lent m.page.now c.args.pen.now.writer m.readers.now m.buffers.now in
    no_reader _ c.args.records.now L c.requires.ready c.args.command (rw c.reader_or-i.ensures at c.if-i-n.false)

pub returns-in-Ok-clause-carried : goal.returns-in-Ok-clause-carried
returns-in-Ok-clause-carried c =
    let m = c.args.self.now in
    let L = lent m.page.now c.args.pen.now.writer m.readers.now m.buffers.now in
    ap (among L) c.in-Ok.ensures.wrote
    ∙ sym (carry-writes _ c.args.records.now L c.requires.ready c.args.room c.args.command
    (rw c.reader_or-i.ensures at c.if-i-n.false))

pub returns-in-Err-clause-carried : goal.returns-in-Err-clause-carried
returns-in-Err-clause-carried c =
    let m = c.args.self.now in
    let L = lent m.page.now c.args.pen.now.writer m.readers.now m.buffers.now in
    ap (among L) c.in-Err.ensures.wrote
    ∙ sym (carry-writes _ c.args.records.now L c.requires.ready c.args.room c.args.command
    (rw c.reader_or-i.ensures at c.if-i-n.false))
