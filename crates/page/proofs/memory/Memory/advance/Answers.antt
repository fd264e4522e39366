use Rattle.std.proofs.Common.{refl, sym, ap, ◌∙◌, arith}
use Rattle.protocol.specs.Command.{whose_of}
use Rattle.protocol.specs.declared.Command.TheVariants.{ReaderStep, WriterStep}
use Rattle.checks.specs.Seen.{shape}
use Rattle.page.specs.Carry.{lent, after, AfterRead}
use Rattle.page.proofs.Readers.Lent.{read-ready, carry-read}
use Rattle.page.proofs.Writes.Writers.{at-work}
use Rattle.page.proofs.Writes.Lent.{among, write-ready, carry-writes}
use Rattle.page.proofs.memory.Memory.advance.Goals as goal

pub read_on-requires : goal.read_on-requires
unfolding whose_of
read_on-requires c =
    let m = c.args.self.now in
    let L = lent m.page.now c.args.pen.now.writer m.readers.now m.buffers.now in
    let i = c.from.result in
    record { ready = λ low. read-ready _ c.args.records.now L c.requires.ready i low (ReaderStep i) refl }

pub returns-then-read_on-clause-went : goal.returns-then-read_on-clause-went
unfolding whose_of
returns-then-read_on-clause-went c =
    let m = c.args.self.now in
    let L = lent m.page.now c.args.pen.now.writer m.readers.now m.buffers.now in
    let i = c.from.result in
    let went = c.if-read_on.ensures in
    record {
      this = ReaderStep i;
      says = rw c.from.ensures c.in-Some.ensures;
      goes = λ room. rw went.page
          (ap (λ (y : AfterRead). after y.answer (lent L.page L.writer y.readers y.buffers)) (went.moved.1 room)
          ∙ sym (carry-read _ c.args.records.now L c.requires.ready i went.moved.0 (ReaderStep i) refl room));
    }

pub step-requires-clause-ready : goal.step-requires-clause-ready
step-requires-clause-ready c =
    let m = c.args.self.now in
    let L = lent m.page.now c.args.pen.now.writer m.readers.now m.buffers.now in
    write-ready _ c.args.records.now L c.requires.ready

pub step-requires-clause-busy : goal.step-requires-clause-busy
step-requires-clause-busy c =
    let m = c.args.self.now in
    let L = lent m.page.now c.args.pen.now.writer m.readers.now m.buffers.now in
    at-work _ (write-ready (shape c.args.form) c.args.records.now L c.requires.ready).kept c.if-pen-eq-NOTHING.false

pub returns-clause-went : goal.returns-clause-went
unfolding whose_of
returns-clause-went c =
    let m = c.args.self.now in
    let L = lent m.page.now c.args.pen.now.writer m.readers.now m.buffers.now in
    record {
      this = WriterStep;
      says = c.in_ok-rest.ensures;
      goes = λ room. ap (among L) c.step.ensures.wrote
          ∙ sym (carry-writes _ c.args.records.now L c.requires.ready room WriterStep (omega arith));
    }
