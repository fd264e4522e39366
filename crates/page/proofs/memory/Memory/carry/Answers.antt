use Rattle.std.proofs.Common.{◌≡◌, refl, sym, ap, ◌∙◌, arith}
use Rattle.protocol.specs.Command.{whose_of}
use Rattle.protocol.specs.declared.Command.{Command}
use Rattle.protocol.specs.declared.Command.TheVariants.{ReaderStep}
use Rattle.checks.specs.Seen.{shape}
use Rattle.page.specs.Carry.{reader_at, within, carry_at}
use Rattle.page.proofs.Here.{here}
use Rattle.page.proofs.Readers.Commands.{reads-count, reads-record, reads-cancel}
use Rattle.page.proofs.memory.Memory.carry.Goals as goal

pub returns-in-BeginCountRead-clause-carried : goal.returns-in-BeginCountRead-clause-carried
returns-in-BeginCountRead-clause-carried c =
    let a = c.args in
    let m = a.self.now in
    let is = here m.readers.now a.i c.requires.there in
    let F = shape a.form in
    ap (within a.i m.readers.now)
    (reads-count F m.page.now a.i a.room (reader_at m.readers.now a.i) m.buffers.now a.command c.begin_count.result
    c.begin_count.new.reader _ _ c.in-BeginCountRead.is
    (λ b. rw is at (c.begin_count.ensures F b (rw is c.requires.ready.held))))

pub returns-in-BeginRecordRead-clause-carried : goal.returns-in-BeginRecordRead-clause-carried
returns-in-BeginRecordRead-clause-carried c =
    let a = c.args in
    let m = a.self.now in
    let is = here m.readers.now a.i c.requires.there in
    let F = shape a.form in
    ap (within a.i m.readers.now)
    (reads-record F m.page.now a.i a.room (reader_at m.readers.now a.i) m.buffers.now a.command c.begin_record.result
    c.begin_record.new.reader _ _ c.in-BeginRecordRead.is
    (λ b. rw is at (c.begin_record.ensures F b (rw is c.requires.ready.held))))

pub returns-in-Cancel-clause-carried : goal.returns-in-Cancel-clause-carried
returns-in-Cancel-clause-carried c =
    let a = c.args in
    let m = a.self.now in
    let is = here m.readers.now a.i c.requires.there in
    let F = shape a.form in
    ap (within a.i m.readers.now)
    (reads-cancel F m.page.now a.i a.room (reader_at m.readers.now a.i) m.buffers.now a.command c.cancel.result
    c.cancel.new.reader _ c.in-Cancel.is (λ b. rw is at (c.cancel.ensures F b (rw is c.requires.ready.held))))

-- a step is one of this reader
pub step-requires-clause-ready : goal.step-requires-clause-ready
unfolding whose_of
step-requires-clause-ready c =
    let p = c.requires.ready in
    record { held = p.held; long = p.long; allows = p.allows; size = p.size; below = p.below; own = refl }

pub returns-in-ReaderStep-clause-carried : goal.returns-in-ReaderStep-clause-carried
unfolding whose_of
returns-in-ReaderStep-clause-carried c =
    let a = c.args in
    let m = a.self.now in
    let F = shape a.form in
    let mine : c.in-ReaderStep.field-0 ≡ a.i =
    ap (λ (z : Command). whose_of z F.readers) (sym c.in-ReaderStep.is) ∙ c.requires.ready.own
    in
    c.step.ensures.step
    ∙ ap (λ (z : Command). carry_at F m.page.now a.i a.room m.readers.now m.buffers.now z)
    (sym (c.in-ReaderStep.is ∙ ap ReaderStep mine))

-- the writer's commands are none of a reader's
pub unreachable-requires : goal.unreachable-requires
unfolding whose_of
unreachable-requires c =
    let n = (shape c.args.form).readers in
    let mine : n ≡ c.args.i = ap (λ (z : Command). whose_of z n) (sym c.in-WriteCount.is) ∙ c.requires.ready.own in
    omega (arith, c.requires.ready.below)

pub unreachable-requires-in-WriteRecord : goal.unreachable-requires-in-WriteRecord
unfolding whose_of
unreachable-requires-in-WriteRecord c =
    let n = (shape c.args.form).readers in
    let mine : n ≡ c.args.i = ap (λ (z : Command). whose_of z n) (sym c.in-WriteRecord.is) ∙ c.requires.ready.own in
    omega (arith, c.requires.ready.below)

pub unreachable-requires-in-WriterStep : goal.unreachable-requires-in-WriterStep
unfolding whose_of
unreachable-requires-in-WriterStep c =
    let n = (shape c.args.form).readers in
    let mine : n ≡ c.args.i = ap (λ (z : Command). whose_of z n) (sym c.in-WriterStep.is) ∙ c.requires.ready.own in
    omega (arith, c.requires.ready.below)
