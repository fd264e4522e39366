use Rattle.std.proofs.Common.{refl, ap, arith}
use Rattle.protocol.specs.declared.Command.TheVariants.{ReaderStep}
use Rattle.checks.specs.Seen.{shape}
use Rattle.page.specs.Carry.{reader_at, within}
use Rattle.page.proofs.Here.{here}
use Rattle.page.proofs.Readers.Fits.{step-ready}
use Rattle.page.proofs.Readers.Commands.{reads-step}
use Rattle.page.proofs.memory.Memory.step.Goals as goal

pub bounds-self-position : goal.bounds-self-position
bounds-self-position c =
    let a = c.args in
    let is = here a.self.now.readers.now a.i c.requires.there in
    let within = (rw is at c.position.ensures.within) _ c.requires.ready.held in
    omega (arith, within, c.requires.ready.long)

pub step-requires : goal.step-requires
step-requires c =
    let a = c.args in
    let is = here a.self.now.readers.now a.i c.requires.there in
    rw is (step-ready (shape a.form) _ _ _ a.i _ c.requires.ready _ ((rw is at c.position.ensures.next) _ c.requires.ready.held))

-- the reader is put back in its place, and its buffer among the others
pub returns-clause-step : goal.returns-clause-step
returns-clause-step c =
    let a = c.args in
    let m = a.self.now in
    let is = here m.readers.now a.i c.requires.there in
    ap (within a.i m.readers.now)
    (reads-step (shape a.form) m.page.now a.i a.room (reader_at m.readers.now a.i) m.buffers.now (ReaderStep a.i)
    c.step.result c.step.new.reader a.i refl c.requires.ready.own _ c.step.new.buffer ((rw is at c.position.ensures.next) _ c.requires.ready.held)
    (rw is at c.step.ensures))
