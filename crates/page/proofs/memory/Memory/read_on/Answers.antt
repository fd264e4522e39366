use Rattle.std.proofs.Common.{refl, ap, arith}
use Rattle.protocol.specs.declared.Command.TheVariants.{ReaderStep}
use Rattle.protocol.specs.declared.Outcome.TheVariants.{Nothing}
use Rattle.std.specs.Prelude.{Ok}
use Rattle.checks.specs.Seen.{shape}
use Rattle.page.specs.Carry.{reader_at, within}
use Rattle.page.proofs.Here.{here}
use Rattle.page.proofs.Readers.Fits.{step-ready}
use Rattle.page.proofs.Readers.Commands.{reads-step}
use Rattle.page.proofs.memory.Memory.read_on.Goals as goal

pub bounds-self-position : goal.bounds-self-position
bounds-self-position c =
    let a = c.args in
    let low = c.if-self-i.false in
    let is = here a.self.now.readers.now a.i low in
    let within = (rw is at c.position.ensures.within) _ (c.requires.ready low).held in
    omega (arith, within, (c.requires.ready low).long)

pub advance-requires-clause-ready : goal.advance-requires-clause-ready
advance-requires-clause-ready c =
    let a = c.args in
    let low = c.if-self-i.false in
    let is = here a.self.now.readers.now a.i low in
    rw is (step-ready (shape a.form) _ _ _ a.i _ (c.requires.ready low) _ ((rw is at c.position.ensures.next) _ (c.requires.ready low).held))

-- the reader is put back in its place, and its buffer among the others
pub returns-clause-moved : goal.returns-clause-moved
returns-clause-moved c =
    let a = c.args in
    let m = a.self.now in
    let low = c.if-self-i.false in
    let is = here m.readers.now a.i low in (
      low,
      λ room.
          ap (within a.i m.readers.now)
          (reads-step (shape a.form) m.page.now a.i room (reader_at m.readers.now a.i) m.buffers.now (ReaderStep a.i)
          (Ok Nothing) c.advance.new.reader a.i refl (c.requires.ready low).own _ c.advance.new.buffer
          ((rw is at c.position.ensures.next) _ (c.requires.ready low).held) (rw is at (c.advance.ensures a.i room))),
    )
