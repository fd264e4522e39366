-- A receiver that is not resting has an act under way.
use Rattle.sides.proofs.Acts.{receives}
use Rattle.sides.proofs.form.Form.step_receiving.Goals as goal

pub receive_gather-requires-clause-acts : goal.receive_gather-requires-clause-acts
receive_gather-requires-clause-acts c = receives _ _ c.requires.holds c.if-receiver-eq-NOTHING.false

pub receive_byte-requires-clause-acts : goal.receive_byte-requires-clause-acts
receive_byte-requires-clause-acts c = receives _ _ c.requires.holds c.if-receiver-eq-NOTHING.false

pub write-requires-clause-acts : goal.write-requires-clause-acts
write-requires-clause-acts c = receives _ _ c.requires.holds c.if-receiver-eq-NOTHING.false
