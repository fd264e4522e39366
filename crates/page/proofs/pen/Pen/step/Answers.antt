use Rattle.page.proofs.Writes.Writers.{record-kind, count-steps, record-steps}
use Rattle.page.proofs.pen.Pen.step.Goals as goal

pub count_step-requires-clause-inside : goal.count_step-requires-clause-inside
count_step-requires-clause-inside c = count-steps _ _ _ _ c.requires.ready c.if-self-eq-COUNT_WRITE.true

pub content_step-requires-clause-there : goal.content_step-requires-clause-there
content_step-requires-clause-there c =
    (record-steps _ _ _ _ c.requires.ready (record-kind _ c.if-self-eq-COUNT_WRITE.false c.requires.busy)).1

pub version_step-requires-clause-inside : goal.version_step-requires-clause-inside
version_step-requires-clause-inside c =
    (record-steps _ _ _ _ c.requires.ready (record-kind _ c.if-self-eq-COUNT_WRITE.false c.requires.busy)).0

pub version_step-requires-clause-there : goal.version_step-requires-clause-there
version_step-requires-clause-there c =
    (record-steps _ _ _ _ c.requires.ready (record-kind _ c.if-self-eq-COUNT_WRITE.false c.requires.busy)).1
