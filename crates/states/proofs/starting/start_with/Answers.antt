-- A start that finds no refusal is ready.
use Rattle.std.proofs.Common.{sym, refl, ◌∙◌}
use Rattle.checks.specs.Seen.{shape}
use Rattle.checks.specs.Start.{lent}
use Rattle.states.proofs.Starts.{start-parts, start-ready}
use Rattle.states.proofs.starting.start_with.Goals as goal

pub returns-clause-ready : goal.returns-clause-ready
returns-clause-ready c = λ bs long.
    let a = c.args in
    start-ready (shape a.form) a.records.now (lent a.page.now a.writer a.readers.now bs)
    (start-parts (shape a.form) a.records.now a.page.now a.writer a.readers.now bs
    ∙ rw (long, ← c.checked.ensures, c.in_ok-checked.was, sym c.readers_valid.ensures ∙ c.if-not-readers_valid.false) refl)
