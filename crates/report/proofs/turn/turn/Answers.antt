-- Each test is the definition's, and each call leaves what the definition tells.
use Rattle.std.proofs.lemmas.Result.{err_from_is_err_and}
use Rattle.std.proofs.lemmas.List.{take_rest}
use Rattle.std.proofs.Common.{◌≡◌, refl, sym, ap, ◌∙◌, [], ◌∷◌, ℕ, ◌+◌, ◌-◌, length, length-drop, Ok, false, arith}
use Rattle.protocol.specs.Form.{form_of}
use Rattle.packed.specs.Kept.{kept, run_kept, step_kept}
use Rattle.report.specs.Seen.{seen}
use Rattle.report.specs.Text.{outcome_line}
use Rattle.report.specs.Turn.{turn_of}
use Rattle.report.specs.Calls.{turned_by, turned_from}
use Rattle.report.proofs.Turns.Calls.{fewer, last_none, outcome_fits, last-refused, goes_on}
use Rattle.report.proofs.Turns.Tests.{beyond, too_many, at-end, inside, tells-last}
use Rattle.report.proofs.turn.turn.Goals as goal
use Rattle.report.proofs.turn.turn.Goals.{then-input-at-via-then-input-at, then-input-at-via-else-input-at+then-at-done}

-- a header that is refused
pub returns-in_err-header-clause-turned : goal.returns-in_err-header-clause-turned
unfolding turn_of
returns-in_err-header-clause-turned c =
    let why = err_from_is_err_and c.from_residual.result c.from_residual.ensures.1 in
    rw (why.1, why.2) (ap (λ x. turned_from c.args.line.now (turn_of c.args.input.bytes.now c.args.progress (kept c.args.memory.now.page.now c.args.writer.now c.args.memory.now.states.now c.args.memory.now.buffers.now) x)) c.in_err-header.ensures)

-- a strange place
pub returns-then-input-at-clause-turned : goal.returns-then-input-at-clause-turned
returns-then-input-at-clause-turned c =
    let s = c.args.input.bytes.now in
    let p = c.args.progress in
    let K = kept c.args.memory.now.page.now c.args.writer.now c.args.memory.now.states.now c.args.memory.now.buffers.now in
    let h = c.in_ok-header.header in
    let told = ap (λ x. turned_from c.args.line.now (turn_of s p K x)) c.in_ok-header.ensures in
    ap (turned_from c.args.line.now)
    (sym (elim c.then-input-at.branch [
      | then-input-at-via-then-input-at w ↦ beyond s p K (seen h) w.if-input-at.true
      | then-input-at-via-else-input-at+then-at-done w ↦ too_many s p K (seen h) w.if-input-at.false w.if-at-done.true
    ]))
    ∙ told

-- the end of the input
pub returns-then-at-input-clause-turned : goal.returns-then-at-input-clause-turned
returns-then-at-input-clause-turned c =
    let s = c.args.input.bytes.now in
    let p = c.args.progress in
    let K = kept c.args.memory.now.page.now c.args.writer.now c.args.memory.now.states.now c.args.memory.now.buffers.now in
    let h = c.in_ok-header.header in
    let told = ap (λ x. turned_from c.args.line.now (turn_of s p K x)) c.in_ok-header.ensures in
    tells-last c.args.line.now p K (Ok tt) c.last_turn.ensures.turned c.last_turn.ensures.line
    ∙ ap (turned_from c.args.line.now) (sym (at-end s p K (seen h) c.if-at-input.true c.if-at-done.false))
    ∙ told

-- what is no command
pub returns-in_default-clause-turned : goal.returns-in_default-clause-turned
returns-in_default-clause-turned c =
    let s = c.args.input.bytes.now in
    let p = c.args.progress in
    let K = kept c.args.memory.now.page.now c.args.writer.now c.args.memory.now.states.now c.args.memory.now.buffers.now in
    let h = c.in_ok-header.header in
    let told = ap (λ x. turned_from c.args.line.now (turn_of s p K x)) c.in_ok-header.ensures in
    tells-last c.args.line.now p _ _ c.last_turn-in_default.ensures.turned c.last_turn-in_default.ensures.line
    ∙ ap (turned_from c.args.line.now)
    (last_none s p K (seen h) c.in_default.ensures.command (take_rest s p.at)
    (c.run-ran.ensures.ran ∙ ap (λ b. run_kept (form_of b h.format) h.records.now K c.take.new.self.bytes.now (0 ∷ [])) c.bases.ensures)
    ∙ sym (inside s p K (seen h) (omega arith) c.if-at-done.false))
    ∙ told

-- a command that is refused
pub returns-in_err-outcome-clause-turned : goal.returns-in_err-outcome-clause-turned
returns-in_err-outcome-clause-turned c =
    let s = c.args.input.bytes.now in
    let p = c.args.progress in
    let K = kept c.args.memory.now.page.now c.args.writer.now c.args.memory.now.states.now c.args.memory.now.buffers.now in
    let h = c.in_ok-header.header in
    let told = ap (λ x. turned_from c.args.line.now (turn_of s p K x)) c.in_ok-header.ensures in
    let why = err_from_is_err_and c.from_residual-in_err-outcome.result c.from_residual-in_err-outcome.ensures.1 in
    rw (why.1, why.2)
    (ap (turned_from c.args.line.now)
    (last-refused s p K (seen h) _ _ _ c.in-Some.ensures.command (take_rest s p.at)
    (c.in_err-outcome.ensures.stepped ∙ ap (λ b. step_kept (form_of b h.format) h.records.now K c.in-Some.command) c.bases-2.ensures) _ refl
    ∙ sym (inside s p K (seen h) (omega arith) c.if-at-done.false))
    ∙ told)

pub outcome-requires-clause-there : goal.outcome-requires-clause-there
outcome-requires-clause-there c =
    let s = c.args.input.bytes.now in
    let p = c.args.progress in
    let K = kept c.args.memory.now.page.now c.args.writer.now c.args.memory.now.states.now c.args.memory.now.buffers.now in
    let h = c.in_ok-header.header in
    outcome_fits s p K (seen h) _ _ _ c.in-Some.ensures.command (take_rest s p.at)
    (c.in_ok-outcome.ensures.stepped ∙ ap (λ b. step_kept (form_of b h.format) h.records.now K c.in-Some.command) c.bases-2.ensures) _ refl

pub overflow_sub-result : goal.overflow_sub-result
overflow_sub-result c =
    let s = c.args.input.bytes.now in
    let at = c.args.progress.at in
    omega (arith, fewer _ _ _ c.in-Some.ensures.command, ap (length {A = ℕ}) (take_rest s at), length-drop at s)

pub returns-clause-turned : goal.returns-clause-turned
returns-clause-turned c =
    let s = c.args.input.bytes.now in
    let p = c.args.progress in
    let K = kept c.args.memory.now.page.now c.args.writer.now c.args.memory.now.states.now c.args.memory.now.buffers.now in
    let h = c.in_ok-header.header in
    let told = ap (λ x. turned_from c.args.line.now (turn_of s p K x)) c.in_ok-header.ensures in
    let turn =
    goes_on s p K (seen h) _ _ _ c.in-Some.ensures.command (take_rest s p.at)
    (c.in_ok-outcome.ensures.stepped ∙ ap (λ b. step_kept (form_of b h.format) h.records.now K c.in-Some.command) c.bases-2.ensures) _ refl
    ∙ sym (inside s p K (seen h) (omega arith) c.if-at-done.false) in
    let text = outcome_line h.format.n c.step.new.memory.buffers.now c.in_ok-outcome.outcome in
    let w = c.outcome.ensures in
    let size : c.outcome.new.self.written ≡ length text = omega (arith, w.written, c.new-text.ensures.written) in
    let bytes = rw (c.new-text.ensures.bytes, c.new-text.ensures.written) at w.bytes in
    (λ i. turned_by (record {
      written = size i;
      last = false;
      progress = record { at = length s - length c.take.new.self.bytes.now; done = p.done + 1 };
    }) (kept c.step.new.memory.page.now c.step.new.writer c.step.new.memory.states.now c.step.new.memory.buffers.now) (bytes i))
    ∙ ap (turned_from c.args.line.now) turn
    ∙ told
