-- What a step of a write puts down: a digit of its number, or a byte of the record.
use Rattle.std.proofs.Common.{◌≡◌, ℕ, List, true, false, ◌+◌, ◌*◌, ◌-◌, ◌<◌, get_or, arith, ◌∙◌}
use Rattle.protocol.specs.Form.{Form, m, own, version_bases, count_steps, record_steps}
use Rattle.protocol.specs.Layout.{count_digits, record_digits}
use Rattle.protocol.specs.Allowed.{version_digits}
use Rattle.protocol.specs.Step.{record_at, in_records}
use Rattle.checks.specs.Layout.{in_content, there_and_back}
use Rattle.page.specs.Pen.{ink_of}
use Rattle.protocol.specs.declared.Writer.{Writer}
use Rattle.protocol.proofs.Allowed.Writer.{record-length}
use Rattle.protocol.proofs.Positions.Records.{length-version_bases}
use Rattle.checks.proofs.Inside.{there-inside}
use Rattle.page.proofs.Writes.Ink.{eight-at}
use Rattle.page.proofs.Writes.Pending.{count-ink-of, version-ink-of}
use Rattle.page.proofs.Writes.Stores.{count-digit, version-step, byte-here}

-- a digit of the count
pub count-put :
    (F : Form) (w : Writer) → w.kind ≡ 1 → w.steps < count_steps F →
    get_or (ink_of F w) (there_and_back (own F) (m F) w.steps) 0 ≡ get_or (count_digits F w.count) w.steps 0
count-put F w is inside =
    let low = there-inside (own F) (m F) w.steps (omega (arith, inside)) (omega arith) in
    rw (count-ink-of F w is)
    (eight-at F.bases w.count.0 (there_and_back (own F) (m F) w.steps) low ∙ count-digit F w.count.0 w.steps inside)

module _ (F : Form) (S : List ℕ) (w : Writer) (there : in_records F S w.index ≡ true) where
  -- a digit of the version
  pub version-put :
      w.kind ≡ 2 → w.steps < record_steps F → in_content F w.steps ≡ false →
      get_or (ink_of F w) (there_and_back F.q F.q (version_digits F w.steps)) 0
      ≡ get_or (record_digits F w.version (record_at F S w.index)) w.steps 0
  version-put is inside out =
      let (few, same) =
      version-step F w.version.0 w.steps (record_at F S w.index) (record-length F S w.index there) out inside in
      let low = there-inside F.q F.q (version_digits F w.steps) few (omega arith) in
      rw (version-ink-of F w (λ e. omega (arith, e, is)))
      (eight-at (version_bases F) w.version.0 (there_and_back F.q F.q (version_digits F w.steps))
      (omega (arith, low, length-version_bases F))
      ∙ same)

  -- a byte of the record
  pub content-put :
      in_content F w.steps ≡ true →
      get_or S (w.index * F.n + (w.steps - F.q)) 0 ≡ get_or (record_digits F w.version (record_at F S w.index)) w.steps 0
  content-put within = byte-here F S w.version.0 w.index w.steps there within
