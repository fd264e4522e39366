-- What a part that is put does to a line.
use Rattle.std.specs.Prelude.{◌≡◌, List, ℕ, ◌+◌, length}
use Rattle.codec.specs.Entry.{overlay}
use Rattle.report.specs.declared.line.Line.{Line}

-- a text stands behind what was written
pub record Wrote (old new : Line) (text : List ℕ) : Type 0 where
  pub bytes : new.bytes.now ≡ overlay old.bytes.now old.written text
  pub written : new.written ≡ old.written + length text
  pub long : length new.bytes.now ≡ length old.bytes.now
  pub loan : new.bytes.ghost_name ≡ old.bytes.ghost_name
