-- The bytes stand at the end of eight.
use mathlib.Core.Path.{refl, ◌∙◌}
use Prim.Native.Nat.{◌+◌}
use native.Mathlib.Omega.{arith}
use Rattle.codec.proofs.Numerals.{number-at}
use Rattle.codec.proofs.Places.{part-to}
use Rattle.codec.proofs.numbers.number.Goals as goal

pub returns : goal.returns
returns c =
    let s = c.args.bytes.now in
    let at = c.args.at in
    let k = c.args.size in
    c.from_be_bytes.ensures
    ∙ number-at s at k (omega arith) (omega (arith, c.if-bytes-size.false, c.if-bytes-size-2.false))
    (c.copy_from_slice.ensures.after ∙ part-to s at (at + k) k refl)
