-- What is lent is the same where each of its parts is.
use mathlib.Core.Path.{◌≡◌}
use mathlib.Core.List.{List}
use Prim.Native.Nat.{ℕ}
use Rattle.protocol.specs.declared.Reader.{Reader}
use Rattle.protocol.specs.declared.Writer.{Writer}
use Rattle.page.specs.Carry.{lent}

pub same-lent :
    (p p' : List ℕ) (w : Writer) (rs rs' : List Reader) (b b' : List ℕ) → p' ≡ p → rs' ≡ rs → b' ≡ b →
    lent p' w rs' b' ≡ lent p w rs b
same-lent p p' w rs rs' b b' page readers buffers = λ i. lent (page i) w (readers i) (buffers i)
