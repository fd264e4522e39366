-- The run of an input, and what is lent to it.
use Rattle.std.specs.Prelude.{◌≡◌, List, ℕ, length}
use Rattle.packed.specs.declared.Memory.{Memory}
use Rattle.report.specs.declared.Input.{Input}
use Rattle.report.specs.declared.Space.{Space}
use Rattle.report.specs.Printed.{printed}

abbrev pub printed_of : Input → List ℕ
printed_of i = printed i.more i.bytes.now

-- as much is lent as was asked for
pub record Roomy (space : Space) (memory : Memory) : Type 0 where
  pub page : length memory.page.now ≡ space.page
  pub buffers : length memory.buffers.now ≡ space.buffers
  pub states : length memory.states.now ≡ space.states
