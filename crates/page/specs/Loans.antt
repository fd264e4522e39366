-- All that is lent: what the definitions call a memory; and what a call keeps of it, each part is still the same loan.
use Rattle.std.specs.Prelude.{◌≡◌}
use Rattle.protocol.specs.Memory as P
use Rattle.protocol.specs.declared.Writer.{Writer}
use Rattle.page.specs.Carry.{lent}
use Rattle.page.specs.declared.memory.Memory.{Memory}

-- the protocol's memory, of what is lent and the writer
abbrev pub lent_in : Memory → Writer → P.Memory
lent_in M w = lent M.page.now w M.readers.now M.buffers.now

pub record SameLoans (old new : Memory) : Type 0 where
  pub page : new.page.ghost_name ≡ old.page.ghost_name
  pub readers : new.readers.ghost_name ≡ old.readers.ghost_name
  pub buffers : new.buffers.ghost_name ≡ old.buffers.ghost_name
