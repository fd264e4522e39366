-- What a call keeps of what is lent: each field is still the same loan.
use Rattle.std.specs.Prelude.{◌≡◌}
use Rattle.packed.specs.declared.Memory.{Memory}

pub record SameLoans (old new : Memory) : Type 0 where
  pub page : new.page.ghost_name ≡ old.page.ghost_name
  pub states : new.states.ghost_name ≡ old.states.ghost_name
  pub buffers : new.buffers.ghost_name ≡ old.buffers.ghost_name
