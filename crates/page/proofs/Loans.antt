-- The same loans, from call to call.
use Rattle.std.proofs.Common.{◌∙◌, refl}
use Rattle.page.specs.declared.memory.Memory.{Memory}
use Rattle.page.specs.Loans.{SameLoans}

pub same : (x : Memory) → SameLoans x x
same x = record { page = refl; readers = refl; buffers = refl }

pub same-then : {x y z : Memory} → SameLoans x y → SameLoans y z → SameLoans x z
same-then e f = record { page = f.page ∙ e.page; readers = f.readers ∙ e.readers; buffers = f.buffers ∙ e.buffers }
