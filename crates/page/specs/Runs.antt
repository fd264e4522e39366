-- ONE COMMAND OF A RUN, with its entry in the log.
use Rattle.std.specs.Prelude.{◌≡◌, ℕ, ◌<◌, Bool, true, false, List, ◌-◌, length, Ok, Err}
use Rattle.protocol.specs.Form.{Form}
use Rattle.protocol.specs.Outcome.{Ending}
use Rattle.protocol.specs.Command.{command, decode}
use Rattle.protocol.specs.Memory.{Memory}
use Rattle.protocol.specs.declared.Command.{Command}
use Rattle.protocol.specs.declared.Command.TheVariants.{ReaderStep}
use Rattle.protocol.specs.declared.Outcome.TheVariants.{Nothing}
use Rattle.protocol.specs.declared.Reader.{Reader}
use Rattle.codec.specs.Entry.{Added, put_at}
use Rattle.page.specs.Left.{Answer}
use Rattle.page.specs.Carry.{After, after, carry_lent, after_read, carry_at}

-- how it ends, what is lent after it, and the log
pub record Acted : Type 0 where
  pub ending : Ending
  pub memory : Memory
  pub log : Added

abbrev pub acted : Ending → Memory → Added → Acted
acted e L g = record { ending = e; memory = L; log = g }

-- what is carried out is entered, and what is refused leaves the log
abbrev pub enter : Added → Answer → Memory → Acted
enter g (Ok o) L = acted (Ok tt) L (put_at g.log g.at o)
enter g (Err why) L = acted (Err why) L g

abbrev pub entered : Added → After → Acted
entered g y = enter g y.answer y.memory

abbrev pub act_lent : Form → (records : List ℕ) → Memory → Added → Command → Acted
act_lent F S L g x = entered g (carry_lent F S (length g.log - g.at) L x)

-- A STEP THAT ENDS NOTHING, whatever room the log has: of reader i, in its place; or nothing is done
abbrev pub ReadOn :
    Form → (page : List ℕ) → (i : ℕ) → List Reader → (buffers : List ℕ) → Bool → List Reader → List ℕ → Type 0
ReadOn F page i rs bs true rs' bs' =
    (i < length rs) × ((room : ℕ) → after_read (Ok Nothing) rs' bs' ≡ carry_at F page i room rs bs (ReaderStep i))
ReadOn F page i rs bs false rs' bs' = (rs' ≡ rs) × (bs' ≡ bs)

-- the first of some commands, which made N of L
pub record WentOn (F : Form) (S s rest : List ℕ) (L N : Memory) : Type 0 where
  pub this : Command
  pub says : decode s ≡ command this rest
  pub goes : (room : ℕ) → after (Ok Nothing) N ≡ carry_lent F S room L this
