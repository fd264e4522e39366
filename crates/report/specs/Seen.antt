-- A header as the code hands it on, seen as the definition's.
use Rattle.std.specs.Prelude.{◌≡◌, List, Result, Ok, Err, ℕ, ◌+◌, ◌*◌, length, take, drop}
use Rattle.protocol.specs.Form.{form_of}
use Rattle.protocol.specs.declared.Refusal.{Refusal}
use Rattle.report.specs.Header.{number, Header, Parsed}
use Rattle.report.specs.declared.header.Header.{Header as Found}
use Rattle.report.specs.declared.header.Parts.{Parts}

abbrev pub seen : Found → Header
seen h = record {
  form = form_of (take h.places h.all) h.format;
  count = h.count;
  first = h.first.now;
  records = h.records.now;
  commands = h.commands;
}

abbrev pub said : Result Found Refusal → Parsed
said (Ok h) = Ok (seen h)
said (Err why) = Err why

-- how long the parts after a form are
abbrev pub parts_size : (n : ℕ) → List ℕ → ℕ
parts_size n s = 8 + n + 2 + number 2 (8 + n) s * n

pub record PartsOf (n : ℕ) (s : List ℕ) (p : Parts) : Type 0 where
  pub fits : length p.commands.now + parts_size n s ≡ length s
  pub count : p.count.0 ≡ number 8 0 s
  pub first : p.first.now ≡ take n (drop 8 s)
  pub records : p.records.now ≡ take (number 2 (8 + n) s * n) (drop (8 + n + 2) s)
