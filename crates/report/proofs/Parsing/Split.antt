-- What follows a form, cut off part by part.
use Rattle.std.proofs.Common.{◌≡◌, ap, ◌∙◌, ℕ, ◌+◌, ◌*◌, List, length, take, drop, arith}
use Rattle.std.proofs.lemmas.List.{drop-drop}
use Rattle.std.specs.Int.{from_be_bytes, w64, w16}
use Rattle.std.specs.List.{IsSplitAt}
use denote.Bor.{Bor}
use Rattle.codec.proofs.Bytes.{length_part}
use Rattle.codec.proofs.Numerals.{number-8}
use Rattle.report.specs.Header.{number}
use Rattle.report.specs.Seen.{PartsOf}
use Rattle.report.proofs.Parsing.Numbers.{number-2}

-- a part of so many bytes, as std cuts it off
abbrev pub Cut : (k : ℕ) → List ℕ → List ℕ → List ℕ → Type 0
Cut k s part rest = (part ≡ take k s) × (rest ≡ drop k s) × (length rest + k ≡ length s)

pub parts-of :
    (s : List ℕ) (n : ℕ) {count r₁ r₂ two r₃ : List ℕ} {first records rest : Bor (List ℕ)} {k x : ℕ} →
    Cut 8 s count r₁ → IsSplitAt r₁ n first.now r₂ → Cut 2 r₂ two r₃ → k ≡ from_be_bytes w16 two →
    IsSplitAt r₃ (k * n) records.now rest.now → x ≡ from_be_bytes w64 count →
    PartsOf n s (record { count = record { 0 = x }; first = first; records = records; commands = rest })
parts-of s n {k = k} a b c d e f =
    let size : (k ≡ number 2 (8 + n) s) =
    d ∙ ap (from_be_bytes w16) (c.0 ∙ ap (take 2) (b.2 ∙ ap (drop n) a.1 ∙ drop-drop n 8 s))
    ∙ number-2 (take 2 (drop (8 + n) s)) (length_part s (8 + n) 2 (omega (arith, a.2, b.4, c.2))) in
    record {
      fits = rw (← size) (omega (arith, a.2, b.4, c.2, e.4));
      count = f ∙ ap (from_be_bytes w64) a.0 ∙ number-8 (take 8 s) (length_part s 0 8 (omega (arith, a.2)));
      first = b.1 ∙ ap (take n) a.1;
      records =
          rw (← size)
          (e.1 ∙ ap (take (k * n)) (c.1 ∙ ap (drop 2) (b.2 ∙ ap (drop n) a.1 ∙ drop-drop n 8 s) ∙ drop-drop 2 (8 + n) s));
    }
