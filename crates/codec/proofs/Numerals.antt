-- A number's bytes, high byte first, and the number that bytes say, as std names them.
use Rattle.std.proofs.Common.{◌≡◌, ap, ◌∙◌, ℕ, zero, suc, ◌+◌, ◌-◌, ◌≤◌, List, [], ◌∷◌, ◌++◌, length, arith}
use Rattle.std.specs.Int.{to_be_bytes, from_be_bytes, w64, w32, w16}
use Rattle.std.proofs.lemmas.List.{take-replicate}
use mathlib.Core.List.{append-nil}
use lib.ListN.{drop, replicate, length-replicate, length-append, length-drop, drop_of_length-le}
use borrow.Rule.Slice.PartMut.{put_mid}
use Rattle.radix.specs.Digits.{bytes, of_bytes}
use Rattle.codec.specs.Number.{number_in}
use Rattle.codec.proofs.Bytes.{part, length_part, all_there}

pub bytes-8 : (n : ℕ) → to_be_bytes w64 n ≡ bytes 8 n
bytes-8 n = grind arith

pub bytes-4 : (n : ℕ) → to_be_bytes w32 n ≡ bytes 4 n
bytes-4 n = grind arith

pub bytes-2 : (n : ℕ) → to_be_bytes w16 n ≡ bytes 2 n
bytes-2 n = grind arith

pub number-8 : (l : List ℕ) → length l ≡ 8 → from_be_bytes w64 l ≡ of_bytes l
number-8 [] h = absurd (omega arith)
number-8 (a ∷ []) h = absurd (omega arith)
number-8 (a ∷ b ∷ []) h = absurd (omega arith)
number-8 (a ∷ b ∷ c ∷ []) h = absurd (omega arith)
number-8 (a ∷ b ∷ c ∷ d ∷ []) h = absurd (omega arith)
number-8 (a ∷ b ∷ c ∷ d ∷ e ∷ []) h = absurd (omega arith)
number-8 (a ∷ b ∷ c ∷ d ∷ e ∷ f ∷ []) h = absurd (omega arith)
number-8 (a ∷ b ∷ c ∷ d ∷ e ∷ f ∷ g ∷ []) h = absurd (omega arith)
number-8 (a ∷ b ∷ c ∷ d ∷ e ∷ f ∷ g ∷ i ∷ []) h = grind arith
number-8 (a ∷ b ∷ c ∷ d ∷ e ∷ f ∷ g ∷ i ∷ j ∷ l) h = absurd (omega arith)

-- zeros in front say nothing
zeros-first : (k : ℕ) (l : List ℕ) → of_bytes (replicate k 0 ++ l) ≡ of_bytes l
zeros-first zero l = omega arith
zeros-first (suc k) l = omega (arith, zeros-first k l)

-- bytes at the end of eight, with zeros in front
pub number-at :
    (s : List ℕ) (at k : ℕ) {new : List ℕ} → k ≤ 8 → at + k ≤ length s → new ≡ part s at k →
    from_be_bytes w64 (put_mid (8 - k) (8 - (8 - k)) (replicate 8 0) new) ≡ number_in s at k
number-at s at k {new} few there e =
    let zeros : List ℕ = replicate (8 - k) 0 in
    let long : length (part s at k) ≡ k = length_part s at k there in
    let all : length (zeros ++ part s at k) ≡ 8 =
    omega (arith, length-append zeros (part s at k), length-replicate {A = ℕ} (8 - k) 0) in
    let past : 8 - (8 - k) ≡ k = omega arith in
    let behind : drop k (drop (8 - k) (replicate {A = ℕ} 8 0)) ≡ [] =
    drop_of_length-le (drop (8 - k) (replicate 8 0)) (omega (arith, length-drop (8 - k) (replicate {A = ℕ} 8 0))) in
    let whole : put_mid (8 - k) (8 - (8 - k)) (replicate 8 0) new ≡ zeros ++ part s at k =
    rw (e, past, behind, append-nil, take-replicate {X = ℕ} (8 - k) 8 0 (omega arith)) in
    ap (from_be_bytes w64) whole ∙ number-8 (zeros ++ part s at k) all ∙ zeros-first (8 - k) (part s at k)
    ∙ all_there s at k few there
