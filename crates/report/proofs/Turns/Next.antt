-- What the decoded bytes from a place on say: a command, and the place after it, or none.
use Rattle.std.proofs.Common.{◌≡◌, refl, sym, ap, ◌∙◌, ℕ, ◌-◌, ◌≤◌, ◌<◌, List, [], ◌∷◌, ◌++◌, length, length-append, length-drop, drop, arith}
use Rattle.protocol.specs.Command.{Decoded, over, unknown, command, decode}
use Rattle.protocol.proofs.Runs.Decode.{Front, decode-front, decode-some}
use Rattle.codec.proofs.Next.{rest_at, Next}

abbrev pub Says : List ℕ → ℕ → Decoded → Type 0
Says s at over = length s ≤ at
Says s at unknown = at < length s
Says s at (command x t) = Next s at x (length s - length t)

none_left : (l : List ℕ) → decode l ≡ over → length l ≡ 0
none_left [] e = refl
none_left (k ∷ l) e = absurd (decode-some k l e)

some_left : (l : List ℕ) → decode l ≡ unknown → 0 < length l
unfolding decode
some_left [] e = absurd (let z : ◌≡◌ {A = ℕ} 0 1 = cc in omega arith)
some_left (k ∷ l) e = omega arith

pub says : (s : List ℕ) (at : ℕ) (d : Decoded) → decode (drop at s) ≡ d → Says s at d
says s at over e = omega (arith, none_left (drop at s) e, length-drop at s)
says s at unknown e = omega (arith, some_left (drop at s) e, length-drop at s)
says s at (command x t) e =
    let front : Front (drop at s) x t = decode-front (drop at s) x t e in
    let some = front.some in
    let sizes : length (front.bytes ++ t) ≡ length s - at = ap length (sym front.split) ∙ length-drop at s in
    let long = length-append front.bytes t in
    let (place, rest) = rest_at s at front.bytes t (omega arith) front.split in
    record {
      later = omega arith;
      inside = omega arith;
      meant = e ∙ ap (command x) (sym rest);
    }
