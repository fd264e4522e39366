-- Lemmas that the check tries at the goals of a function.
use Rattle.codec.proofs.Numerals.{bytes-8, bytes-4, bytes-2}

pub ruleset numerals = (bytes-8, bytes-4, bytes-2)
