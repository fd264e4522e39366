-- So many readers are unpacked.
use Rattle.std.proofs.Common.{arith, ap, ◌∙◌, ◌≤◌, length}
use Rattle.std.proofs.lemmas.List.{length-take-le}
use Rattle.packed.specs.States.{UnpackedLent}
use Rattle.packed.proofs.Kept.States.{unpacks}
use Rattle.packed.proofs.keeping.unpacked.Goals as goal

pub returns : goal.returns
returns c =
    let room : c.states_of.result ≤ length c.args.sixteen.now = omega (arith, c.well_formed) in
    ap (λ (x : UnpackedLent). x.readers) c.unpack.ensures
    ∙ unpacks _ c.args.states.now (length-take-le _ _ room ∙ c.states_of.ensures.many)
