use Rattle.std.proofs.Common.{◌≡◌, length-take-le, suc, sym, refl, drop, length, Ok, arith}
use Rattle.radix.specs.Answers.{ends_of}
use Rattle.radix.specs.Copies.{low_end, high_end}
use Rattle.radix.specs.declared.Ends.TheVariants.{Between}
use Rattle.radix.proofs.Parting.Sharing.{zeros-begun}
use Rattle.radix.proofs.Rules.{ends}
use Rattle.radix.proofs.bases.Bases.ends.Goals as goal

-- the end with zeros is told by the second copy's own digits
pub returns-in-Parted : goal.returns-in-Parted
returns-in-Parted c =
    let bs = c.args.self.list.now in
    let a = c.args.a.now in
    let own = c.args.own.now in
    let p = c.in-Parted.p in
    let within = c.in-Parted.ensures.within p refl in
    let long = length-take-le (length own) a (omega arith) in
    let told = zeros-begun (suc p) bs own (drop (length own) a) (omega arith) in
    let both : ends_of bs a own ≡ Ok (Between (low_end bs p a) (high_end bs p own)) = grind (arith, ends) in
    rw (c.low_end.ensures, c.high_end.ensures) (sym both)
