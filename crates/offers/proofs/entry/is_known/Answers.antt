-- `offers::entry::is_known` meets its contract: four words have no member past 255.
use mathlib.Core.Path.{◌≡◌, sym, subst}
use Prim.Native.Nat.{ℕ, ◌*◌, ◌^◌, ◌≤◌, ◌<◌}
use native.Mathlib.Omega.{arith}
use borrow.Author.Rules.{rules}
use lib.ListN.{length}
use Rattle.bitset.specs.Words.{value}
use Rattle.bitset.proofs.Laws.Bytes.{packed_lt}
use Rattle.bitset.proofs.Laws.Member.{member_above}
use Rattle.offers.proofs.entry.is_known.Goals as goal

pub returns-in-Err : goal.returns-in-Err
returns-in-Err c = let ws = c.args.known.now in
    let four : length ws ≡ 4 = search rules in
    let high : 256 ≤ c.args.e = omega (arith, c.in-Err.ensures) in
    sym (member_above (value ws) 256 c.args.e (subst (λ (n : ℕ). value ws < 2 ^ (n * 64)) four (packed_lt 64 ws c.fits-known)) high)
