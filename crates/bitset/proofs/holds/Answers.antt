-- `bitset::holds` meets its contract: a member is a bit of one word.
use mathlib.Core.Path.{sym, ap, ◌∙◌}
use native.Mathlib.Omega.{arith}
use Rattle.bitset.specs.Set.{member}
use Rattle.bitset.specs.Words.{value}
use Rattle.bitset.proofs.Laws.Place.{place_back}
use Rattle.bitset.proofs.Laws.Words.{value_member}
use Rattle.bitset.proofs.holds.Goals as goal

pub returns : goal.returns
returns c = let s = c.args.s.now in let w = c.word_of in let b = c.bit_of in
    sym (value_member s c.fits-s w.result b.result (omega arith)) ∙ ap (member (value s)) (place_back 6 c.args.e w.result b.result w.ensures b.ensures)
