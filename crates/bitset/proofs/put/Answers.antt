-- `bitset::put` meets its contract: one bit more in one word.
use mathlib.Core.Path.{ap, ◌∙◌}
use native.Mathlib.Omega.{arith}
use Rattle.bitset.specs.Set.{insert}
use Rattle.bitset.specs.Words.{value}
use Rattle.bitset.specs.Inner.{FourWords}
use Rattle.bitset.proofs.Laws.Place.{place_back}
use Rattle.bitset.proofs.Laws.Union.{put_words, put_value}
use Rattle.bitset.proofs.put.Goals as goal

pub returns : goal.returns
returns c = let s = c.args.s.now in let w = c.word_of-w in let b = c.bit_of in let four : FourWords s = record { four = c.told-s; below = c.fits-s } in
    record {
      words = put_words s four w.result b.result (omega arith) (omega arith);
      set = put_value s four w.result b.result (omega arith) (omega arith) ∙ ap (insert (value s)) (place_back 6 c.args.e w.result b.result w.ensures b.ensures);
    }
