-- `bitset::singleton` meets its contract: one bit among words of zeros.
use mathlib.Core.Path.{ap, ◌∙◌}
use Prim.Native.Nat.{ℕ, ◌^◌}
use native.Mathlib.Omega.{arith}
use Rattle.bitset.proofs.Laws.Place.{place_back}
use Rattle.bitset.proofs.Laws.Words.{value_single}
use Rattle.bitset.proofs.singleton.Goals as goal

pub returns : goal.returns
returns c = let w = c.word_of-w in let b = c.bit_of in
    value_single w.result b.result (omega arith) (omega arith) _ _ _ _ c.word_with.ensures c.word_with-2.ensures c.word_with-3.ensures c.word_with-4.ensures
    ∙ ap (λ (x : ℕ). 2 ^ x) (place_back 6 c.args.e w.result b.result w.ensures b.ensures)
