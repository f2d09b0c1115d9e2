-- `card::append_cuts` meets its contract. The loop's invariant: the cuts that are printed, and those that are left (`Along`).
use mathlib.Core.Path.{◌≡◌}
use Prim.Native.Nat.{◌+◌, ◌*◌}
use lib.ListN.{length}
use Rattle.verdict.specs.Buffer.{front}
use Rattle.card.proofs.Laws.Card.{Along}
use Rattle.card.proofs.append_cuts.Given as goal

abbrev pub invariant-loop-cut : goal.invariant-loop-cut
invariant-loop-cut l = (length l.buffer ≡ front + 40 * 256) × Along l.sheet l.last l.initial.text l.cut l.text
