-- `card::append_steps` meets its contract. The loop's invariant: the lines of the first i rungs are added.
use Prim.Native.Nat.{◌+◌, ◌*◌, ◌≤◌}
use Rattle.verdict.specs.Buffer.{steps_in}
use Rattle.card.specs.Card.{steps_text}
use Rattle.line.specs.Text.{Adds}
use Rattle.card.proofs.append_steps.Given as goal

abbrev pub invariant-loop-i : goal.invariant-loop-i
invariant-loop-i l = (l.text.len ≤ l.initial.text.len + 1050 * l.i) × Adds l.initial.text (steps_text (steps_in l.buffer l.i)) l.text
