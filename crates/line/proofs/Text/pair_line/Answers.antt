-- `line::Text::pair_line` meets its contract: two words with their numbers, then the newline.
use Rattle.line.proofs.Laws.Text.{adds_next}
use Rattle.line.proofs.Text.pair_line.Goals as goal

pub returns : goal.returns
returns c = adds_next (adds_next c.field.ensures c.field-2.ensures) c.newline.ensures
