-- `line::Text::two` meets its contract: the word and the first source, then the second.
use Rattle.line.proofs.Laws.Text.{adds_next}
use Rattle.line.proofs.Text.two.Goals as goal

pub returns : goal.returns
returns c = adds_next c.field.ensures c.number.ensures
