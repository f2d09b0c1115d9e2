-- `card::read_rung` meets its contract: the fields of the 40 bytes are those of the step that is read back.
use Rattle.card.proofs.Laws.Card.{step_set, step_read}
use Rattle.card.proofs.read_rung.Goals as goal

pub returns : goal.returns
returns c = step_read c.args.step.now c.number_at.ensures c.number_at-2.ensures c.number_at-3.ensures c.number_at-4.ensures (step_set c.args.step.now c.requires c.read.ensures)
