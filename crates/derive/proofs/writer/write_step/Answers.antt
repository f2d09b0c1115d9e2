-- `derive::writer::write_step` meets its contract: four numbers of two bytes, then the set.
use Rattle.derive.specs.Bytes.{step_of}
use Rattle.derive.proofs.Laws.Written.{step_written}
use Rattle.derive.proofs.writer.write_step.Goals as goal

pub returns : goal.returns
returns c = step_written (step_of c.args.step) c.args.out.now c.requires c.put.ensures c.put-2.ensures c.put-3.ensures c.put-4.ensures c.write-fits.ensures.bytes
