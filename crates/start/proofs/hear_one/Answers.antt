-- `start::hear_one` meets its contract: the line that was read goes into the state.
use mathlib.Core.Path.{refl}
use mathlib.Core.List.Memᴰ
use Rattle.deduction.specs.Elimination.{learn_all, nothing}
use Rattle.knowledge.proofs.Laws.Learn.{stored_holds}
use Rattle.start.proofs.Laws.Hearing.{held_line, held_known, held_more}
use Rattle.start.proofs.hear_one.Goals as goal

pub hear-requires : goal.hear-requires
hear-requires c = held_known c.requires.held c.args.e (c.requires.lives c.args.e (Memᴰ.head refl))

pub returns : goal.returns
returns c live f es lives h = let e = c.args.e in let l = lives e (Memᴰ.head refl) in
    held_more h e l (stored_holds (learn_all f nothing es) (f e) c.hear.ensures h.state (held_line h e l) (held_known h e l)) (c.sweep.ensures.lines live f (learn_all f nothing es).rows l h.kept)
