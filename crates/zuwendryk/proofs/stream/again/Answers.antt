-- `zuwendryk::stream::again` meets its contract: the errors so far, and one more at each turn.
use Rattle.std.proofs.Common.{◌∷◌, [], ◌++◌, rules, of_calls, arith, sym, length-append}
use Rattle.std.proofs.lemmas.Fn.{FoldsTo-push}
use Rattle.zuwendryk.proofs.Again.{last_more}
use Rattle.zuwendryk.proofs.stream.again.Goals as goal

pub loop-preserved : goal.loop-preserved
loop-preserved g c =
    let (errors, failed, many, kept) = c.loop.invariant.1 in
    (search of_calls, (errors ++ c.in-Err.why ∷ [], FoldsTo-push _ _ _ _ _ _ failed (search rules), grind (arith, length-append), sym (last_more _ errors _)))
