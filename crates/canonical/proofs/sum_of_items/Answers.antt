-- `canonical::sum_of_items` meets its contract. The loop's invariant: the sum of the sets of the items so far.
use mathlib.Core.Path.{ap, ap₂, ◌∙◌}
use lib.Bits.{bit_xor}
use Rattle.canonical.proofs.Laws.Items.{items_none, items_more}
use Rattle.canonical.specs.Inner.Tables.{set_in}
use Rattle.dag.specs.Record.{item_at}
use Rattle.canonical.proofs.sum_of_items.Goals as goal

pub loop-k-init : goal.loop-k-init
loop-k-init c = (c.item_count-k-end.ensures, c.empty-sum.ensures ∙ items_none (set_in c.args.sets.now) (item_at c.args.r.now))

pub loop-k-preserved : goal.loop-k-preserved
loop-k-preserved c =
    let sets = set_in c.args.sets.now in
    let l = c.loop-k in
    (l.invariant.0, c.sum-next.ensures ∙ ap₂ bit_xor l.invariant.1 (c.set_in.ensures ∙ ap sets c.number_at-i.ensures) ∙ items_more sets (item_at c.args.r.now) l.k)
