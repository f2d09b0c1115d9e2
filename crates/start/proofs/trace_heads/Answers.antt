-- `start::trace_heads` meets its contract. The loop's invariant: the messages so far are listed.
use mathlib.Core.Path.{◌≡◌, sym, ap, ap₂, ◌∙◌}
use Prim.Native.Nat.{ℕ, ◌<◌}
use native.Mathlib.Omega.{arith}
use lib.ListN.{get_or}
use mathlib.Core.List.{map}
use Rattle.deduction.specs.Standard.{rep_at}
use Rattle.dag.specs.Sheet.{count_of, trace_at, trace_of}
use Rattle.dag.specs.Record.{entry_at}
use Rattle.dag.proofs.Laws.Good.{good}
use Rattle.start.specs.Inner.Heads.{with_head, with_heads}
use Rattle.start.proofs.Laws.Heads.{messages_none, message_listed}
use Rattle.start.proofs.trace_heads.Goals as goal

pub loop-k-init : goal.loop-k-init
loop-k-init c = sym (messages_none c.args.sheet.bytes.now c.args.heads.now)

pub bounds-tables-trace_at : goal.bounds-tables-trace_at
bounds-tables-trace_at c = let s = c.args.sheet.bytes.now in let g = good s c.args.sheet.good in
    omega (arith, c.trace_at.ensures, g.listed c.loop-k.k (omega (arith, c.loop-k-test.true, c.requires.cut)), g.few)

pub loop-k-preserved : goal.loop-k-preserved
loop-k-preserved c = let s = c.args.sheet.bytes.now in let k = c.loop-k.k in
    let below : trace_at s k < count_of s = (good s c.args.sheet.good).listed k (omega (arith, c.loop-k-test.true, c.requires.cut)) in
    c.push.ensures ∙ ap₂ with_head c.loop-k.invariant (ap (λ (j : ℕ). get_or c.args.tables.now.reps j 0) c.trace_at.ensures ∙ c.requires.reps (trace_at s k) below) ∙ message_listed s k c.args.heads.now

pub returns : goal.returns
returns c = let s = c.args.sheet.bytes.now in let done : c.loop-k.k ≡ c.args.cut = omega (arith, c.loop-k-test.false) in
    c.loop-k.invariant ∙ ap (λ (n : ℕ). with_heads c.args.heads.now (map (rep_at (entry_at s)) (trace_of s n))) done
