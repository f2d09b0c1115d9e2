-- `card::append_cuts` meets its contract. The loop's invariant: the cuts that are printed, and those that are left (`Along`).
use mathlib.Core.Path.{◌≡◌, sym, ◌∙◌}
use mathlib.Core.List.{List}
use Prim.Native.Nat.{ℕ, ◌≤◌}
use native.Mathlib.Omega.{arith}
use Rattle.dag.specs.Sheet.{trace_length}
use Rattle.dag.specs.Refusal.{refusal}
use Rattle.dag.proofs.Laws.Good.{good}
use Rattle.line.proofs.Laws.Buffer.{append_kept}
use Rattle.card.proofs.Laws.Card.{along_start, along_reached, along_more, along_end}
use borrow.Author.Rules.{rules}
use Rattle.card.proofs.append_cuts.Goals as goal

few : (s : List ℕ) (last : ℕ) → refusal s ≡ 0 → last ≡ trace_length s → last ≤ 256
few s last ok is = omega (arith, (good s ok).trace)

pub loop-cut-init : goal.loop-cut-init
loop-cut-init c = (search rules, along_start c.args.sheet.now c.args.last c.args.text.now 290000 c.requires.2)

pub append_cut-requires : goal.append_cut-requires
append_cut-requires c = let l = c.loop-cut in
    let h = c.loop-cut-test.true in
    let f = few c.args.sheet.now c.args.last c.requires.0 c.requires.1 in
    (c.requires.0, omega (arith, c.requires.1, h), l.invariant.0, omega (arith, c.requires.2, f, h, l.invariant.1.short, append_kept l.invariant.1.written.text))

pub returns-then-append_cut : goal.returns-then-append_cut
returns-then-append_cut c = let w = c.append_cut.ensures in
    along_reached c.args.sheet.now c.args.last c.args.text.now c.loop-cut.invariant.1 (omega arith) w.text (sym w.reached ∙ c.if-append_cut.true)

pub loop-cut-preserved : goal.loop-cut-preserved
loop-cut-preserved c = let w = c.append_cut.ensures in
    let f = c.if-append_cut.false in
    (w.size, along_more c.args.sheet.now c.args.last c.args.text.now c.loop-cut.invariant.1 (omega arith) w.text (sym w.reached ∙ f) (w.short f))

pub returns-else-append_cut : goal.returns-else-append_cut
returns-else-append_cut c = let w = c.append_cut.ensures in
    along_end c.args.sheet.now c.args.last c.args.text.now
    (along_more c.args.sheet.now c.args.last c.args.text.now c.loop-cut.invariant.1 (omega arith) w.text (sym w.reached ∙ c.if-append_cut.false) (w.short c.if-append_cut.false)) (omega arith)
