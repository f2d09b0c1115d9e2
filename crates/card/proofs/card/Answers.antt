-- `card::card` meets its contract: too short, refused, or the goal's line and the cuts.
use mathlib.Core.Path.{◌≡◌, sym, ap, ap₂, ◌∙◌}
use mathlib.Core.List.{◌++◌}
use Prim.Native.Nat.{ℕ, ◌+◌}
use native.Mathlib.Omega.{arith}
use lib.ListN.{length}
use borrow.Author.Rules.{rules}
use Rattle.dag.specs.Refusal.{refusal}
use Rattle.line.specs.Words.{goal_word, trace_word}
use Rattle.line.specs.Line.{goal_line, refused_line}
use Rattle.card.specs.Card.{cuts_from, card_of}
use Rattle.line.proofs.Laws.Buffer.{append_kept}
use Rattle.line.proofs.Laws.Text.{adds_as, adds_next}
use Rattle.line.proofs.Laws.Line.{pair_length, refused_length}
use Rattle.card.proofs.Laws.Print.{print_none, print_text}
use Rattle.card.proofs.Laws.Card.{card_refused, card_good}
use Rattle.card.proofs.card.Goals as goal
use Rattle.card.proofs.card.Goals.{Else-refusal-ne0, Then-refusal-ne0}

bad : (c : Then-refusal-ne0) → ¬ (refusal c.args.sheet.now ≡ 0)
bad c z = c.if-refusal-ne0.true (c.code-refusal.ensures ∙ c.validate.ensures ∙ z)

fine : (c : Else-refusal-ne0) → refusal c.args.sheet.now ≡ 0
fine c = sym c.validate.ensures ∙ sym c.code-refusal.ensures ∙ c.if-refusal-ne0.false

pub returns-then-out-lt300000 : goal.returns-then-out-lt300000
returns-then-out-lt300000 c = print_none 300000 (card_of c.args.sheet.now) c.args.out.now c.if-out-lt300000.true

pub returns-then-refusal-ne0 : goal.returns-then-refusal-ne0
returns-then-refusal-ne0 c = let t = c.new-text.ensures in
    print_text 300000 c.if-out-lt300000.false t.buffer t.len
    (adds_as (ap refused_line (c.code-refusal.ensures ∙ c.validate.ensures) ∙ card_refused c.args.sheet.now (bad (goal.at.returns-then-refusal-ne0 c).Then-refusal-ne0)) c.refused_line.ensures) (search rules) c.len.ensures

pub append_cuts-requires : goal.append_cuts-requires
append_cuts-requires c = let t = c.new-text.ensures in
    let l = c.goal_line.ensures.text in
    (fine (goal.at.append_cuts-requires c).Else-refusal-ne0, c.trace_len-last.ensures, omega (arith, c.if-out-lt300000.false, ap length t.buffer, t.len, l.place, append_kept l, pair_length goal_word c.goal.result trace_word c.trace_len-last.result (omega arith) (omega arith) (omega arith)))

pub returns : goal.returns
returns c = let t = c.new-text.ensures in
    print_text 300000 c.if-out-lt300000.false t.buffer t.len
    (adds_as (ap₂ (λ (g h : ℕ). goal_line g h ++ cuts_from c.args.sheet.now 0 (h + 1)) c.goal.ensures c.trace_len-last.ensures ∙ card_good c.args.sheet.now (fine (goal.at.returns c).Else-refusal-ne0))
    (adds_next c.goal_line.ensures c.append_cuts.ensures)) (search rules) c.len-2.ensures

pub refused_line-requires : goal.refused_line-requires
refused_line-requires c =
    let t = c.new-text.ensures in omega (arith, c.if-out-lt300000.false, ap length t.buffer, t.len, refused_length c.code-refusal.result (omega arith))

pub goal_line-requires : goal.goal_line-requires
goal_line-requires c = let t = c.new-text.ensures in
    omega (arith, c.if-out-lt300000.false, ap length t.buffer, t.len, pair_length goal_word c.goal.result trace_word c.trace_len-last.result (omega arith) (omega arith) (omega arith))
