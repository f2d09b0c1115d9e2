-- `card::append_cut` meets its contract: by the number of the verdict.
use mathlib.Core.Path.{refl, sym, ap, ◌∙◌}
use Prim.Native.Nat.{◌-◌, ◌<◌}
use native.Mathlib.Omega.{arith}
use lib.Count.{ones}
use Rattle.line.specs.Words.{cut_word, reached_word, out_of_reach_word}
use Rattle.line.proofs.Laws.Buffer.{append_kept}
use Rattle.line.proofs.Laws.Line.{pair_length}
use Rattle.card.proofs.Laws.Card.{at_least, few, made_steps, shown_reached, reached_is, shown_out, out_is}
use borrow.Author.Rules.{rules}
use Rattle.card.proofs.append_cut.Goals as goal

pub overflow_sub-made : goal.overflow_sub-made
overflow_sub-made c = let s = c.args in
    at_least s.sheet.now s.cut s.buffer.now c.requires.0 c.requires.1 c.requires.2 c.zuwendryk_verdict-answer.ensures.answer

pub append_steps-requires : goal.append_steps-requires
append_steps-requires c = let s = c.args in
    let p = c.requires in
    let v = c.zuwendryk_verdict-answer.ensures.answer in
    let l = c.reached_line.ensures.text in
    let h : c.zuwendryk_verdict-answer.result < 2000 = omega arith in
    let m = made_steps s.sheet.now s.cut s.buffer.now p.0 p.1 p.2 v h refl in
    let f = few s.sheet.now s.cut s.buffer.now p.0 p.1 p.2 in
    (omega arith, search rules, omega (arith, p.3, l.place, append_kept l, pair_length cut_word s.cut reached_word (c.zuwendryk_verdict-answer.result - 1000) (omega arith) (omega arith) (omega arith)))

pub returns-then-answer-lt2000-clause-text : goal.returns-then-answer-lt2000-clause-text
returns-then-answer-lt2000-clause-text c = let s = c.args in
    let p = c.requires in
    let v = c.zuwendryk_verdict-answer.ensures in
    shown_reached s.sheet.now s.cut s.buffer.now p.0 p.1 p.2 v.answer (omega arith) refl v.bytes c.reached_line.ensures c.append_steps.ensures

pub returns-then-answer-lt2000-clause-reached : goal.returns-then-answer-lt2000-clause-reached
returns-then-answer-lt2000-clause-reached c = let s = c.args in
    let p = c.requires in
    sym (reached_is s.sheet.now s.cut s.buffer.now p.0 p.1 p.2 c.zuwendryk_verdict-answer.ensures.answer (omega arith))

pub returns-clause-text : goal.returns-clause-text
returns-clause-text c = let s = c.args in
    let p = c.requires in
    let v = c.zuwendryk_verdict-answer.ensures in
    shown_out s.sheet.now s.cut s.buffer.now p.0 p.1 p.2 v.answer (omega arith) v.bytes (c.count-known.ensures ∙ ap ones c.read.ensures) (search rules) c.out_line.ensures

pub returns-clause-short : goal.returns-clause-short
returns-clause-short c e =
    omega (arith, c.out_line.ensures.text.place, pair_length cut_word c.args.cut out_of_reach_word c.count-known.result (omega arith) (omega arith) (omega arith))

pub returns-clause-reached : goal.returns-clause-reached
returns-clause-reached c = let s = c.args in
    let p = c.requires in
    sym (out_is s.sheet.now s.cut s.buffer.now p.0 p.1 p.2 c.zuwendryk_verdict-answer.ensures.answer (omega arith))

pub out_line-requires : goal.out_line-requires
out_line-requires c =
    omega (arith, c.requires.3, pair_length cut_word c.args.cut out_of_reach_word c.count-known.result (omega arith) (omega arith) (omega arith))

pub reached_line-requires : goal.reached_line-requires
reached_line-requires c =
    omega (arith, c.requires.3, pair_length cut_word c.args.cut reached_word (c.zuwendryk_verdict-answer.result - 1000) (omega arith) (omega arith) (omega arith))
