-- `start::hear_four` meets its contract: four heads in turn.
use mathlib.Core.Path.{sym, ap}
use mathlib.Core.List.{List, [], ◌∷◌, ◌++◌}
use Prim.Native.Nat.{ℕ}
use native.Mathlib.Omega.{arith}
use lib.ListN.{get_or}
use Rattle.bitset.proofs.Laws.Words.{four}
use Rattle.deduction.specs.Elimination.{learn_all, nothing}
use Rattle.start.proofs.Laws.Hearing.{HearsOf, held_same, hears_one, hears_then, hearable_one, hearable_then}
use borrow.Author.Rules.{rules}
use Rattle.start.proofs.hear_four.Goals as goal
use Rattle.start.proofs.hear_four.Goals.{After-hear_one-one, After-hear_one-two, After-hear_one-three}

first : (c : After-hear_one-one) → HearsOf c.args.heads (get_or c.args.heads 0 0 ∷ []) c.args.state c.args.lines.now c.hear_one-one.result c.hear_one-one.new.lines
first c = hears_one c.args.heads 0 (omega arith) c.hear_one-one.ensures

second : (c : After-hear_one-two) → HearsOf c.args.heads (get_or c.args.heads 0 0 ∷ get_or c.args.heads 1 0 ∷ []) c.args.state c.args.lines.now c.hear_one-two.result c.hear_one-two.new.lines
second c = hears_then c.args.heads _ _ (first (goal.at.After-hear_one-two c).After-hear_one-one) (hears_one c.args.heads 1 (omega arith) c.hear_one-two.ensures)

third : (c : After-hear_one-three) → HearsOf c.args.heads (get_or c.args.heads 0 0 ∷ get_or c.args.heads 1 0 ∷ get_or c.args.heads 2 0 ∷ []) c.args.state c.args.lines.now c.hear_one-three.result c.hear_one-three.new.lines
third c = hears_then c.args.heads _ _ (second (goal.at.After-hear_one-three c).After-hear_one-two) (hears_one c.args.heads 2 (omega arith) c.hear_one-three.ensures)

pub hear_one-one-requires : goal.hear_one-one-requires
hear_one-one-requires c = hearable_one c.args.heads c.requires _ (omega arith)

pub hear_one-two-requires : goal.hear_one-two-requires
hear_one-two-requires c = hearable_then c.args.heads _ c.requires (first (goal.at.hear_one-two-requires c).After-hear_one-one) _ (omega arith)

pub hear_one-three-requires : goal.hear_one-three-requires
hear_one-three-requires c = hearable_then c.args.heads _ c.requires (second (goal.at.hear_one-three-requires c).After-hear_one-two) _ (omega arith)

pub hear_one-requires : goal.hear_one-requires
hear_one-requires c = hearable_then c.args.heads _ c.requires (third (goal.at.hear_one-requires c).After-hear_one-three) _ (omega arith)

pub returns : goal.returns
returns c live f es lives h =
    held_same (ap (λ (hs : List ℕ). learn_all f nothing (es ++ hs)) (sym (four c.args.heads (search rules))))
    (hears_then c.args.heads _ _ (third (goal.at.returns c).After-hear_one-three) (hears_one c.args.heads _ (omega arith) c.hear_one.ensures) live f es lives h)
