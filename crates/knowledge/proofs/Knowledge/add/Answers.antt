-- `knowledge::Knowledge::add` meets its contract: the entry joins the known set, and its remainder the rows.
use mathlib.Core.Path.{◌≡◌, refl, sym, ◌∙◌}
use mathlib.Core.Bool.{Bool, true, false, true≢false}
use Prim.Native.Nat.{◌<◌}
use native.Mathlib.Omega.{arith}
use mir.Syntax.{w64}
use mir.Val.{Fits}
use lib.Dec.{eqb}
use lib.ListN.{get_or}
use borrow.Author.Tests.{eq-eqb}
use Rattle.bitset.specs.Set.{member}
use Rattle.bitset.specs.Words.{value}
use Rattle.knowledge.proofs.Laws.Learn.{stored_none, stored_row, room_same, room_more, room_place}
use borrow.Author.Rules.{rules}
use Rattle.knowledge.proofs.Knowledge.add.Goals as goal
use Rattle.knowledge.proofs.Knowledge.add.Goals.{Else-is_empty}

-- something is left of the entry
some : (c : Else-is_empty) → eqb (value c.args.remainder) 0 ≡ false
some c = sym c.is_empty.ensures ∙ c.if-is_empty.false

-- so it wasn't known
new : (c : Else-is_empty) → member (value c.args.self.now.known) c.args.e ≡ false
new c = go (member (value c.args.self.now.known) c.args.e) (λ m. true≢false (sym (eq-eqb (value c.args.remainder) 0 (c.requires m)) ∙ some c))
  where
    go : (b : Bool) → (b ≡ true → ⊥) → b ≡ false
    go true f = absurd (f refl)
    go false f = refl

-- and there is a place for its row
place : (c : Else-is_empty) → c.args.self.now.len < 256
place c = let i = c.insert-more in
    room_place c.args.self.now.known i.result c.args.self.now.len c.args.e i.ensures c.args.self.now.room (new c) (search rules) (λ j. let f : Fits w64 (get_or i.result j 0) = search rules in f.fits)

pub offset_bounds-self-at : goal.offset_bounds-self-at
offset_bounds-self-at c = record { fits = omega (arith, place (goal.at.offset_bounds-self-at c).Else-is_empty) }

pub bounds-self-at : goal.bounds-self-at
bounds-self-at c = omega (arith, place (goal.at.bounds-self-at c).Else-is_empty)

pub overflow_add-self : goal.overflow_add-self
overflow_add-self c = record { fits = omega (arith, place (goal.at.overflow_add-self c).Else-is_empty) }

pub invariant_of-self : goal.invariant_of-self
invariant_of-self c = let t = c.args.self.now in record { room = omega (arith, t.room, room_same t.known c.insert-more.result t.len c.args.e c.insert-more.ensures t.room) }

pub invariant_of-self-2 : goal.invariant_of-self-2
invariant_of-self-2 c = let t = c.args.self.now in let n = new (goal.at.invariant_of-self-2 c).Else-is_empty in
    record { room = omega (arith, room_more t.known c.insert-more.result t.len c.args.e c.insert-more.ensures t.room n) }

pub returns-then-is_empty : goal.returns-then-is_empty
returns-then-is_empty c = let t = c.args.self.now in stored_none c.args.e (value c.args.remainder) t.known t.rows t.len _ c.insert-more.ensures (sym c.is_empty.ensures ∙ c.if-is_empty.true)

pub returns : goal.returns
returns c = let t = c.args.self.now in let x = (goal.at.returns c).Else-is_empty in
    stored_row c.args.e (value c.args.remainder) t.known t.rows t.len _ c.insert-more.ensures _ _ _ (some x) (omega arith) (omega arith) (omega (arith, place x)) refl
