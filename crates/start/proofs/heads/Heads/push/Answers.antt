-- `start::heads::Heads::push` meets its contract: a head that was seen stands in the list, and another goes behind it.
use mathlib.Core.Path.{◌≡◌, sym, ap, ◌∙◌}
use mathlib.Core.Bool.{false}
use Prim.Native.Nat.{◌<◌}
use native.Mathlib.Omega.{arith}
use Rattle.bitset.specs.Set.{member}
use Rattle.bitset.specs.Words.{value}
use Rattle.start.specs.Inner.Heads.{with_head, stands}
use Rattle.start.proofs.Laws.Repeats.{with_known}
use Rattle.start.proofs.Laws.Noted.{noted_place, noted_more, noted_with}
use Rattle.start.proofs.heads.Heads.push.Goals as goal
use Rattle.start.proofs.heads.Heads.push.Goals.{After-put}

-- the head wasn't seen, so there is a place for it
new : (c : After-put) → member (value c.self.inside.seen) c.args.head ≡ false
new c = sym (c.holds.ensures) ∙ c.if-holds.false

place : (c : After-put) → c.self.inside.len < 256
place c = let p = c.put.ensures in noted_place c.self.invariant c.args.head (new c) p.words p.set

pub returns-then-holds : goal.returns-then-holds
returns-then-holds c = sym (with_known c.args.self.now c.args.head (ap (stands c.args.head) (sym c.self.view_is) ∙ sym (c.self.invariant.stand c.args.head) ∙ sym (c.holds.ensures) ∙ c.if-holds.true))

pub bounds-self-inside-self-inside : goal.bounds-self-inside-self-inside
bounds-self-inside-self-inside c = omega (arith, place (goal.at.bounds-self-inside-self-inside c).After-put)

pub overflow_add-self : goal.overflow_add-self
overflow_add-self c = record { fits = omega (arith, place (goal.at.overflow_add-self c).After-put) }

pub invariant_of-self : goal.invariant_of-self
invariant_of-self c = let x = (goal.at.invariant_of-self c).After-put in let p = c.put.ensures in noted_more c.self.invariant c.args.head (new x) p.words p.set (omega (arith, place x))

pub returns : goal.returns
returns c = let x = (goal.at.returns c).After-put in let p = c.put.ensures in
    noted_with c.self.invariant c.args.head (new x) p.words p.set (omega (arith, place x)) ∙ ap (λ (l : _). with_head l c.args.head) c.self.view_is
