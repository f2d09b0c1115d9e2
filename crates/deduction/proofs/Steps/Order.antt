-- The order of steps, and the order of their numbers.
-- Defined: `Small`, a step whose number can be read off again.
-- Shown: of two such steps the one before the other has the lower number; two steps, neither before the other, have one head, one rule
-- and one first source. Assumes nothing.
use mathlib.Core.Path.{◌≡◌, sym, ap, ◌∙◌}
use mathlib.Core.Bool.{Bool, cond}
use mathlib.Core.Logic.{◌⊎◌, inl, inr}
use Prim.Native.Nat.{ℕ, ◌<◌}
use native.Mathlib.Omega.{arith}
use lib.Dec.{eqb}
use borrow.Author.Tests.{eq-eqb, ne_eqb}
use Rattle.deduction.specs.Step.{Step, unused, Before}
use Rattle.deduction.specs.Run.{number, no_step}
use Rattle.deduction.proofs.Steps.Numbers.{number_of, number_below}

-- the first source is below 256, or is that of a sum, which is unused
abbrev pub Source : Step → Type 0
Source s = ((¬ (s.rule ≡ 6)) × (s.first < 256)) ⊎ ((s.rule ≡ 6) × (s.first ≡ unused))

abbrev pub Small : Step → Type 0
Small s = (s.head < 256) × (s.rule < 256) × Source s

-- the first source in the number
abbrev key : Step → ℕ
key s = cond (eqb s.rule 6) 0 s.first

key_used : (s : Step) → ¬ (s.rule ≡ 6) → key s ≡ s.first
key_used s p = ap (λ (b : Bool). cond b 0 s.first) (ne_eqb s.rule 6 p)

key_unused : (s : Step) → s.rule ≡ 6 → key s ≡ 0
key_unused s p = ap (λ (b : Bool). cond b 0 s.first) (eq-eqb s.rule 6 p)

key_small : (s : Step) → Source s → key s < 256
key_small s (inl (p, q)) = rw (key_used s p) q
key_small s (inr (p, q)) = rw (key_unused s p) (omega arith)

pub small_below : (s : Step) → Small s → number_of s < no_step
unfolding number_of
small_below s (h, r, f) = number_below s.head s.rule (key s) r (key_small s f) h

key_order : (a b : Step) → Source a → Source b → a.rule ≡ b.rule → a.first < b.first → key a < key b
key_order a b (inl (p, q)) (inl (p', q')) r h = rw (key_used a p, key_used b p') h
key_order a b (inl (p, q)) (inr (p', q')) r h = absurd (p (r ∙ p'))
key_order a b (inr (p, q)) (inl (p', q')) r h = absurd (p' (sym r ∙ p))
key_order a b (inr (p, q)) (inr (p', q')) r h = absurd (omega arith)

-- the order of numbers, by their parts
head_order : (h r i h' r' i' : ℕ) → r < 256 → i < 256 → h < h' → number h r i < number h' r' i'
head_order h r i h' r' i' p q l = omega arith

rule_order : (h r i h' r' i' : ℕ) → i < 256 → h ≡ h' → r < r' → number h r i < number h' r' i'
rule_order h r i h' r' i' q p l = omega arith

first_order : (h r i h' r' i' : ℕ) → h ≡ h' → r ≡ r' → i < i' → number h r i < number h' r' i'
first_order h r i h' r' i' p q l = omega arith

pub before_number : (a b : Step) → Small a → Small b → Before a b → number_of a < number_of b
unfolding number_of
before_number a b (ha, ra, fa) sb (inl l) = head_order a.head a.rule (key a) b.head b.rule (key b) ra (key_small a fa) l
before_number a b (ha, ra, fa) sb (inr (p, inl l)) = rule_order a.head a.rule (key a) b.head b.rule (key b) (key_small a fa) p l
before_number a b (ha, ra, fa) sb (inr (p, inr (q, l))) = first_order a.head a.rule (key a) b.head b.rule (key b) p q (key_order a b fa sb.2 q l)

-- neither before the other
neither : (x y : ℕ) → ¬ (x < y) → ¬ (y < x) → x ≡ y
neither x y p q = omega arith

pub agree : (a b : Step) → ¬ (Before a b) → ¬ (Before b a) → (a.head ≡ b.head) × (a.rule ≡ b.rule) × (a.first ≡ b.first)
agree a b f g =
    let h = neither a.head b.head (λ l. f (inl l)) (λ l. g (inl l)) in
    let r = neither a.rule b.rule (λ l. f (inr (h, inl l))) (λ l. g (inr (sym h, inl l))) in
    (h, r, neither a.first b.first (λ l. f (inr (h, inr (r, l)))) (λ l. g (inr (sym h, inr (sym r, l)))))
