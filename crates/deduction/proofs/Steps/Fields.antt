-- The fields of a right step (document 01: "its gained head, used sources and summed entries are below n .. unused fields hold their fixed values").
-- Defined: `Fields`, by the rule. Shown: `right_fields`, every right step has them; `replays_fields`, and so has every step of a replay; `right_decrypt`, `right_adecrypt`. Assumes nothing.
use mathlib.Core.Path.{◌≡◌, refl, sym, subst}
use mathlib.Core.Bool.{true}
use mathlib.Core.Logic.{◌⊎◌, inl, inr}
use mathlib.Core.List.Memᴰ
use mathlib.Core.List.{List, Memᴰ}
use Prim.Native.Nat.{ℕ, ◌≤◌, ◌<◌}
use native.Mathlib.Omega.{arith}
use Rattle.bitset.specs.Set.{member}
use Rattle.deduction.specs.Term.{Side, opposite, Term, enc, half, aenc, ◌≈◌}
use Rattle.deduction.specs.Setting.{Setting}
use Rattle.deduction.specs.Step.{Step}
use Rattle.deduction.specs.Replay.{Right, Replays, done, next}

-- a projection has one source, rules 3 to 5, 7 and 8 two, a sum a set
pub data Fields (n : ℕ) (s : Step) : Type 0 where
  one : (s.rule ≡ 1) ⊎ (s.rule ≡ 2) → s.head < n → s.first < n → s.second ≡ 65535 → s.set ≡ 0 → Fields n s
  two : ((3 ≤ s.rule) × (s.rule ≤ 5)) ⊎ ((7 ≤ s.rule) × (s.rule ≤ 8)) → s.head < n → s.first < n → s.second < n → s.set ≡ 0 → Fields n s
  sum : s.rule ≡ 6 → s.head < n → s.first ≡ 65535 → s.second ≡ 65535 → ((j : ℕ) → member s.set j ≡ true → j < n) → Fields n s

pub right_fields : (t : ℕ → Term) (n : ℕ) {g : List Term} {s : Step} → Right t n g s → Fields n s
right_fields t n (Right.first b l p q) = one (inl refl) l p.0 refl refl
right_fields t n (Right.second a l p q) = one (inr refl) l p.0 refl refl
right_fields t n (Right.decrypt l p c q) = two (inl (omega arith, omega arith)) l p.0 c.0 refl
right_fields t n (Right.join l p c q) = two (inl (omega arith, omega arith)) l p.0 c.0 refl
right_fields t n (Right.encrypt l p c q) = two (inl (omega arith, omega arith)) l p.0 c.0 refl
right_fields t n (Right.sum l p q) = sum refl l refl refl (λ j m. (p j m).0)
right_fields t n (Right.adecrypt s a l p c q r) = two (inr (omega arith, omega arith)) l p.0 c.0 refl
right_fields t n (Right.aencrypt s a l p c q r) = two (inr (omega arith, omega arith)) l p.0 c.0 refl

-- so has every step of a replay
pub replays_fields : {on : Setting} (t : ℕ → Term) (n : ℕ) {g a : List Term} {ss : List Step} → Replays on t n g ss a → (s : Step) → Memᴰ s ss → Fields n s
replays_fields t n done s m = absurd (Memᴰ.not-nil m)
replays_fields t n (next w r rs) s m = elim (Memᴰ.cases_cons m) [ inl p ↦ subst (Fields n) (sym p) (right_fields t n r) | inr q ↦ replays_fields t n rs s q ]

-- a right step by rule 3 opens what its first source is, with its second
pub right_decrypt : (t : ℕ → Term) (n : ℕ) {g : List Term} {s : Step} → Right t n g s → s.rule ≡ 3 → t s.first ≈ enc (t s.head) (t s.second)
right_decrypt t n (Right.first b l p q) r = absurd (omega arith)
right_decrypt t n (Right.second a l p q) r = absurd (omega arith)
right_decrypt t n (Right.decrypt l p c q) r = q
right_decrypt t n (Right.join l p c q) r = absurd (omega arith)
right_decrypt t n (Right.encrypt l p c q) r = absurd (omega arith)
right_decrypt t n (Right.sum l p q) r = absurd (omega arith)
right_decrypt t n (Right.adecrypt s a l p c q z) r = absurd (omega arith)
right_decrypt t n (Right.aencrypt s a l p c q z) r = absurd (omega arith)

-- a right step by rule 7 has the opposite half of its first source's key for its second
pub right_adecrypt : (t : ℕ → Term) (n : ℕ) {g : List Term} {s : Step} → Right t n g s → s.rule ≡ 7
    → (x : Side) × (a : ℕ) × (t s.first ≈ aenc (t s.head) (half x a)) × (t s.second ≈ half (opposite x) a)
right_adecrypt t n (Right.first b l p q) r = absurd (omega arith)
right_adecrypt t n (Right.second a l p q) r = absurd (omega arith)
right_adecrypt t n (Right.decrypt l p c q) r = absurd (omega arith)
right_adecrypt t n (Right.join l p c q) r = absurd (omega arith)
right_adecrypt t n (Right.encrypt l p c q) r = absurd (omega arith)
right_adecrypt t n (Right.sum l p q) r = absurd (omega arith)
right_adecrypt t n (Right.adecrypt x a l p c q z) r = (x, a, q, z)
right_adecrypt t n (Right.aencrypt x a l p c q z) r = absurd (omega arith)
