-- The setting of a byte of switches.
-- Shown: `switched_includes`, a byte that has every switch of another gives a setting that includes the other's; `all_switched_in`, the byte 255 has every
-- switch; `all_on`, with all switches on answer and buffer are those of the full call. Assumes nothing.
use Prim.Native.Nat.{ℕ, zero, suc}
use native.Mathlib.Omega.{arith}
use native.Mathlib.Decide.{dec_lt}
use mathlib.Core.Path.{◌≡◌, refl, sym, ap, ◌∙◌}
use mathlib.Core.Logic.{by_cases}
use mathlib.Core.Bool.{Bool, true, cond}
use mathlib.Core.List.{List}
use lib.ListN.{length}
use borrow.Author.Tests.{lt-ltb, le-ltb}
use Rattle.bitset.specs.Set.{member}
use Rattle.deduction.specs.Setting.{Setting, every, Includes, switches}
use Rattle.deduction.proofs.Settings.{switches_every}
use Rattle.verdict.specs.Answer.{answer_of, buffer_of}
use Rattle.limited.specs.Switch.{SwitchedIn}

pub switched_includes : (a b : ℕ) → SwitchedIn a b → Includes (switches a) (switches b)
unfolding switches
switched_includes a b f zero p = refl
switched_includes a b f (suc r) p =
    by_cases (dec_lt r 8) (λ l. rw (lt-ltb r 8 l) (f r l (sym (ap (λ (t : Bool). cond t (member a r) true) (lt-ltb r 8 l)) ∙ p))) (λ l. rw (le-ltb r 8 (omega arith)))

pub all_switched_in : (a : ℕ) → SwitchedIn a 255
unfolding member
all_switched_in a zero l p = refl
all_switched_in a (suc zero) l p = refl
all_switched_in a (suc (suc zero)) l p = refl
all_switched_in a (suc (suc (suc zero))) l p = refl
all_switched_in a (suc (suc (suc (suc zero)))) l p = refl
all_switched_in a (suc (suc (suc (suc (suc zero))))) l p = refl
all_switched_in a (suc (suc (suc (suc (suc (suc zero)))))) l p = refl
all_switched_in a (suc (suc (suc (suc (suc (suc (suc zero))))))) l p = refl
all_switched_in a (suc (suc (suc (suc (suc (suc (suc (suc r)))))))) l p = absurd (omega arith)

-- "with all switches on, answer and bytes are the full call's"
pub all_on : (limit : ℕ) (s : List ℕ) (cut budget : ℕ) (old : List ℕ)
    → (answer_of (switches 255) limit s cut budget (length old) ≡ answer_of every limit s cut budget (length old)) × (buffer_of (switches 255) limit s cut budget old ≡ buffer_of every limit s cut budget old)
all_on limit s cut budget old = (
  ap (λ (on : Setting). answer_of on limit s cut budget (length old)) switches_every,
  ap (λ (on : Setting). buffer_of on limit s cut budget old) switches_every,
)
