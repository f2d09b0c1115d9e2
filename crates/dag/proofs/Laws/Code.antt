-- A refusal's number names it, and the number of what a check answers names the answer. Assumes nothing.
use mathlib.Core.Path.{◌≡◌, refl, sym, ap, ◌∙◌}
use mathlib.Core.List.{[], ◌∷◌}
use Prim.Native.Nat.{ℕ, ◌≤◌, ◌<◌}
use native.Mathlib.Omega.{arith}
use lib.ListN.{get_or}
use Rattle.std.specs.Prelude.{Result, Ok, Err}
use Rattle.dag.specs.Code.{code_of, checked_code}
use Rattle.dag.specs.Refusal.{or_else, first}
use Rattle.dag.proofs.Laws.Refusal.{or_else_some, first_found}
use Rattle.dag.specs.declared.Refusal.{Refusal}
use Rattle.dag.specs.declared.Refusal.TheVariants.{NoSheet, BadCount, ShortList, BadPair, BadRecord, Forward, NotListed, PastTheLog, OverBudget, NoSpace, WrongHalf}

-- the refusal of a number; none has 0 or 11
refusal_named : ℕ → Refusal
refusal_named n =
    get_or
    (NoSheet ∷ NoSheet ∷ BadCount ∷ ShortList ∷ BadPair ∷ BadRecord ∷ Forward ∷ NotListed ∷ PastTheLog ∷ OverBudget ∷ NoSpace ∷ NoSheet ∷ WrongHalf ∷ [])
    n
    NoSheet

named_code : (r : Refusal) → refusal_named (code_of r) ≡ r
unfolding refusal_named
named_code NoSheet = refl
named_code BadCount = refl
named_code ShortList = refl
named_code BadPair = refl
named_code BadRecord = refl
named_code Forward = refl
named_code NotListed = refl
named_code PastTheLog = refl
named_code OverBudget = refl
named_code NoSpace = refl
named_code WrongHalf = refl

pub code_names : (r q : Refusal) → code_of r ≡ code_of q → r ≡ q
code_names r q e = sym (named_code r) ∙ ap refusal_named e ∙ named_code q

pub code_some : (r : Refusal) → code_of r ≡ 0 → ⊥
code_some NoSheet p = omega (arith, p)
code_some BadCount p = omega (arith, p)
code_some ShortList p = omega (arith, p)
code_some BadPair p = omega (arith, p)
code_some BadRecord p = omega (arith, p)
code_some Forward p = omega (arith, p)
code_some NotListed p = omega (arith, p)
code_some PastTheLog p = omega (arith, p)
code_some OverBudget p = omega (arith, p)
code_some NoSpace p = omega (arith, p)
code_some WrongHalf p = omega (arith, p)

pub checked_names : (a b : Result (Unit {0}) Refusal) → checked_code a ≡ checked_code b → a ≡ b
checked_names (Ok x) (Ok y) e = refl
checked_names (Ok x) (Err q) e = absurd (code_some q (sym e))
checked_names (Err r) (Ok y) e = absurd (code_some r e)
checked_names (Err r) (Err q) e = ap Err (code_names r q e)

-- a refusal is the answer, whatever comes after it
pub or_else_code : (r : Refusal) (b : ℕ) → or_else (code_of r) b ≡ code_of r
or_else_code r b = or_else_some (code_of r) b (code_some r)

-- a refusal that is the first of f 0 .. f (n - 1)
pub first_code : (f : ℕ → ℕ) (i n : ℕ) (r : Refusal) → i < n → first f i ≡ 0 → code_of r ≡ f i → code_of r ≡ first f n
first_code f i n r h p q = q ∙ first_found f i n h p (λ z. code_some r (q ∙ z))

pub code_le : (r : Refusal) → code_of r ≤ 12
code_le NoSheet = omega arith
code_le BadCount = omega arith
code_le ShortList = omega arith
code_le BadPair = omega arith
code_le BadRecord = omega arith
code_le Forward = omega arith
code_le NotListed = omega arith
code_le PastTheLog = omega arith
code_le OverBudget = omega arith
code_le NoSpace = omega arith
code_le WrongHalf = omega arith
