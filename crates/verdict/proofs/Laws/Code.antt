-- The number names the answer, where the count in it is at most 256. Assumes nothing.
use mathlib.Core.Path.{◌≡◌, refl, ap}
use Prim.Native.Nat.{ℕ, ◌+◌, ◌≤◌, ◌<◌}
use native.Mathlib.Omega.{arith}
use Rattle.std.specs.Prelude.{Result, Ok, Err}
use Rattle.dag.proofs.Laws.Code.{code_names, code_le}
use Rattle.dag.specs.declared.Refusal.{Refusal}
use Rattle.derive.specs.Inner.Ran.{verdict_of}
use Rattle.derive.specs.declared.run.Verdict.{Verdict}
use Rattle.derive.specs.declared.run.Verdict.TheVariants.{Derivable, Underivable, Exhausted}
use Rattle.verdict.specs.Demands.{verdict_code}
use Rattle.verdict.specs.Code.{outcome_number, number_of, made_in}
use Rattle.verdict.specs.declared.Outcome.{Outcome}

-- the verdict and the count, from their sum
verdicts : (v w : Verdict) (n m : ℕ) → n ≤ 256 → m ≤ 256 → verdict_code (verdict_of v) + n ≡ verdict_code (verdict_of w) + m → v ≡ w
verdicts Derivable Derivable n m h k e = refl
verdicts Derivable Underivable n m h k e = absurd (omega (arith, h, k, e))
verdicts Derivable Exhausted n m h k e = absurd (omega (arith, h, k, e))
verdicts Underivable Derivable n m h k e = absurd (omega (arith, h, k, e))
verdicts Underivable Underivable n m h k e = refl
verdicts Underivable Exhausted n m h k e = absurd (omega (arith, h, k, e))
verdicts Exhausted Derivable n m h k e = absurd (omega (arith, h, k, e))
verdicts Exhausted Underivable n m h k e = absurd (omega (arith, h, k, e))
verdicts Exhausted Exhausted n m h k e = refl

counts : (v w : Verdict) (n m : ℕ) → n ≤ 256 → m ≤ 256 → verdict_code (verdict_of v) + n ≡ verdict_code (verdict_of w) + m → n ≡ m
counts Derivable Derivable n m h k e = omega (arith, e)
counts Derivable Underivable n m h k e = omega (arith, h, k, e)
counts Derivable Exhausted n m h k e = omega (arith, h, k, e)
counts Underivable Derivable n m h k e = omega (arith, h, k, e)
counts Underivable Underivable n m h k e = omega (arith, e)
counts Underivable Exhausted n m h k e = omega (arith, h, k, e)
counts Exhausted Derivable n m h k e = omega (arith, h, k, e)
counts Exhausted Underivable n m h k e = omega (arith, h, k, e)
counts Exhausted Exhausted n m h k e = omega (arith, e)

-- an outcome's number is above every refusal's
above : (o : Outcome) → 12 < outcome_number o
above o = high o.verdict o.made
  where
    high : (v : Verdict) (n : ℕ) → 12 < verdict_code (verdict_of v) + n
    high Derivable n = omega arith
    high Underivable n = omega arith
    high Exhausted n = omega arith

pub number_names : (a b : Result Outcome Refusal) → made_in a ≤ 256 → made_in b ≤ 256 → number_of a ≡ number_of b → a ≡ b
number_names (Ok o) (Ok p) h k e =
    ap Ok (λ i. record { verdict = verdicts o.verdict p.verdict o.made p.made h k e i; made = counts o.verdict p.verdict o.made p.made h k e i })
number_names (Ok o) (Err q) h k e = absurd (omega (arith, above o, code_le q, e))
number_names (Err r) (Ok p) h k e = absurd (omega (arith, above p, code_le r, e))
number_names (Err r) (Err q) h k e = ap Err (code_names r q e)
