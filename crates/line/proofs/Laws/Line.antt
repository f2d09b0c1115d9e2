-- The pieces of a line: how long each piece is, the sources one by one, and the text of each rule. Assumes nothing.
use mathlib.Core.Path.{◌≡◌, refl, sym, ap}
use mathlib.Core.Bool.{Bool, true, false, cond}
use mathlib.Core.List.{List, [], ◌++◌}
use Prim.Native.Nat.{ℕ, zero, suc, ◌+◌, ◌-◌, ◌*◌, ◌^◌, ◌≤◌, ◌<◌}
use native.Mathlib.Nat.{add-zero, le_of_eq, lt_of_lt_of_le}
use native.Mathlib.Numerals.{add-one}
use native.Mathlib.Omega.{arith}
use lib.ListN.{length, length-append}
use Rattle.bitset.specs.Set.{member}
use Rattle.line.specs.declared.Text.{Text}
use Rattle.line.specs.Decimal.{decimal}
use Rattle.line.specs.Words.{step_word, refused_word, newline}
use Rattle.line.specs.Line.{spaced, field, source, sources, rule_text, pair_line, step_line, refused_line}
use Rattle.line.specs.Text.{Fits, Adds}
use Rattle.line.proofs.Laws.Decimal.{decimal_length}
use Rattle.line.proofs.Laws.Text.{adds_as, adds_next, fits_next}

-- a 32-bit number has at most ten digits
pub spaced_length : (n : ℕ) → n < 2 ^ 32 → length (spaced n) ≤ 11
spaced_length n h = let d = decimal_length 9 n (lt_of_lt_of_le h (omega arith)) in omega arith

-- an entry's number has at most three
spaced_entry : (n : ℕ) → n < 256 → length (spaced n) ≤ 4
spaced_entry n h = let d = decimal_length 2 n (lt_of_lt_of_le h (omega arith)) in omega arith

source_length : (s e : ℕ) → e < 256 → length (source s e) ≤ 4
source_length s e h = go (member s e)
  where
    go : (t : Bool) → length (cond t (spaced e) []) ≤ 4
    go true = spaced_entry e h
    go false = omega arith

-- the sources below n + 1 are those below n, and n's
pub sources_more : (s n : ℕ) → sources s (n + 1) ≡ sources s n ++ source s n
unfolding sources
sources_more s n = ap (sources s) (add-one n)

pub sources_length : (s n : ℕ) → n ≤ 256 → length (sources s n) ≤ 4 * n
unfolding sources
sources_length s zero h = omega arith
sources_length s (suc n) h =
    let a = length-append (sources s n) (source s n) in let b = sources_length s n (omega arith) in let d = source_length s n h in omega arith

-- no more sources, no less text
sources_grow : (s n k : ℕ) → length (sources s n) ≤ length (sources s (n + k))
sources_grow s n zero = le_of_eq (ap (λ (m : ℕ). length (sources s m)) (sym (add-zero n)))
sources_grow s n (suc k) =
    let next : n + suc k ≡ n + k + 1 = omega arith in
    omega (arith, sources_grow s n k, ap (λ (m : ℕ). length (sources s m)) next, ap length (sources_more s (n + k)), length-append (sources s (n + k)) (source s (n + k)))

-- the sources are added one by one
sources_within : (s e : ℕ) → e < 256 → length (sources s (e + 1)) ≤ length (sources s 256)
sources_within s e h =
    let all : e + 1 + (255 - e) ≡ 256 = omega arith in omega (arith, ap (λ (k : ℕ). length (sources s k)) all, sources_grow s (e + 1) (255 - e))

pub source_fits : {t u : Text} (s e : ℕ) → e < 256 → Fits t (sources s 256) → Adds t (sources s e) u → Fits u (source s e)
source_fits s e h room done = fits_next (sources s e) (source s e) (omega (arith, room, sources_within s e h, ap length (sources_more s e))) done

pub source_added : {t u v : Text} (s e : ℕ) → Adds t (sources s e) u → Adds u (source s e) v → Adds t (sources s (e + 1)) v
source_added s e done k = adds_as (sym (sources_more s e)) (adds_next done k)

-- a number that no rule has
pub rule_none : (first second set rule : ℕ) → (0 < rule → 8 < rule) → [] ≡ rule_text rule first second set
unfolding rule_text
rule_none first second set zero h = refl
rule_none first second set (suc zero) h = absurd (omega (arith, h (omega arith)))
rule_none first second set (suc (suc zero)) h = absurd (omega (arith, h (omega arith)))
rule_none first second set (suc (suc (suc zero))) h = absurd (omega (arith, h (omega arith)))
rule_none first second set (suc (suc (suc (suc zero)))) h = absurd (omega (arith, h (omega arith)))
rule_none first second set (suc (suc (suc (suc (suc zero))))) h = absurd (omega (arith, h (omega arith)))
rule_none first second set (suc (suc (suc (suc (suc (suc zero)))))) h = absurd (omega (arith, h (omega arith)))
rule_none first second set (suc (suc (suc (suc (suc (suc (suc zero))))))) h = absurd (omega (arith, h (omega arith)))
rule_none first second set (suc (suc (suc (suc (suc (suc (suc (suc zero)))))))) h = absurd (omega (arith, h (omega arith)))
rule_none first second set (suc (suc (suc (suc (suc (suc (suc (suc (suc n))))))))) h = refl

-- a rule's text has at most 1028 bytes
pub rule_length : (first second set rule : ℕ) → first < 2 ^ 32 → second < 2 ^ 32 → length (rule_text rule first second set) ≤ 1028
unfolding rule_text
rule_length first second set zero p q = omega arith
rule_length first second set (suc zero) p q = omega (arith, spaced_length first p)
rule_length first second set (suc (suc zero)) p q = omega (arith, spaced_length first p)
rule_length first second set (suc (suc (suc zero))) p q = omega (arith, spaced_length first p, spaced_length second q, length-append (decimal first) (spaced second))
rule_length first second set (suc (suc (suc (suc zero)))) p q = omega (arith, spaced_length first p, spaced_length second q, length-append (decimal first) (spaced second))
rule_length first second set (suc (suc (suc (suc (suc zero))))) p q = omega (arith, spaced_length first p, spaced_length second q, length-append (decimal first) (spaced second))
rule_length first second set (suc (suc (suc (suc (suc (suc zero)))))) p q = omega (arith, sources_length set 256 (le_of_eq refl))
rule_length first second set (suc (suc (suc (suc (suc (suc (suc zero))))))) p q = omega (arith, spaced_length first p, spaced_length second q, length-append (decimal first) (spaced second))
rule_length first second set (suc (suc (suc (suc (suc (suc (suc (suc zero)))))))) p q = omega (arith, spaced_length first p, spaced_length second q, length-append (decimal first) (spaced second))
rule_length first second set (suc (suc (suc (suc (suc (suc (suc (suc (suc n))))))))) p q = omega arith

-- the whole lines are short
pub pair_length : (before : List ℕ) (a : ℕ) (between : List ℕ) (b : ℕ) → length before + length between ≤ 30 → a < 2 ^ 32 → b < 2 ^ 32
    → length (pair_line before a between b) ≤ 64
pair_length before a between b h p q =
    omega (
      arith,
      length-append (field before a ++ field between b) newline,
      length-append (field before a) (field between b),
      length-append before (spaced a),
      length-append between (spaced b),
      spaced_length a p,
      spaced_length b q,
    )

pub step_length : (head rule first second set : ℕ) → head < 2 ^ 32 → first < 2 ^ 32 → second < 2 ^ 32
    → length (step_line head rule first second set) ≤ 1050
step_length head rule first second set h p q =
    omega (
      arith,
      length-append (field step_word head ++ rule_text rule first second set) newline,
      length-append (field step_word head) (rule_text rule first second set),
      spaced_length head h,
      rule_length first second set rule p q,
    )

pub refused_length : (refusal : ℕ) → refusal < 2 ^ 32 → length (refused_line refusal) ≤ 64
refused_length refusal h = omega (arith, length-append (field refused_word refusal) newline, spaced_length refusal h)
