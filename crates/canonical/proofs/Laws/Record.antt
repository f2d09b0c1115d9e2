-- A record's key and parts, kind by kind.
-- Shown: the key of a record of each kind; the parts of a pair and of an encryption of either sort; a record with the key 0 has its items for parts, and
-- its set is the sum of theirs; the bytes of a sheet leave its numbers narrow. Assumes nothing.
use mathlib.Core.Path.{◌≡◌, refl, sym, ap, subst}
use mathlib.Core.Bool.{Bool, true, false, false≢true, cond, ◌||◌}
use mathlib.Core.Logic.{◌⊎◌, inl, inr, ⊎_elim, by_cases}
use mathlib.Core.List.{List, Memᴰ}
use Prim.Native.Nat.{ℕ, zero, suc, ◌+◌, ◌*◌, ◌-◌, ◌/◌, ◌^◌, ◌<◌}
use native.Mathlib.Decide.{dec_lt}
use native.Mathlib.Omega.{arith}
use lib.Dec.{eqb}
use lib.ListN.{length, get_or, take, drop, length-take, get_or-eq_default}
use lib.Seq.{get_or-take, get_or-drop}
use borrow.Author.Tests.{eqb-true, eqb-false}
use Rattle.deduction.specs.Entry.{Entry, Zero, Atom, Pair, Enc, Sum, Half, Aenc, parts}
use Rattle.deduction.specs.Standard.{half_kind, xor_all, build_set}
use Rattle.dag.specs.Sheet.{number_at, record_at, listed, offset_at, length_at}
use Rattle.dag.specs.Record.{kind_of, fits, item_count, item_at, atom_of, decode_as, entry_at}
use Rattle.deduction.proofs.Standard.First.{half_plain}
use Rattle.dag.proofs.Laws.Refusal.{or_either, or_false_left, or_false_right}
use Rattle.dag.proofs.Laws.Parts.{TwoParts, parts_two}
use Rattle.canonical.specs.Inner.Key.{key_of}
use Rattle.canonical.proofs.Laws.Key.{number_of, Narrow}

module _ (rep : ℕ → ℕ) (r : List ℕ) where
  pub atom_key : (k : ℕ) → k ≡ 1 → 2 ^ 32 + atom_of r ≡ key_of rep (decode_as k r)
  unfolding decode_as key_of
  atom_key k h = sym (ap (λ (x : ℕ). key_of rep (decode_as x r)) h)

  pub half_key : (k : ℕ) → (k ≡ 5) ⊎ (k ≡ 6) → k * 2 ^ 32 + number_at r 1 ≡ key_of rep (decode_as k r)
  unfolding decode_as key_of half_kind
  half_key k (inl p) = subst (λ (x : ℕ). x * 2 ^ 32 + number_at r 1 ≡ key_of rep (decode_as x r)) (sym p) refl
  half_key k (inr p) = subst (λ (x : ℕ). x * 2 ^ 32 + number_at r 1 ≡ key_of rep (decode_as x r)) (sym p) refl

  pub parts_key : (k : ℕ) → TwoParts k → k * 2 ^ 32 + rep (number_at r 1) * 256 + rep (number_at r 3) ≡ key_of rep (decode_as k r)
  unfolding decode_as key_of
  parts_key k (inl p) = subst (λ (x : ℕ). x * 2 ^ 32 + rep (number_at r 1) * 256 + rep (number_at r 3) ≡ key_of rep (decode_as x r)) (sym p) refl
  parts_key k (inr (inl p)) = subst (λ (x : ℕ). x * 2 ^ 32 + rep (number_at r 1) * 256 + rep (number_at r 3) ≡ key_of rep (decode_as x r)) (sym p) refl
  parts_key k (inr (inr p)) = subst (λ (x : ℕ). x * 2 ^ 32 + rep (number_at r 1) * 256 + rep (number_at r 3) ≡ key_of rep (decode_as x r)) (sym p) refl

  -- any other kind has none
  pub no_key : (k : ℕ) → ¬ (k ≡ 1) → ¬ ((k ≡ 5) ⊎ (k ≡ 6)) → ¬ TwoParts k → 0 ≡ key_of rep (decode_as k r)
  unfolding decode_as key_of
  no_key zero a b c = refl
  no_key (suc zero) a b c = absurd (a refl)
  no_key (suc (suc zero)) a b c = absurd (c (inl refl))
  no_key (suc (suc (suc zero))) a b c = absurd (c (inr (inl refl)))
  no_key (suc (suc (suc (suc zero)))) a b c = refl
  no_key (suc (suc (suc (suc (suc zero))))) a b c = absurd (b (inl refl))
  no_key (suc (suc (suc (suc (suc (suc zero)))))) a b c = absurd (b (inr refl))
  no_key (suc (suc (suc (suc (suc (suc (suc zero))))))) a b c = absurd (c (inr (inr refl)))
  no_key (suc (suc (suc (suc (suc (suc (suc (suc k)))))))) a b c = refl

-- the kinds with two parts, as the test says them
pub kinds_two : (k : ℕ) → (eqb k 2 || (eqb k 3 || eqb k 7)) ≡ true → TwoParts k
kinds_two k p = ⊎_elim (λ q. inl (eqb-true k 2 q)) (λ q. inr (⊎_elim (λ h. inl (eqb-true k 3 h)) (λ h. inr (eqb-true k 7 h)) (or_either (eqb k 3) (eqb k 7) q))) (or_either (eqb k 2) (eqb k 3 || eqb k 7) p)

pub kinds_not_two : (k : ℕ) → (eqb k 2 || (eqb k 3 || eqb k 7)) ≡ false → ¬ TwoParts k
kinds_not_two k p (inl q) = eqb-false k 2 (or_false_left (eqb k 2) (eqb k 3 || eqb k 7) p) q
kinds_not_two k p (inr (inl q)) = eqb-false k 3 (or_false_left (eqb k 3) (eqb k 7) (or_false_right (eqb k 2) (eqb k 3 || eqb k 7) p)) q
kinds_not_two k p (inr (inr q)) = eqb-false k 7 (or_false_right (eqb k 3) (eqb k 7) (or_false_right (eqb k 2) (eqb k 3 || eqb k 7) p)) q

-- the parts of a pair and of an encryption of either sort
module _ (r : List ℕ) where
  pub first_part : (k : ℕ) → TwoParts k → Memᴰ (number_at r 1) (parts (decode_as k r))
  first_part k h = subst (Memᴰ (number_at r 1)) (sym (parts_two k r h)) (Memᴰ.head refl)

  pub second_part_lem : (k : ℕ) → TwoParts k → Memᴰ (number_at r 3) (parts (decode_as k r))
  second_part_lem k h = subst (Memᴰ (number_at r 3)) (sym (parts_two k r h)) (Memᴰ.tail (Memᴰ.head refl))

-- a record without a key has its items for parts, and zero none
pub items_parts : (rep : ℕ → ℕ) (r : List ℕ) (k : ℕ) → fits k (length r) ≡ true → key_of rep (decode_as k r) ≡ 0 → parts (decode_as k r) ≡ listed (item_at r) (item_count r)
unfolding fits parts decode_as key_of half_kind listed
items_parts rep r zero f h = ap (listed (item_at r)) (none (length r) (eqb-true (length r) 1 f))
  where
    none : (l : ℕ) → l ≡ 1 → 0 ≡ (l - 1) / 2
    none l p = omega arith
items_parts rep r (suc zero) f h = absurd (omega arith)
items_parts rep r (suc (suc zero)) f h = absurd (omega arith)
items_parts rep r (suc (suc (suc zero))) f h = absurd (omega arith)
items_parts rep r (suc (suc (suc (suc zero)))) f h = refl
items_parts rep r (suc (suc (suc (suc (suc zero))))) f h = absurd (omega arith)
items_parts rep r (suc (suc (suc (suc (suc (suc zero)))))) f h = absurd (omega arith)
items_parts rep r (suc (suc (suc (suc (suc (suc (suc zero))))))) f h = absurd (omega arith)
items_parts rep r (suc (suc (suc (suc (suc (suc (suc (suc k)))))))) f h = absurd (false≢true f)

-- and the sum of the sets of its parts for set
pub parts_set : (rep s : ℕ → ℕ) (e : ℕ → Entry) (n : ℕ) (d : Entry) → key_of rep d ≡ 0 → build_set s e n d ≡ xor_all s (parts d)
unfolding key_of build_set parts xor_all
parts_set rep s e n Zero h = refl
parts_set rep s e n (Atom a) h = absurd (omega arith)
parts_set rep s e n (Pair l r) h = absurd (omega arith)
parts_set rep s e n (Enc m k) h = absurd (omega arith)
parts_set rep s e n (Sum items) h = refl
parts_set rep s e n (Half x a) h = absurd (half_plain x (omega arith))
parts_set rep s e n (Aenc m k) h = absurd (omega arith)

-- a list of bytes
abbrev pub Bytes : List ℕ → Type 0
Bytes s = (k : ℕ) → get_or s k 0 < 256

bytes_take : (n : ℕ) (s : List ℕ) → Bytes s → Bytes (take n s)
bytes_take n s b k =
    by_cases (dec_lt k n) (λ l. omega (arith, get_or-take n s k 0 l, b k))
    (λ l. omega (arith, get_or-eq_default (take n s) 0 {n = k} (omega (arith, length-take n s))))

bytes_drop : (n : ℕ) (s : List ℕ) → Bytes s → Bytes (drop n s)
bytes_drop n s b k = omega (arith, get_or-drop n s k 0, b (n + k))

atom_narrow : (r : List ℕ) → Bytes r → atom_of r < 2 ^ 32
unfolding atom_of number_at
atom_narrow r b = go (eqb (length r) 5)
  where
    go : (long : Bool) → cond long ((get_or r 1 0 * 256 + get_or r 2 0) * 65536 + (get_or r 3 0 * 256 + get_or r 4 0)) (get_or r 1 0 * 256 + get_or r 2 0) < 2 ^ 32
    go true = omega (arith, b 1, b 2, b 3, b 4)
    go false = omega (arith, b 1, b 2)

half_narrow : (r : List ℕ) → Bytes r → number_at r 1 < 2 ^ 32
unfolding number_at
half_narrow r b = omega (arith, b 1, b 2)

-- an atom's number is two bytes or four, a half's two
pub narrow_bytes : (s : List ℕ) (n : ℕ) → Bytes s → Narrow (entry_at s) n
unfolding decode_as number_of
narrow_bytes s n b i h = go (kind_of (record_at s i))
  where
    small : Bytes (record_at s i)
    small = bytes_take (length_at s i) (drop (offset_at s i) s) (bytes_drop (offset_at s i) s b)

    go : (k : ℕ) → number_of (decode_as k (record_at s i)) < 2 ^ 32
    go zero = omega arith
    go (suc zero) = atom_narrow (record_at s i) small
    go (suc (suc zero)) = omega arith
    go (suc (suc (suc zero))) = omega arith
    go (suc (suc (suc (suc zero)))) = omega arith
    go (suc (suc (suc (suc (suc zero))))) = half_narrow (record_at s i) small
    go (suc (suc (suc (suc (suc (suc zero)))))) = half_narrow (record_at s i) small
    go (suc (suc (suc (suc (suc (suc (suc zero))))))) = omega arith
    go (suc (suc (suc (suc (suc (suc (suc (suc k)))))))) = omega arith
