-- Passing errors by the system's number and by std's kind. Shown: of every number the two say the same (`passing_kind`). Assumes nothing.
use Rattle.std.proofs.Common.{◌≡◌, ℕ, Bool, true, false, ◌||◌, ◌&&◌, List, [], ◌∷◌, refl, sym, ap, subst, inl, inr, arith}
use Rattle.std.specs.Prelude.{ℤ, pos, negsuc, int_lt, not, cond, IsTrue, ◌↔◌, eqb, ◌⊎◌}
use Rattle.std.specs.IoError.{os_error_kind, os_error_kinds, kind_in}
use Rattle.std.specs.List.{list_all}
use Rattle.std.specs.declared.io.ErrorKind.{ErrorKind}
use Rattle.std.specs.declared.io.ErrorKind.TheVariants.{Interrupted, WouldBlock, Uncategorized}
use Rattle.std.proofs.lemmas.Bool.{false≢true}
use Rattle.zuwendryk.specs.Stream.{passing, IsPassing}

-- a test for the two kinds
abbrev kind_passes : ErrorKind → Bool
kind_passes Interrupted = true
kind_passes WouldBlock = true
kind_passes _ = false

abbrev number_passes : ℕ → Bool
number_passes n = eqb n 4 || eqb n 11

-- a row of std's table has a passing number, if it has a passing kind
abbrev row_right : ℕ × ErrorKind → Bool
row_right row = not (kind_passes row.1) || number_passes row.0

both : (a b : Bool) → (a && b) ≡ true → (a ≡ true) × (b ≡ true)
both true true h = (refl, refl)
both true false h = (refl, h)
both false b h = (h, absurd (false≢true h))

same : (m n : ℕ) → eqb m n ≡ true → m ≡ n
same m n e = grind arith

in_row : (row : ℕ × ErrorKind) → row_right row ≡ true → kind_passes row.1 ≡ true → number_passes row.0 ≡ true
in_row row h k = grind arith

step : (n : ℕ) (row : ℕ × ErrorKind) (rest : ErrorKind) (b : Bool) → eqb n row.0 ≡ b → row_right row ≡ true → (kind_passes rest ≡ true → number_passes n ≡ true) → kind_passes (cond b row.1 rest) ≡ true → number_passes n ≡ true
step n row rest true e h more t = subst (λ m. number_passes m ≡ true) (sym (same n row.0 e)) (in_row row h t)
step n row rest false e h more t = more t

in_rows : (n : ℕ) (rows : List (ℕ × ErrorKind)) → list_all row_right rows ≡ true → kind_passes (kind_in rows n) ≡ true → number_passes n ≡ true
in_rows n [] h k = absurd (false≢true k)
in_rows n (row ∷ rows) h k = step n row (kind_in rows n) (eqb n row.0) refl (both _ _ h).0 (in_rows n rows (both _ _ h).1) k

by_number : (n : ℕ) → number_passes n ≡ true → (n ≡ 4) ⊎ (n ≡ 11)
by_number n h = grind arith

by_kind : (k : ErrorKind) → IsPassing k → kind_passes k ≡ true
by_kind k (inl e) = ap kind_passes e
by_kind k (inr e) = ap kind_passes e

below : (n : ℕ) → int_lt (pos n) (pos 0) ≡ false
below n = grind arith

-- std's kind of a number is that of its row
kind_of : (n : ℕ) → os_error_kind (pos n) ≡ kind_in os_error_kinds n
unfolding os_error_kind
kind_of n = ap (λ b. cond b Uncategorized (kind_in os_error_kinds n)) (below n)

at_number : (n : ℕ) → (n ≡ 4) ⊎ (n ≡ 11) → IsPassing (kind_in os_error_kinds n)
at_number n (inl e) = subst (λ m. IsPassing (kind_in os_error_kinds m)) (sym e) (inl refl)
at_number n (inr e) = subst (λ m. IsPassing (kind_in os_error_kinds m)) (sym e) (inr refl)

pub passing_kind : (code : ℤ) → IsTrue (passing code) ↔ IsPassing (os_error_kind code)
unfolding passing os_error_kind
passing_kind (pos n) =
    (λ h. subst IsPassing (sym (kind_of n)) (at_number n (by_number n h)), λ k. in_rows n os_error_kinds refl (by_kind (kind_in os_error_kinds n) (subst IsPassing (kind_of n) k)))
passing_kind (negsuc n) = (λ h. absurd (false≢true h), λ k. by_kind Uncategorized k)
