-- Terms of the intruder's own beside a start: which are no help, and which are.
-- Defined: `NoHelp`, with some terms beside the start no entry more is derivable. Shown, on the atoms 1 and 2 with the first at the start (the sheet of `Detour`): atom
-- 3, which occurs in no entry, is no help (`three_no_help`); atom 2, which does, helps (`on_sheet_helps`), and so does a pair of atom 3 and an entry's term
-- (`pair_helps`), so the claim for such pairs is false (`pairs_refuted`). Assumes nothing.
use mathlib.Core.Path.{◌≡◌, refl, sym, subst}
use mathlib.Core.List.Memᴰ
use mathlib.Core.List.{List, [], ◌∷◌, ◌++◌, map, Memᴰ}
use Prim.Native.Nat.{ℕ, zero, suc, ◌<◌}
use native.Mathlib.Omega.{arith}
use Rattle.deduction.specs.Term.{Term, atom, pair, ◌≈◌, same}
use Rattle.deduction.specs.Setting.{every}
use Rattle.deduction.specs.Entry.{Entry, term_at, Downward}
use Rattle.deduction.specs.Derivation.{Derivable, begin, second}
use Rattle.deduction.specs.Fresh.{Fresh}
use Rattle.deduction.proofs.Distinct.{atom_same}
use Rattle.deduction.proofs.Fresh.{fresh_term, fresh_underivable}
use Rattle.deduction.proofs.Examples.Detour.{sheet, sheet_down, term_0, term_1, other_underivable}

-- with the terms `ts` beside the start no entry more is derivable
abbrev pub NoHelp : (ℕ → Entry) → ℕ → List ℕ → List Term → Type 0
NoHelp e n start ts = (i : ℕ) → i < n → ¬ Derivable every (map (term_at e) start) (term_at e i) → ¬ Derivable every (map (term_at e) start ++ ts) (term_at e i)

pub three_fresh : Fresh sheet 2 3
three_fresh = (fresh_term sheet 2 sheet_down 3).1 none
  where
    other : (a : ℕ) (u : Term) → u ≡ atom a → ¬ (a ≡ 3) → ¬ (u ≈ atom 3)
    other a u p n q = n (atom_same a 3 (subst (λ (v : Term). v ≈ atom 3) p q))

    none : (i : ℕ) → i < 2 → ¬ (term_at sheet i ≈ atom 3)
    none zero h = other 1 (term_at sheet 0) term_0 (λ q. omega (arith, q))
    none (suc zero) h = other 2 (term_at sheet 1) term_1 (λ q. omega (arith, q))
    none (suc (suc i)) h = absurd (omega arith)

low : (i : ℕ) → Memᴰ i (0 ∷ []) → i < 2
low i m = subst (λ (j : ℕ). j < 2) (sym (Memᴰ.eq_of_singleton m)) (omega arith)

pub three_no_help : NoHelp sheet 2 (0 ∷ []) (atom 3 ∷ [])
three_no_help = fresh_underivable sheet 2 sheet_down every (0 ∷ []) low (3 ∷ []) (λ a m. subst (Fresh sheet 2) (sym (Memᴰ.eq_of_singleton m)) three_fresh)

pub on_sheet_helps : ¬ NoHelp sheet 2 (0 ∷ []) (atom 2 ∷ [])
on_sheet_helps f = f 1 (omega arith) other_underivable (_, begin, (atom 2, Memᴰ.tail (Memᴰ.head refl), subst (λ (u : Term). atom 2 ≈ u) (sym term_1) same))

pub pair_helps : ¬ NoHelp sheet 2 (0 ∷ []) (pair (atom 3) (term_at sheet 1) ∷ [])
pair_helps f =
    f 1 (omega arith) other_underivable
    (_, second refl begin (pair (atom 3) (term_at sheet 1), Memᴰ.tail (Memᴰ.head refl), same), (term_at sheet 1, Memᴰ.head refl, same))

-- the claim for pairs of fresh atoms and entries' terms in place of the atoms is false
pub pairs_refuted : ¬ ((e : ℕ → Entry) (n : ℕ) → Downward e n → (start : List ℕ) → ((i : ℕ) → Memᴰ i start → i < n) → (a j : ℕ) → Fresh e n a → j < n
    → NoHelp e n start (pair (atom a) (term_at e j) ∷ []))
pairs_refuted f = pair_helps (f sheet 2 sheet_down (0 ∷ []) low 3 1 three_fresh (omega arith))
