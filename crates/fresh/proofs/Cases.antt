-- Own atoms on sheet A (verdict/specs/Card.antt), whose atoms are 1,007, 1,009 and 1,012.
-- Shown: 5, a public number, and 5,000 are own atoms (`public_own`, `other_own`), and 1,007, which is entry 0, is none (`entry_not_own`). With the first two beside what is heard
-- before cut 2 the goal stays out of reach (`stays_out`), with the last it doesn't (`entry_helps`). Assumes nothing.
use mathlib.Core.Path.{◌≡◌, refl, sym, ap, ◌∙◌, subst}
use mathlib.Core.Logic.{inl, inr, ⊎_elim}
use mathlib.Core.List.Memᴰ
use mathlib.Core.List.{[], ◌∷◌, Memᴰ}
use Prim.Native.Nat.{ℕ, zero, suc, ◌+◌, ◌*◌, ◌<◌}
use native.Mathlib.Omega.{arith}
use Rattle.deduction.specs.Term.{Term, atom, enc, ◌≈◌, same}
use Rattle.deduction.specs.Setting.{every}
use Rattle.deduction.specs.Derivation.{Derivable, begin, decrypt}
use Rattle.deduction.specs.Entry.{Entry, Atom, Sum, Enc, build, term_at, Downward}
use Rattle.deduction.specs.Standard.{shape}
use Rattle.deduction.proofs.Terms.{term_at_build, atom_term}
use Rattle.deduction.proofs.Fresh.{fresh_record}
use Rattle.dag.specs.Sheet.{count_of, number_at, listed}
use Rattle.dag.specs.Record.{entry_at, atom_of, decode_as}
use Rattle.dag.proofs.Laws.Good.{good}
use Rattle.start.specs.Start.{public_heads, start_terms}
use Rattle.verdict.specs.Buffer.{front}
use Rattle.verdict.specs.Refused.{full_limit}
use Rattle.verdict.specs.Code.{IsOut}
use Rattle.verdict.specs.Answer.{answer_of}
use Rattle.verdict.specs.Demands.{goal_term}
use Rattle.verdict.specs.Card.{sheet_a, rows}
use Rattle.verdict.proofs.Card.{card}
use Rattle.fresh.specs.Own.{OwnAtom, own_start}
use Rattle.fresh.proofs.Call.{answered_sheet, full_out}

-- the row of cut 2: out of reach
out_at_2 : IsOut (answer_of every full_limit sheet_a 2 256 (front + 40 * 256))
unfolding rows
out_at_2 = let q = card.1.1.0.0 in (omega (arith, q), omega (arith, q))

down : Downward (entry_at sheet_a) (count_of sheet_a)
down = (good sheet_a (answered_sheet full_limit sheet_a 2 256 (front + 40 * 256) out_at_2)).downward

entries : (entry_at sheet_a 0 ≡ Atom 1007) × (entry_at sheet_a 1 ≡ Atom 1009) × (entry_at sheet_a 2 ≡ Sum (0 ∷ 1 ∷ [])) × (entry_at sheet_a 3 ≡ Atom 1012) × (entry_at sheet_a 4 ≡ Enc 3 0)
unfolding number_at atom_of decode_as listed
entries = (refl, refl, refl, refl, refl)

five : count_of sheet_a ≡ 5
unfolding number_at
five = refl

pub public_own : OwnAtom sheet_a 5
public_own = inl (omega arith)

pub other_own : OwnAtom sheet_a 5000
unfolding shape
other_own = inr ((fresh_record (entry_at sheet_a) (count_of sheet_a) down 5000).1 (λ i h. none i (subst (λ (n : ℕ). i < n) five h)))
  where
    number : Entry → ℕ
    number d = (shape (λ j. 0) d).left

    none : (i : ℕ) → i < 5 → ¬ (entry_at sheet_a i ≡ Atom 5000)
    none zero h q = omega (arith, ap number (sym entries.0 ∙ q))
    none (suc zero) h q = omega (arith, ap number (sym entries.1 ∙ q))
    none (suc (suc zero)) h q = omega (arith, ap number (sym entries.2 ∙ q))
    none (suc (suc (suc zero))) h q = omega (arith, ap number (sym entries.3 ∙ q))
    none (suc (suc (suc (suc zero)))) h q = omega (arith, ap number (sym entries.4 ∙ q))
    none (suc (suc (suc (suc (suc i))))) h q = absurd (omega arith)

pub entry_not_own : ¬ OwnAtom sheet_a 1007
entry_not_own (inl l) = omega arith
entry_not_own (inr f) = (fresh_record (entry_at sheet_a) (count_of sheet_a) down 1007).0 f 0 (omega (arith, five)) entries.0

pub stays_out : ¬ Derivable every (own_start sheet_a 2 (5 ∷ 5000 ∷ [])) (goal_term sheet_a)
stays_out = full_out full_limit sheet_a 2 256 (front + 40 * 256) out_at_2 (5 ∷ 5000 ∷ []) own
  where
    own : (a : ℕ) → Memᴰ a (5 ∷ 5000 ∷ []) → OwnAtom sheet_a a
    own a m =
        ⊎_elim (λ p. subst (OwnAtom sheet_a) (sym p) public_own) (λ r. subst (OwnAtom sheet_a) (sym (Memᴰ.eq_of_singleton r)) other_own) (Memᴰ.cases_cons m)

-- entry 4 is heard before cut 2: the goal under atom 1,007
pub entry_helps : Derivable every (own_start sheet_a 2 (1007 ∷ [])) (goal_term sheet_a)
unfolding number_at listed build
entry_helps =
    (_, decrypt refl begin (term_at (entry_at sheet_a) 4, Memᴰ.append_left _ at_start, opened) (atom 1007, Memᴰ.append_right (start_terms sheet_a 2) (Memᴰ.head refl), same), (goal_term sheet_a, Memᴰ.head refl, same))
  where
    at_start : Memᴰ (term_at (entry_at sheet_a) 4) (start_terms sheet_a 2)
    at_start = Memᴰ.map (term_at (entry_at sheet_a)) (Memᴰ.append_right (public_heads (entry_at sheet_a) (count_of sheet_a)) (Memᴰ.tail (Memᴰ.head refl)))

    key : term_at (entry_at sheet_a) 0 ≡ atom 1007
    key = atom_term (entry_at sheet_a) 0 1007 entries.0

    opened : term_at (entry_at sheet_a) 4 ≈ enc (goal_term sheet_a) (atom 1007)
    opened =
        subst (λ (u : Term). u ≈ enc (goal_term sheet_a) (atom 1007))
        (sym (term_at_build (entry_at sheet_a) (count_of sheet_a) down 4 (omega (arith, five)) ∙ ap (build (term_at (entry_at sheet_a))) entries.4 ∙ ap (enc (term_at (entry_at sheet_a) 3)) key)) same
