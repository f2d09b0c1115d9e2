-- A detour off the sheet: there are derivations through terms that no entry has, and they gain nothing more on the sheet.
-- Defined: `sheet`, the atoms 1 and 2. Shown: from atom 1 a derivation makes its pair with itself and an encryption of that, neither of which
-- is the term of an entry; and no derivation holds atom 2. What is kept: a code lacks the place of atom 2. Assumes nothing.
use mathlib.Core.Path.{◌≡◌, refl, sym, ap, ap₂, ◌∙◌, subst}
use mathlib.Core.Bool.{false, true≢false, xor}
use mathlib.Core.List.Memᴰ
use mathlib.Core.List.{[], ◌∷◌, map}
use Prim.Native.Nat.{ℕ, zero, suc, ◌<◌}
use native.Mathlib.Omega.{arith}
use lib.ListN.{get_or}
use Rattle.bitset.specs.Set.{member}
use Rattle.bitset.proofs.Laws.Member.{member_empty, member_sum}
use Rattle.deduction.specs.Term.{Term, atom, pair, enc, ◌≈◌, same}
use Rattle.deduction.specs.Setting.{every}
use Rattle.deduction.specs.Entry.{Entry, Zero, Atom, build, term_at, parts, Downward}
use Rattle.deduction.specs.Derivation.{Holds, Derivation, Derivable, begin, join, encrypt}
use Rattle.deduction.proofs.Coding.{bit_own, bit_other, place, place_same, code, code_atom}
use Rattle.deduction.proofs.Distinct.{kind, kinds_apart}
use Rattle.deduction.proofs.Terms.{term_at_build}
use Rattle.deduction.proofs.Exactness.{kept_underivable}
use Rattle.deduction.proofs.Exactness.Invariant.{Kept}

abbrev pub sheet : ℕ → Entry
sheet i = get_or (Atom 1 ∷ Atom 2 ∷ []) i Zero

pub sheet_down : Downward sheet 2
unfolding parts
sheet_down zero j h r = absurd (Memᴰ.not-nil r)
sheet_down (suc zero) j h r = absurd (Memᴰ.not-nil r)
sheet_down (suc (suc i)) j h r = absurd (omega arith)

pub term_0 : term_at sheet 0 ≡ atom 1
unfolding build
term_0 = term_at_build sheet 2 sheet_down 0 (omega arith)

pub term_1 : term_at sheet 1 ≡ atom 2
unfolding build
term_1 = term_at_build sheet 2 sheet_down 1 (omega arith)

-- the two terms off the sheet
abbrev pub twin : Term
twin = pair (term_at sheet 0) (term_at sheet 0)

abbrev pub wrapped : Term
wrapped = enc twin (term_at sheet 0)

pub detour : Derivation every (map (term_at sheet) (0 ∷ [])) (wrapped ∷ twin ∷ term_at sheet 0 ∷ [])
detour = encrypt refl (join refl begin here here) (twin, Memᴰ.head refl, same) (term_at sheet 0, Memᴰ.tail (Memᴰ.head refl), same)
  where
    here : Holds (term_at sheet 0 ∷ []) (term_at sheet 0)
    here = (term_at sheet 0, Memᴰ.head refl, same)

-- an atom is neither of them
neither : (a : ℕ) (u : Term) → u ≡ atom a → (¬ (u ≈ twin)) × (¬ (u ≈ wrapped))
unfolding kind
neither a u p = (
  λ q. omega (arith, kinds_apart (atom a) twin (λ z. omega arith) (λ z. omega arith) (subst (λ (v : Term). v ≈ twin) p q)),
  λ q. omega (arith, kinds_apart (atom a) wrapped (λ z. omega arith) (λ z. omega arith) (subst (λ (v : Term). v ≈ wrapped) p q)),
)

pub off_sheet : (i : ℕ) → i < 2 → (¬ (term_at sheet i ≈ twin)) × (¬ (term_at sheet i ≈ wrapped))
off_sheet zero h = neither 1 (term_at sheet 0) term_0
off_sheet (suc zero) h = neither 2 (term_at sheet 1) term_1
off_sheet (suc (suc i)) h = absurd (omega arith)

abbrev Lacks : ℕ → Type 0
Lacks v = member v (place 0 2 0) ≡ false

kept : (i : ℕ) → i < 2 → Kept (term_at sheet) Lacks (sheet i)
kept zero h = tt
kept (suc zero) h = tt
kept (suc (suc i)) h = absurd (omega arith)

lacks_0 : Lacks (code (term_at sheet 0))
lacks_0 = subst Lacks (sym (ap code term_0 ∙ code_atom 1)) (bit_other _ _ (λ h. omega (arith, (place_same _ _ _ _ _ _ h).1)))

has_1 : ¬ Lacks (code (term_at sheet 1))
has_1 h = true≢false (sym (bit_own _) ∙ subst Lacks (ap code term_1 ∙ code_atom 2) h)

pub other_underivable : ¬ Derivable every (map (term_at sheet) (0 ∷ [])) (term_at sheet 1)
unfolding xor
other_underivable =
    kept_underivable every sheet 2 sheet_down Lacks (member_empty (place 0 2 0)) (λ v w a b. member_sum v w (place 0 2 0) ∙ ap₂ xor a b) kept (0 ∷ [])
    (λ i r. subst (λ (x : ℕ). (x < 2) × Lacks (code (term_at sheet x))) (sym (Memᴰ.eq_of_singleton r)) (omega arith, lacks_0)) 1 (omega arith) has_1
