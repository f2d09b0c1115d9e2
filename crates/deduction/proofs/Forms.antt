-- The three sorts of terms with two parts, so that what they share is shown once.
-- Defined: `Form`; `form`, the term of a form with two parts; `form_entry`, its record; `form_place`, the kind of its place.
-- Shown: the code and the parts of each; no two forms have one place, and no form has an atom's or a half's. Assumes nothing.
use mathlib.Core.Path.{◌≡◌, refl}
use mathlib.Core.List.{[], ◌∷◌}
use Prim.Native.Nat.{ℕ, ◌≤◌}
use native.Mathlib.Omega.{arith}
use Rattle.deduction.specs.Term.{Side, private, public, Term, pair, enc, aenc, ◌≈◌, in_pair, in_enc, in_aenc}
use Rattle.deduction.specs.Entry.{Entry, Pair, Enc, Aenc, build, parts}
use Rattle.deduction.proofs.Coding.{bit, place, side_place, code, code_pair, code_enc, code_aenc}

pub data Form : Type 0 where
  pairs encs aencs : Form

abbrev pub form_place : Form → ℕ
form_place pairs = 1
form_place encs = 2
form_place aencs = 6

abbrev pub form : Form → Term → Term → Term
form pairs a b = pair a b
form encs m k = enc m k
form aencs m k = aenc m k

abbrev pub form_entry : Form → ℕ → ℕ → Entry
form_entry pairs l r = Pair l r
form_entry encs m k = Enc m k
form_entry aencs m k = Aenc m k

pub code_form : (f : Form) (a b : Term) → code (form f a b) ≡ bit (place (form_place f) (code a) (code b))
code_form pairs a b = code_pair a b
code_form encs a b = code_enc a b
code_form aencs a b = code_aenc a b

pub in_form : (f : Form) {a a' b b' : Term} → a ≈ a' → b ≈ b' → form f a b ≈ form f a' b'
in_form pairs p q = in_pair p q
in_form encs p q = in_enc p q
in_form aencs p q = in_aenc p q

pub form_build : (t : ℕ → Term) (f : Form) (l r : ℕ) → build t (form_entry f l r) ≡ form f (t l) (t r)
unfolding build
form_build t pairs l r = refl
form_build t encs l r = refl
form_build t aencs l r = refl

pub form_listed : (f : Form) (l r : ℕ) → parts (form_entry f l r) ≡ l ∷ r ∷ []
unfolding parts
form_listed pairs l r = refl
form_listed encs l r = refl
form_listed aencs l r = refl

-- places of forms
pub form_same : (f g : Form) → form_place f ≡ form_place g → f ≡ g
form_same pairs pairs h = refl
form_same pairs encs h = absurd (omega arith)
form_same pairs aencs h = absurd (omega arith)
form_same encs pairs h = absurd (omega arith)
form_same encs encs h = refl
form_same encs aencs h = absurd (omega arith)
form_same aencs pairs h = absurd (omega arith)
form_same aencs encs h = absurd (omega arith)
form_same aencs aencs h = refl

pub form_positive : (f : Form) → 1 ≤ form_place f
form_positive pairs = omega arith
form_positive encs = omega arith
form_positive aencs = omega arith

pub form_not_half : (f : Form) (s : Side) → ¬ (side_place s ≡ form_place f)
form_not_half pairs private h = omega arith
form_not_half pairs public h = omega arith
form_not_half encs private h = omega arith
form_not_half encs public h = omega arith
form_not_half aencs private h = omega arith
form_not_half aencs public h = omega arith
