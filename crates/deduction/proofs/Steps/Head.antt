-- Heads: the lowest entries of their terms, and what a head's record is.
-- Defined: `Heads`, a list of heads below n.
-- Shown: a head is its own representative, and only then; heads with one term are equal, and the representative of an entry with a head's
-- term is that head; a head that is a pair or an encryption has such a record with those parts, and a head that is a half has its record. Assumes
-- nothing.
use mathlib.Core.Path.{◌≡◌, sym, ap, ◌∙◌, subst}
use mathlib.Core.Logic.{by_cases}
use mathlib.Core.List.{List, Memᴰ}
use Prim.Native.Nat.{ℕ, ◌<◌}
use native.Mathlib.Decide.{dec_lt}
use native.Mathlib.Omega.{arith}
use Rattle.bitset.specs.Set.{member}
use Rattle.deduction.specs.Term.{Side, Term, half, ◌≈◌}
use Rattle.deduction.specs.Entry.{Entry, Half, build, term_at, Downward}
use Rattle.deduction.specs.Standard.{set_at, rep_at}
use Rattle.deduction.specs.Step.{Head}
use Rattle.deduction.proofs.Coding.{bit, bit_own, bit_only, half_place, code, code_half, same_code}
use Rattle.deduction.proofs.Pieces.{by_code}
use Rattle.deduction.proofs.Forms.{Form, form, form_entry, code_form}
use Rattle.deduction.proofs.Exactness.Places.{PlaceOf, parts_at, half_at, plain_place}
use Rattle.deduction.proofs.Terms.{term_at_build}
use Rattle.deduction.proofs.Elimination.Sums.{xor_over_member}
use Rattle.deduction.proofs.Standard.{rep_le, rep_rep, rep_same, rep_least, rep_equal}
use Rattle.deduction.proofs.Standard.First.{shape_at, Plain}
use Rattle.deduction.proofs.Standard.Members.{members_standard, standard_head}
use Rattle.deduction.proofs.Standard.Codes.{code_at, place_of, code_set, code_place}

-- a list of heads below n
abbrev pub Heads : (ℕ → Entry) → ℕ → List ℕ → Type 0
Heads e n es = (i : ℕ) → Memᴰ i es → (i < n) × (rep_at e i ≡ i)

module _ (e : ℕ → Entry) (n : ℕ) (down : Downward e n) where
  -- a head is its own representative
  pub head_rep : (h : ℕ) → Head (term_at e) n h → rep_at e h ≡ h
  head_rep h (l, low) = by_cases (dec_lt (rep_at e h) h) (λ q. absurd (low (rep_at e h) q (rep_same e n down h l))) (λ q. omega (arith, rep_le e h))

  pub rep_head : (h : ℕ) → h < n → rep_at e h ≡ h → Head (term_at e) n h
  rep_head h l p = (l, λ j q. rep_least e n down h j l (omega arith))

  -- every representative is a head
  pub rep_below : (i : ℕ) → i < n → rep_at e i < n
  rep_below i l = omega (arith, rep_le e i)

  pub rep_is_head : (i : ℕ) → i < n → Head (term_at e) n (rep_at e i)
  rep_is_head i l = rep_head (rep_at e i) (rep_below i l) (rep_rep e i)

  -- the representative of an entry with a head's term is that head
  pub rep_of : (i h : ℕ) → i < n → h < n → rep_at e h ≡ h → term_at e i ≈ term_at e h → rep_at e i ≡ h
  rep_of i h li lh p q = (rep_equal e n down i h li lh).1 q ∙ p

  pub head_same : (i h : ℕ) → i < n → h < n → rep_at e i ≡ i → rep_at e h ≡ h → term_at e i ≈ term_at e h → i ≡ h
  head_same i h li lh pi ph q = sym pi ∙ rep_of i h li lh ph q

  -- a head whose code is one place is no zero and no sum: the entry of its set that has the place has its term, so is the head itself
  head_plain : (i p : ℕ) → i < n → rep_at e i ≡ i → code_at e i ≡ bit p → Plain e i
  head_plain i p l h c =
      let (j, lj, m, o) = xor_over_member (code_at e) n (set_at e i) p (ap (λ (s : ℕ). member s p) (sym (code_set e n down i l) ∙ c) ∙ bit_own p) in
      let s = (standard_head e j).0 (members_standard e n down i l j m) in
      let one = code_place e n down j lj s.1 in
      let q = bit_only (place_of e n (shape_at e j)) p (ap (λ (x : ℕ). member x p) (sym one) ∙ o) in
      subst (Plain e) (head_same j i lj l s.0 h (by_code (one ∙ ap bit q ∙ sym c))) s.1

  -- the place of a head whose code is one place
  head_place : (i p : ℕ) → i < n → rep_at e i ≡ i → code_at e i ≡ bit p → PlaceOf (term_at e) (e i) p
  head_place i p l h c = plain_place (term_at e) (set_at e) (e i) p (head_plain i p l h c) (ap code (sym (term_at_build e n down i l)) ∙ c)

  -- the record of a head that has a form, and of one that is a half
  abbrev pub FormRecord : Form → ℕ → Term → Term → Type 0
  FormRecord f i a b = (l r : ℕ) × (e i ≡ form_entry f l r) × (l < n) × (r < n) × (term_at e l ≈ a) × (term_at e r ≈ b)

  pub form_record : (f : Form) (i : ℕ) {a b : Term} → i < n → rep_at e i ≡ i → term_at e i ≈ form f a b → FormRecord f i a b
  form_record f i {a} {b} l h q =
      let (x, y, lx, ly, cx, cy, p) = parts_at (term_at e) e n down (term_at_build e n down) f i (code a) (code b) l (head_place i _ l h (same_code q ∙ code_form f a b)) in
      (x, y, p, lx, ly, by_code cx, by_code cy)

  pub half_record_lem : (i : ℕ) (s : Side) (a : ℕ) → i < n → rep_at e i ≡ i → term_at e i ≈ half s a → e i ≡ Half s a
  half_record_lem i s a l h q = half_at (term_at e) s a (e i) (head_place i (half_place s a) l h (same_code q ∙ code_half s a))

  -- the term of a half
  pub half_term : (i : ℕ) (s : Side) (a : ℕ) → i < n → e i ≡ Half s a → term_at e i ≡ half s a
  unfolding build
  half_term i s a l p = term_at_build e n down i l ∙ ap (build (term_at e)) p

  -- the head of a half is a half
  pub rep_half : (i : ℕ) (s : Side) (a : ℕ) → i < n → e i ≡ Half s a → e (rep_at e i) ≡ Half s a
  rep_half i s a l p =
      half_record_lem (rep_at e i) s a (rep_below i l) (rep_rep e i) (subst (λ (u : Term). term_at e (rep_at e i) ≈ u) (half_term i s a l p) (rep_same e n down i l))
