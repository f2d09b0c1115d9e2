-- A closed set of entries from a property of codes.
-- Defined: `Kept`, a property of codes is kept by the rules at one entry.
-- Shown: a property that the empty code has, that sums keep, and that the rules at each pair and each encryption of the sheet keep,
-- is closed under the rules within the sheet, in every setting. Assumes nothing.
use mathlib.Core.Path.{◌≡◌, refl, sym, ap, ◌∙◌, subst, subst₂}
use mathlib.Core.List.{List, [], ◌∷◌, map, Memᴰ}
use Prim.Native.Nat.{ℕ, ◌<◌}
use lib.Bits.{bit_xor}
use Rattle.bitset.specs.Set.{member}
use Rattle.deduction.specs.Term.{Side, opposite, Term, half, sum_of, ◌≈◌}
use Rattle.deduction.specs.Setting.{Setting}
use Rattle.deduction.specs.Entry.{Entry, Zero, Atom, Pair, Enc, Sum, Half, Aenc, build, Downward}
use Rattle.deduction.proofs.Exactness.Within.{Closed}
use Rattle.deduction.proofs.Coding.{bit, bit_own, place, half_place, code, code_zero, code_half, code_sum, same_code}
use Rattle.deduction.proofs.Forms.{Form, pairs, encs, aencs, form, form_place, form_entry, code_form}
use Rattle.deduction.proofs.Exactness.Places.{OnSheet, entry_places, parts_at}

abbrev pub KeptPair : (ℕ → Type 0) → ℕ → ℕ → Type 0
KeptPair P x y = (P (bit (place 1 x y)) → P x) × (P (bit (place 1 x y)) → P y) × (P x → P y → P (bit (place 1 x y)))

abbrev pub KeptEnc : (ℕ → Type 0) → ℕ → ℕ → Type 0
KeptEnc P x y = (P (bit (place 2 x y)) → P y → P x) × (P x → P y → P (bit (place 2 x y)))

-- where the key is a half
abbrev pub KeptAenc : (ℕ → Type 0) → ℕ → ℕ → Type 0
KeptAenc P x y = (s : Side) (a : ℕ) → y ≡ bit (half_place s a) → (P (bit (place 6 x y)) → P (bit (half_place (opposite s) a)) → P x) × (P x → P y → P (bit (place 6 x y)))

abbrev KeptForm : Form → (ℕ → Type 0) → ℕ → ℕ → Type 0
KeptForm pairs = KeptPair
KeptForm encs = KeptEnc
KeptForm aencs = KeptAenc

abbrev pub Kept : (ℕ → Term) → (ℕ → Type 0) → Entry → Type 0
Kept t P Zero = Unit {0}
Kept t P (Atom a) = Unit {0}
Kept t P (Pair l r) = KeptPair P (code (t l)) (code (t r))
Kept t P (Enc m k) = KeptEnc P (code (t m)) (code (t k))
Kept t P (Sum items) = Unit {0}
Kept t P (Half s a) = Unit {0}
Kept t P (Aenc m k) = KeptAenc P (code (t m)) (code (t k))

kept_form : (t : ℕ → Term) (P : ℕ → Type 0) (f : Form) (l r : ℕ) → Kept t P (form_entry f l r) → KeptForm f P (code (t l)) (code (t r))
kept_form t P pairs l r k = k
kept_form t P encs l r k = k
kept_form t P aencs l r k = k

sum_kept : (t : ℕ → Term) (P : ℕ → Type 0) → P 0 → ((v w : ℕ) → P v → P w → P (bit_xor v w))
    → (js : List ℕ) → ((j : ℕ) → Memᴰ j js → P (code (t j))) → P (code (sum_of (map t js)))
unfolding sum_of
sum_kept t P none add [] h = subst P (sym code_zero) none
sum_kept t P none add (j ∷ js) h =
    subst P (sym (code_sum (t j) (sum_of (map t js)))) (add _ _ (h j (Memᴰ.head refl)) (sum_kept t P none add js (λ i m. h i (Memᴰ.tail m))))

module _ (t : ℕ → Term) (e : ℕ → Entry) (n : ℕ) (down : Downward e n) (built : (i : ℕ) → i < n → t i ≡ build t (e i)) where
  -- an entry's term with one place is on the sheet there
  on_sheet : (i p : ℕ) → i < n → code (t i) ≡ bit p → OnSheet t e n p
  on_sheet i p h c = entry_places t e n down built i h p (ap (λ (s : ℕ). member s p) c ∙ bit_own p)

  pub kept_closed : (on : Setting) (P : ℕ → Type 0) → P 0 → ((v w : ℕ) → P v → P w → P (bit_xor v w)) → ((i : ℕ) → i < n → Kept t P (e i)) → Closed on t n (λ i. P (code (t i)))
  kept_closed on P none add kept = record {
    same = λ i j hi hj g q. subst P (sym (same_code q)) g;
    first = λ i j b o hi hj g q. (at pairs i (t j) b hi q).0 (subst P (placed pairs (t j) b q) g);
    second = λ i j a o hi hj g q. (at pairs i a (t j) hi q).1 (subst P (placed pairs a (t j) q) g);
    decrypt = λ i j k o hi hj hk g gk q. (at encs i (t j) (t k) hi q).0 (subst P (placed encs (t j) (t k) q) g) gk;
    join = λ i j k o hi hj hk gj gk q. subst P (sym (placed pairs (t j) (t k) q)) ((at pairs i (t j) (t k) hi q).2 gj gk);
    encrypt = λ i j k o hi hj hk gj gk q. subst P (sym (placed encs (t j) (t k) q)) ((at encs i (t j) (t k) hi q).1 gj gk);
    sum = λ i js o hi g q. subst P (sym (same_code q)) (sum_kept t P none add js (λ j m. (g j m).1));
    adecrypt = λ i j k s a o hi hj hk g gk q r.
        (at aencs i (t j) (half s a) hi q s a (code_half s a)).0 (subst P (placed aencs (t j) (half s a) q) g) (subst P (same_code r ∙ code_half (opposite s) a) gk);
    aencrypt = λ i j k s a o hi hj hk gj gk q r. subst P (sym (placed aencs (t j) (t k) q)) ((at aencs i (t j) (t k) hi q s a (same_code r ∙ code_half s a)).1 gj gk);
  }
    where
      placed : (f : Form) (a b : Term) {u : Term} → u ≈ form f a b → code u ≡ bit (place (form_place f) (code a) (code b))
      placed f a b q = same_code q ∙ code_form f a b

      at : (f : Form) (i : ℕ) (a b : Term) → i < n → t i ≈ form f a b → KeptForm f P (code a) (code b)
      at f i a b h q =
          let (j, hj, s) = on_sheet i (place (form_place f) (code a) (code b)) h (placed f a b q) in
          let (l, r, hl, hr, cl, cr, ej) = parts_at t e n down built f j (code a) (code b) hj s in
          subst₂ (KeptForm f P) cl cr (kept_form t P f l r (subst (Kept t P) ej (kept j hj)))
