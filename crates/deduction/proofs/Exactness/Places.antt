-- The places on a sheet: those of its entries other than zero and sums.
-- Defined: `PlaceOf t d p`, the entry d is no zero and no sum, and has the place p; `OnSheet t e n p`, one of the first n entries has it.
-- Shown: being on the sheet is decidable, and the code of each entry's term has only such places; what an entry with a given place is. Assumes
-- nothing.
use mathlib.Core.Path.{◌≡◌, refl, sym, ap, ap₂, ◌∙◌, subst}
use mathlib.Core.Bool.{true}
use mathlib.Core.Logic.{⊎_elim, by_cases}
use mathlib.Core.List.Memᴰ
use mathlib.Core.List.{List, [], ◌∷◌, map, Memᴰ}
use Prim.Native.Nat.{ℕ, zero, suc, ◌<◌}
use native.Mathlib.Decide.{ℕ_discrete}
use native.Mathlib.Omega.{arith}
use Rattle.bitset.specs.Set.{member}
use Rattle.deduction.specs.Term.{Side, Term, sum_of}
use Rattle.deduction.specs.Entry.{Entry, Zero, Atom, Pair, Enc, Sum, Half, Aenc, build, parts, Downward}
use Rattle.deduction.specs.Standard.{shape}
use Rattle.deduction.proofs.Coding.{bit, bit_only, bit_same, place, place_same, half_place, side_same, side_range, code, code_atom, code_pair, code_enc, code_half, code_aenc, zero_none, sum_either}
use Rattle.deduction.proofs.Forms.{Form, pairs, encs, aencs, form, form_place, form_entry, form_build, form_listed, form_same, form_positive, form_not_half}

abbrev pub PlaceOf : (ℕ → Term) → Entry → ℕ → Type 0
PlaceOf t Zero p = ⊥
PlaceOf t (Atom a) p = place 0 a 0 ≡ p
PlaceOf t (Pair l r) p = place 1 (code (t l)) (code (t r)) ≡ p
PlaceOf t (Enc m k) p = place 2 (code (t m)) (code (t k)) ≡ p
PlaceOf t (Sum items) p = ⊥
PlaceOf t (Half s a) p = half_place s a ≡ p
PlaceOf t (Aenc m k) p = place 6 (code (t m)) (code (t k)) ≡ p

abbrev pub OnSheet : (ℕ → Term) → (ℕ → Entry) → ℕ → ℕ → Type 0
OnSheet t e n p = (i : ℕ) × (i < n) × PlaceOf t (e i) p

-- an entry with a place has the code of that place alone
pub place_code : (t : ℕ → Term) (d : Entry) (p : ℕ) → PlaceOf t d p → code (build t d) ≡ bit p
unfolding build
place_code t Zero p h = absurd h
place_code t (Atom a) p h = code_atom a ∙ ap bit h
place_code t (Pair l r) p h = code_pair (t l) (t r) ∙ ap bit h
place_code t (Enc m k) p h = code_enc (t m) (t k) ∙ ap bit h
place_code t (Sum items) p h = absurd h
place_code t (Half s a) p h = code_half s a ∙ ap bit h
place_code t (Aenc m k) p h = code_aenc (t m) (t k) ∙ ap bit h

place_of_decidable : (t : ℕ → Term) (d : Entry) (p : ℕ) → Dec (PlaceOf t d p)
place_of_decidable t Zero p = no (λ h. h)
place_of_decidable t (Atom a) p = ℕ_discrete (place 0 a 0) p
place_of_decidable t (Pair l r) p = ℕ_discrete (place 1 (code (t l)) (code (t r))) p
place_of_decidable t (Enc m k) p = ℕ_discrete (place 2 (code (t m)) (code (t k))) p
place_of_decidable t (Sum items) p = no (λ h. h)
place_of_decidable t (Half s a) p = ℕ_discrete (half_place s a) p
place_of_decidable t (Aenc m k) p = ℕ_discrete (place 6 (code (t m)) (code (t k))) p

pub on_sheet_decidable : (t : ℕ → Term) (e : ℕ → Entry) (n p : ℕ) → Dec (OnSheet t e n p)
on_sheet_decidable t e zero p = no (λ h. absurd (omega (arith, h.1)))
on_sheet_decidable t e (suc n) p = go (place_of_decidable t (e n) p) (on_sheet_decidable t e n p)
  where
    go : Dec (PlaceOf t (e n) p) → Dec (OnSheet t e n p) → Dec (OnSheet t e (suc n) p)
    go (yes h) r = yes (n, omega arith, h)
    go (no g) (yes h) = yes (h.0, omega (arith, h.1), h.2)
    go (no g) (no f) = no (λ h. by_cases (ℕ_discrete h.0 n) (λ q. g (subst (λ (i : ℕ). PlaceOf t (e i) p) q h.2)) (λ q. f (h.0, omega (arith, h.1), h.2)))

-- a member of a sum's code is a member of an item's
pub member_some : (ts : List Term) (p : ℕ) → member (code (sum_of ts)) p ≡ true → (u : Term) × Memᴰ u ts × (member (code u) p ≡ true)
unfolding sum_of
member_some [] p h = absurd (zero_none p h)
member_some (t ∷ ts) p h =
    ⊎_elim (λ q. (t, Memᴰ.head refl, q)) (λ q. let (u, m, r) = member_some ts p q in (u, Memᴰ.tail m, r)) (sum_either t (sum_of ts) p h)

-- the first n entries refer downwards, and each term is built from the terms of its entry's parts
module _ (t : ℕ → Term) (e : ℕ → Entry) (n : ℕ) (down : Downward e n) (built : (i : ℕ) → i < n → t i ≡ build t (e i)) where
  places_below : (b i : ℕ) → i < b → i < n → (p : ℕ) → member (code (t i)) p ≡ true → OnSheet t e n p
  unfolding build parts
  places_below zero i l h p m = absurd (omega arith)
  places_below (suc b) i l h p m = go (places_below b) (e i) refl (subst (λ (u : Term). member (code u) p ≡ true) (built i h) m)
    where
      here : (d : Entry) → e i ≡ d → PlaceOf t d p → OnSheet t e n p
      here d q r = (i, h, subst (λ (x : Entry). PlaceOf t x p) (sym q) r)

      only : (s q : ℕ) → s ≡ bit q → member s p ≡ true → q ≡ p
      only s q c r = bit_only q p (ap (λ (x : ℕ). member x p) (sym c) ∙ r)

      go : ((j : ℕ) → j < b → j < n → (q : ℕ) → member (code (t j)) q ≡ true → OnSheet t e n q)
          → (d : Entry) → e i ≡ d → member (code (build t d)) p ≡ true → OnSheet t e n p
      go below Zero q r = absurd (zero_none p r)
      go below (Atom a) q r = here (Atom a) q (only _ _ (code_atom a) r)
      go below (Pair x y) q r = here (Pair x y) q (only _ _ (code_pair (t x) (t y)) r)
      go below (Enc x y) q r = here (Enc x y) q (only _ _ (code_enc (t x) (t y)) r)
      go below (Sum items) q r = item (member_some (map t items) p r)
        where
          item : (u : Term) × Memᴰ u (map t items) × (member (code u) p ≡ true) → OnSheet t e n p
          item v = let w = Memᴰ.of_map t items v.1 in
              let lower : w.0 < i = down i w.0 h (subst (λ (x : Entry). Memᴰ w.0 (parts x)) (sym q) w.1) in
              below w.0 (omega arith) (omega arith) p (ap (λ (x : Term). member (code x) p) w.2 ∙ v.2)
      go below (Half s a) q r = here (Half s a) q (only _ _ (code_half s a) r)
      go below (Aenc x y) q r = here (Aenc x y) q (only _ _ (code_aenc (t x) (t y)) r)

  pub entry_places : (i : ℕ) → i < n → (p : ℕ) → member (code (t i)) p ≡ true → OnSheet t e n p
  entry_places i h p m = places_below (suc i) i (omega arith) h p m

  -- an entry with the place of a form has that form, and its parts have the codes of the place
  abbrev pub PartsAt : Form → ℕ → ℕ → ℕ → Type 0
  PartsAt f i x y = (l r : ℕ) × (l < n) × (r < n) × (code (t l) ≡ x) × (code (t r) ≡ y) × (e i ≡ form_entry f l r)

  pub parts_at : (f : Form) (i x y : ℕ) → i < n → PlaceOf t (e i) (place (form_place f) x y) → PartsAt f i x y
  parts_at f i x y h = go (e i) refl
    where
      two : (g : Form) (l r : ℕ) → e i ≡ form_entry g l r → place (form_place g) (code (t l)) (code (t r)) ≡ place (form_place f) x y → PartsAt f i x y
      two g l r q s = let p = place_same _ _ _ _ _ _ s in
          let lower : (j : ℕ) → Memᴰ j (l ∷ r ∷ []) → j < i = λ j m. down i j h (subst (λ (js : List ℕ). Memᴰ j js) (sym (ap parts q ∙ form_listed g l r)) m) in
          (l, r, omega (arith, lower l (Memᴰ.head refl)), omega (arith, lower r (Memᴰ.tail (Memᴰ.head refl))), p.1, p.2, q ∙ ap (λ (k : Form). form_entry k l r) (form_same g f p.0))

      go : (d : Entry) → e i ≡ d → PlaceOf t d (place (form_place f) x y) → PartsAt f i x y
      go Zero q s = absurd s
      go (Atom a) q s = absurd (omega (arith, (place_same _ _ _ _ _ _ s).0, form_positive f))
      go (Pair l r) q s = two pairs l r q s
      go (Enc m k) q s = two encs m k q s
      go (Sum items) q s = absurd s
      go (Half z a) q s = absurd (form_not_half f z (place_same _ _ _ _ _ _ s).0)
      go (Aenc m k) q s = two aencs m k q s

-- the term of an entry with two parts
pub form_term : (t : ℕ → Term) (e : ℕ → Entry) (n : ℕ) (built : (i : ℕ) → i < n → t i ≡ build t (e i)) (f : Form) (i l r : ℕ) → i < n
    → e i ≡ form_entry f l r → t i ≡ form f (t l) (t r)
form_term t e n built f i l r h q = built i h ∙ ap (build t) q ∙ form_build t f l r

-- an entry with the place of an atom is that atom
pub atom_at : (t : ℕ → Term) (a : ℕ) (d : Entry) → PlaceOf t d (place 0 a 0) → d ≡ Atom a
atom_at t a Zero q = absurd q
atom_at t a (Atom b) q = ap Atom (place_same _ _ _ _ _ _ q).1
atom_at t a (Pair l r) q = absurd (omega (arith, (place_same _ _ _ _ _ _ q).0))
atom_at t a (Enc m k) q = absurd (omega (arith, (place_same _ _ _ _ _ _ q).0))
atom_at t a (Sum items) q = absurd q
atom_at t a (Half s b) q = absurd (omega (arith, (place_same _ _ _ _ _ _ q).0, side_range s))
atom_at t a (Aenc m k) q = absurd (omega (arith, (place_same _ _ _ _ _ _ q).0))

-- an entry with the place of a half is that half
pub half_at : (t : ℕ → Term) (s : Side) (a : ℕ) (d : Entry) → PlaceOf t d (half_place s a) → d ≡ Half s a
half_at t s a Zero q = absurd q
half_at t s a (Atom b) q = absurd (omega (arith, (place_same _ _ _ _ _ _ q).0, side_range s))
half_at t s a (Pair l r) q = absurd (form_not_half pairs s (sym (place_same _ _ _ _ _ _ q).0))
half_at t s a (Enc m k) q = absurd (form_not_half encs s (sym (place_same _ _ _ _ _ _ q).0))
half_at t s a (Sum items) q = absurd q
half_at t s a (Half z b) q = let p = place_same _ _ _ _ _ _ q in ap₂ Half (side_same z s p.0) p.1
half_at t s a (Aenc m k) q = absurd (form_not_half aencs s (sym (place_same _ _ _ _ _ _ q).0))

-- an entry that is no zero and no sum, and whose code is one place, has that place
pub plain_place : (t : ℕ → Term) (u : ℕ → ℕ) (d : Entry) (p : ℕ) → ¬ ((shape u d).kind ≡ 0) → code (build t d) ≡ bit p → PlaceOf t d p
unfolding build shape
plain_place t u Zero p z c = absurd (z refl)
plain_place t u (Atom a) p z c = bit_same _ p (sym (code_atom a) ∙ c)
plain_place t u (Pair l r) p z c = bit_same _ p (sym (code_pair (t l) (t r)) ∙ c)
plain_place t u (Enc m k) p z c = bit_same _ p (sym (code_enc (t m) (t k)) ∙ c)
plain_place t u (Sum items) p z c = absurd (z refl)
plain_place t u (Half s a) p z c = bit_same _ p (sym (code_half s a) ∙ c)
plain_place t u (Aenc m k) p z c = bit_same _ p (sym (code_aenc (t m) (t k)) ∙ c)
