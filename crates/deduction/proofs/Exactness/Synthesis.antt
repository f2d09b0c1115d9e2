-- What can be put together from a set G of entries, closed under the rules switched on within the sheet.
-- Defined: `Synth`, the codes made from G by sums, pairs and encryptions of both sorts, each where its rule is on, and from atoms that aren't on the sheet, but
-- no halves; `Sums`, those made by sums alone; `Alone`, one entry of G or one place that isn't on the sheet; `Split`, a code as a sum of entries of G and of
-- places that aren't on the sheet, and alone unless sum is on.
-- Shown: every code of `Synth` splits so; one with places on the sheet alone is a sum of entries of G, and an entry whose code is one of `Synth` is in G.
-- Assumes nothing.
use mathlib.Core.Path.{◌≡◌, refl, sym, ap, ap₂, ◌∙◌, subst}
use mathlib.Core.Bool.{Bool, true, false}
use mathlib.Core.Logic.{◌⊎◌, inl, inr, ⊎_elim, by_cases}
use mathlib.Core.List.Memᴰ
use mathlib.Core.List.{List, [], ◌∷◌, ◌++◌, map, Memᴰ}
use Prim.Native.Nat.{ℕ, ◌<◌}
use lib.Bits.{bit_xor, xor_comm, xor_zero_l, xor_zero_r}
use Rattle.bitset.specs.Set.{member}
use Rattle.bitset.proofs.Laws.Member.{no_members, sum_assoc}
use Rattle.deduction.specs.Term.{Side, Term, 𝟎, sum_of, ◌≈◌}
use Rattle.deduction.specs.Setting.{Setting}
use Rattle.deduction.specs.Entry.{Entry, build, Downward}
use Rattle.deduction.proofs.Exactness.Within.{Closed}
use Rattle.deduction.proofs.Coding.{bit, bit_own, bit_only, empty_none, member_either, member_one, place, half_place, code, code_zero, code_half, code_sum}
use Rattle.deduction.proofs.Pieces.{by_code}
use Rattle.deduction.proofs.Forms.{Form, pairs, encs, aencs, form, form_place}
use Rattle.deduction.proofs.Exactness.Places.{PlaceOf, OnSheet, place_code, on_sheet_decidable, member_some, entry_places, parts_at, form_term}

pub data Synth (on : Setting) (t : ℕ → Term) (e : ℕ → Entry) (n : ℕ) (G : ℕ → Type 0) : ℕ → Type 0 where
  entry : (i : ℕ) → i < n → G i → Synth on t e n G (code (t i))
  -- an atom that no entry has
  own : (a : ℕ) → ¬ OnSheet t e n (place 0 a 0) → Synth on t e n G (bit (place 0 a 0))
  none : on 6 ≡ true → Synth on t e n G 0
  sum : {v w : ℕ} → on 6 ≡ true → Synth on t e n G v → Synth on t e n G w → Synth on t e n G (bit_xor v w)
  join : {x y : ℕ} → on 4 ≡ true → Synth on t e n G x → Synth on t e n G y → Synth on t e n G (bit (place 1 x y))
  encrypt : {x y : ℕ} → on 5 ≡ true → Synth on t e n G x → Synth on t e n G y → Synth on t e n G (bit (place 2 x y))
  aencrypt : {x : ℕ} (s : Side) (a : ℕ) → on 8 ≡ true → Synth on t e n G x → Synth on t e n G (bit (half_place s a)) → Synth on t e n G (bit (place 6 x (bit (half_place s a))))

-- the places of what is made off the sheet
pub data Made (on : Setting) (t : ℕ → Term) (e : ℕ → Entry) (n : ℕ) (G : ℕ → Type 0) : ℕ → Type 0 where
  own : (a : ℕ) → Made on t e n G (place 0 a 0)
  join : {x y : ℕ} → Synth on t e n G x → Synth on t e n G y → Made on t e n G (place 1 x y)
  encrypt : {x y : ℕ} → Synth on t e n G x → Synth on t e n G y → Made on t e n G (place 2 x y)
  aencrypt : {x : ℕ} (s : Side) (a : ℕ) → Synth on t e n G x → Synth on t e n G (bit (half_place s a)) → Made on t e n G (place 6 x (bit (half_place s a)))

-- the sums of entries of G
abbrev pub Sums : (ℕ → Term) → ℕ → (ℕ → Type 0) → ℕ → Type 0
Sums t n G w = (js : List ℕ) × ((j : ℕ) → Memᴰ j js → (j < n) × G j) × (code (sum_of (map t js)) ≡ w)

-- the code of one entry of G, or one place that isn't on the sheet
abbrev Alone : (ℕ → Term) → (ℕ → Entry) → ℕ → (ℕ → Type 0) → ℕ → Type 0
Alone t e n G v = ((j : ℕ) × (j < n) × G j × (code (t j) ≡ v)) ⊎ ((p : ℕ) × (¬ OnSheet t e n p) × (bit p ≡ v))

-- the places of `here` are on the sheet, those of `off` are not
record Split (on : Setting) (t : ℕ → Term) (e : ℕ → Entry) (n : ℕ) (G : ℕ → Type 0) (v : ℕ) : Type 0 where
  here : ℕ
  off : ℕ
  sums : Sums t n G here
  outside : (p : ℕ) → member off p ≡ true → (¬ OnSheet t e n p) × Made on t e n G p
  whole : bit_xor here off ≡ v
  alone : (on 6 ≡ true) ⊎ Alone t e n G v

code_append : (t : ℕ → Term) (is js : List ℕ) → code (sum_of (map t (is ++ js))) ≡ bit_xor (code (sum_of (map t is))) (code (sum_of (map t js)))
unfolding sum_of
code_append t [] js = sym (xor_zero_l (code (sum_of (map t js)))) ∙ ap (λ (x : ℕ). bit_xor x (code (sum_of (map t js)))) (sym code_zero)
code_append t (i ∷ is) js =
    code_sum (t i) (sum_of (map t (is ++ js))) ∙ ap (bit_xor (code (t i))) (code_append t is js)
    ∙ sym (sum_assoc (code (t i)) (code (sum_of (map t is))) (code (sum_of (map t js))))
    ∙ ap (λ (x : ℕ). bit_xor x (code (sum_of (map t js)))) (sym (code_sum (t i) (sum_of (map t is))))

regroup : (a b c d : ℕ) → bit_xor (bit_xor a b) (bit_xor c d) ≡ bit_xor (bit_xor a c) (bit_xor b d)
regroup a b c d =
    sum_assoc a b (bit_xor c d) ∙ ap (bit_xor a) (sym (sum_assoc b c d) ∙ ap (λ (x : ℕ). bit_xor x d) (xor_comm b c) ∙ sum_assoc c b d) ∙ sym (sum_assoc a c (bit_xor b d))

module _ (on : Setting) (t : ℕ → Term) (e : ℕ → Entry) (n : ℕ) (G : ℕ → Type 0) where
  sums_none : Sums t n G 0
  unfolding sum_of
  sums_none = ([], λ j m. absurd (Memᴰ.not-nil m), code_zero)

  sums_entry : (i : ℕ) → i < n → G i → Sums t n G (code (t i))
  unfolding sum_of
  sums_entry i h g = (
    i ∷ [],
    λ j m. subst (λ (x : ℕ). (x < n) × G x) (sym (Memᴰ.eq_of_singleton m)) (h, g),
    code_sum (t i) 𝟎 ∙ ap (bit_xor (code (t i))) code_zero ∙ xor_zero_r (code (t i)),
  )

  sums_sum : {v w : ℕ} → Sums t n G v → Sums t n G w → Sums t n G (bit_xor v w)
  sums_sum x y =
      (x.0 ++ y.0, λ j m. ⊎_elim (x.1 j) (y.1 j) (Memᴰ.append_cases x.0 m), code_append t x.0 y.0 ∙ ap₂ bit_xor x.2 y.2)

  -- a place that is not on the sheet, alone
  split_off : (p : ℕ) → ¬ OnSheet t e n p → Made on t e n G p → Split on t e n G (bit p)
  split_off p h m = record {
    here = 0;
    off = bit p;
    sums = sums_none;
    outside = λ q r. subst (λ (x : ℕ). (¬ OnSheet t e n x) × Made on t e n G x) (bit_only p q r) (h, m);
    whole = xor_zero_l (bit p);
    alone = inr (inr (p, h, refl));
  }

  -- a sum of entries of G
  split_on : {v : ℕ} → (on 6 ≡ true) ⊎ Alone t e n G v → Sums t n G v → Split on t e n G v
  split_on {v} o s = record { here = v; off = 0; sums = s; outside = λ q r. absurd (empty_none q r); whole = xor_zero_r v; alone = o }

  split_one : (i : ℕ) → i < n → G i → Split on t e n G (code (t i))
  split_one i h g = split_on (inr (inl (i, h, g, refl))) (sums_entry i h g)

  split_sum : {v w : ℕ} → on 6 ≡ true → Split on t e n G v → Split on t e n G w → Split on t e n G (bit_xor v w)
  split_sum o x y = record {
    here = bit_xor x.here y.here;
    off = bit_xor x.off y.off;
    sums = sums_sum x.sums y.sums;
    outside = λ p m. ⊎_elim (x.outside p) (y.outside p) (member_either x.off y.off p m);
    whole = regroup x.here y.here x.off y.off ∙ ap₂ bit_xor x.whole y.whole;
    alone = inl o;
  }

module _ (on : Setting) (t : ℕ → Term) (e : ℕ → Entry) (n : ℕ) (down : Downward e n) (built : (i : ℕ) → i < n → t i ≡ build t (e i)) (G : ℕ → Type 0) (closed : Closed on t n G) where
  -- sums of entries have only places on the sheet
  sums_places : {w : ℕ} → Sums t n G w → (p : ℕ) → member w p ≡ true → OnSheet t e n p
  sums_places s p m =
      let u = member_some (map t s.0) p (ap (λ (x : ℕ). member x p) s.2 ∙ m) in let j = Memᴰ.of_map t s.0 u.1 in
      entry_places t e n down built j.0 (s.1 j.0 j.1).0 p (ap (λ (x : Term). member (code x) p) j.2 ∙ u.2)

  -- a code that splits and has only places on the sheet is a sum of entries of G
  split_sums : {v : ℕ} → ((p : ℕ) → member v p ≡ true → OnSheet t e n p) → Split on t e n G v → Sums t n G v
  split_sums {v} here s = subst (Sums t n G) (sym (xor_zero_r s.here) ∙ ap (bit_xor s.here) none ∙ s.whole) s.sums
    where
      both : (p : ℕ) → member s.off p ≡ true → OnSheet t e n p
      both p m =
          ⊎_elim (λ (q : member (bit_xor s.off s.here) p ≡ true). here p (ap (λ (x : ℕ). member x p) (sym (xor_comm s.off s.here ∙ s.whole)) ∙ q))
          (sums_places s.sums p) (member_one s.off s.here p m)

      never : (p : ℕ) (b : Bool) → member s.off p ≡ b → b ≡ false
      never p true m = absurd ((s.outside p m).0 (both p m))
      never p false m = refl

      none : 0 ≡ s.off
      none = no_members s.off (λ p. never p (member s.off p) refl)

  -- an entry whose code splits is in G
  split_gained : (i : ℕ) → i < n → Split on t e n G (code (t i)) → G i
  split_gained i h s = go s.alone
    where
      go : (on 6 ≡ true) ⊎ Alone t e n G (code (t i)) → G i
      go (inl o) = let w = split_sums (entry_places t e n down built i h) s in closed.sum i w.0 o h w.1 (by_code (sym w.2))
      go (inr (inl (j, l, g, q))) = closed.same i j h l g (by_code (sym q))
      go (inr (inr (p, off, q))) = absurd (off (entry_places t e n down built i h p (ap (λ (x : ℕ). member x p) (sym q) ∙ bit_own p)))

  -- an entry of G with one place
  split_entry : (i p : ℕ) → i < n → PlaceOf t (e i) p → G i → Split on t e n G (bit p)
  split_entry i p h s g = subst (Split on t e n G) (ap code (built i h) ∙ place_code t (e i) p s) (split_one on t e n G i h g)

  -- a form of two codes that split: it is an entry, then in G by the rule that builds the form, or off the sheet
  split_two : (f : Form) {x y : ℕ} → ((i l r : ℕ) → i < n → l < n → r < n → G l → G r → code (t r) ≡ y → t i ≈ form f (t l) (t r) → G i)
      → Made on t e n G (place (form_place f) x y) → Split on t e n G x → Split on t e n G y → Split on t e n G (bit (place (form_place f) x y))
  split_two f {x} {y} rule made sx sy = by_cases (on_sheet_decidable t e n (place (form_place f) x y)) found (λ h. split_off on t e n G (place (form_place f) x y) h made)
    where
      found : OnSheet t e n (place (form_place f) x y) → Split on t e n G (bit (place (form_place f) x y))
      found (i, h, s) = let (l, r, hl, hr, cl, cr, ei) = parts_at t e n down built f i x y h s in
          split_entry i (place (form_place f) x y) h s
          (rule i l r h hl hr (split_gained l hl (subst (Split on t e n G) (sym cl) sx)) (split_gained r hr (subst (Split on t e n G) (sym cr) sy)) cr
          (by_code (ap code (form_term t e n built f i l r h ei))))

  synth_split : {v : ℕ} → Synth on t e n G v → Split on t e n G v
  synth_split (entry i h g) = split_one on t e n G i h g
  synth_split (own a h) = split_off on t e n G (place 0 a 0) h (own a)
  synth_split (none o) = split_on on t e n G (inl o) (sums_none on t e n G)
  synth_split (sum o x y) = split_sum on t e n G o (synth_split x) (synth_split y)
  synth_split (join o x y) = split_two pairs (λ i l r hi hl hr gl gr c q. closed.join i l r o hi hl hr gl gr q) (join x y) (synth_split x) (synth_split y)
  synth_split (encrypt o x y) = split_two encs (λ i l r hi hl hr gl gr c q. closed.encrypt i l r o hi hl hr gl gr q) (encrypt x y) (synth_split x) (synth_split y)
  synth_split (aencrypt s a o x y) =
      split_two aencs (λ i l r hi hl hr gl gr c q. closed.aencrypt i l r s a o hi hl hr gl gr q (by_code (c ∙ sym (code_half s a)))) (aencrypt s a x y) (synth_split x) (synth_split y)

  -- an entry whose code can be put together is in G
  pub synth_gained : (i : ℕ) → i < n → Synth on t e n G (code (t i)) → G i
  synth_gained i h s = split_gained i h (synth_split s)

  -- a code that can be put together and has only places on the sheet is a sum of entries of G
  pub synth_sums : {v : ℕ} → ((p : ℕ) → member v p ≡ true → OnSheet t e n p) → Synth on t e n G v → Sums t n G v
  synth_sums here s = split_sums here (synth_split s)

  -- a place off the sheet was made
  pub synth_made : (p : ℕ) → ¬ OnSheet t e n p → Synth on t e n G (bit p) → Made on t e n G p
  synth_made p h s = let w = synth_split s in
      ⊎_elim (λ (m : member w.here p ≡ true). absurd (h (sums_places w.sums p m))) (λ (m : member w.off p ≡ true). (w.outside p m).1)
      (member_either w.here w.off p (ap (λ (x : ℕ). member x p) w.whole ∙ bit_own p))
