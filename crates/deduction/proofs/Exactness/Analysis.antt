-- Taking apart adds nothing to what can be put together.
-- Shown: both parts of a pair in `Synth` are in it, and so is the message of an encryption in it whose key is in it, or for an asymmetric one the
-- opposite half of its key; a half in it is an entry of G; so every term held by a derivation whose start lies in `Synth` has its code there. Assumes nothing.
use mathlib.Core.Path.{◌≡◌, refl, sym, ap, ◌∙◌, subst}
use mathlib.Core.Bool.{true}
use mathlib.Core.Logic.{⊎_elim, by_cases}
use mathlib.Core.List.Memᴰ
use mathlib.Core.List.{List, [], ◌∷◌, Memᴰ}
use Prim.Native.Nat.{ℕ, ◌<◌}
use native.Mathlib.Omega.{arith}
use Rattle.bitset.specs.Set.{member}
use Rattle.deduction.specs.Term.{Side, opposite, Term, pair, enc, half, aenc, sum_of, ◌≈◌, in_aenc, same, then}
use Rattle.deduction.specs.Setting.{Setting}
use Rattle.deduction.specs.Entry.{Entry, build, Downward}
use Rattle.deduction.specs.Derivation.{Holds, Derivation, begin, first, second, decrypt, join, encrypt, sum, adecrypt, aencrypt}
use Rattle.deduction.proofs.Exactness.Within.{Closed}
use Rattle.deduction.proofs.Coding.{bit, place, place_same, half_place, side_range, code, code_zero, code_pair, code_enc, code_half, code_aenc, code_sum, same_code}
use Rattle.deduction.proofs.Pieces.{by_code}
use Rattle.deduction.proofs.Forms.{Form, pairs, encs, aencs, form, form_place, form_positive, form_not_half}
use Rattle.deduction.proofs.Exactness.Places.{OnSheet, place_code, on_sheet_decidable, parts_at, form_term}
use Rattle.deduction.proofs.Exactness.Synthesis.{Synth, Made, Sums, synth_gained, synth_sums, synth_made}

module _ (on : Setting) (t : ℕ → Term) (e : ℕ → Entry) (n : ℕ) (G : ℕ → Type 0) where
  -- the first part of what was made as a form, and the second of a pair
  made_first : (f : Form) {p : ℕ} (x y : ℕ) → Made on t e n G p → p ≡ place (form_place f) x y → Synth on t e n G x
  made_first f x y (Made.own a) q = absurd (omega (arith, (place_same _ _ _ _ _ _ q).0, form_positive f))
  made_first f x y (Made.join a b) q = subst (Synth on t e n G) (place_same _ _ _ _ _ _ q).1 a
  made_first f x y (Made.encrypt a b) q = subst (Synth on t e n G) (place_same _ _ _ _ _ _ q).1 a
  made_first f x y (Made.aencrypt s c a b) q = subst (Synth on t e n G) (place_same _ _ _ _ _ _ q).1 a

  made_second : {p : ℕ} (x y : ℕ) → Made on t e n G p → p ≡ place 1 x y → Synth on t e n G y
  made_second x y (Made.own a) q = absurd (omega (arith, (place_same _ _ _ _ _ _ q).0))
  made_second x y (Made.join a b) q = subst (Synth on t e n G) (place_same _ _ _ _ _ _ q).2 b
  made_second x y (Made.encrypt a b) q = absurd (omega (arith, (place_same _ _ _ _ _ _ q).0))
  made_second x y (Made.aencrypt s c a b) q = absurd (omega (arith, (place_same _ _ _ _ _ _ q).0))

  -- no half is made
  made_half : (s : Side) (a : ℕ) {p : ℕ} → Made on t e n G p → ¬ (p ≡ half_place s a)
  made_half s a (Made.own b) q = omega (arith, (place_same _ _ _ _ _ _ q).0, side_range s)
  made_half s a (Made.join x y) q = form_not_half pairs s (sym (place_same _ _ _ _ _ _ q).0)
  made_half s a (Made.encrypt x y) q = form_not_half encs s (sym (place_same _ _ _ _ _ _ q).0)
  made_half s a (Made.aencrypt z c x y) q = form_not_half aencs s (sym (place_same _ _ _ _ _ _ q).0)

module _ (on : Setting) (t : ℕ → Term) (e : ℕ → Entry) (n : ℕ) (down : Downward e n) (built : (i : ℕ) → i < n → t i ≡ build t (e i)) (G : ℕ → Type 0) (closed : Closed on t n G) where
  -- an entry whose place can be put together is in G
  placed_gained : (p : ℕ) (o : OnSheet t e n p) → Synth on t e n G (bit p) → G o.0
  placed_gained p o s = synth_gained on t e n down built G closed o.0 o.1 (subst (Synth on t e n G) (sym (ap code (built o.0 o.1) ∙ place_code t (e o.0) p o.2)) s)

  -- the parts of a form, where it is off the sheet or the rule that takes it apart is met on the sheet
  taken : (f : Form) (x y : ℕ) → Synth on t e n G (bit (place (form_place f) x y))
      → ((i l r : ℕ) → i < n → l < n → r < n → G i → code (t r) ≡ y → t i ≈ form f (t l) (t r) → G l) → Synth on t e n G x
  taken f x y s rule = by_cases (on_sheet_decidable t e n (place (form_place f) x y)) found (λ h. made_first on t e n G f x y (synth_made on t e n down built G closed (place (form_place f) x y) h s) refl)
    where
      found : OnSheet t e n (place (form_place f) x y) → Synth on t e n G x
      found o = let (l, r, hl, hr, cl, cr, ei) = parts_at t e n down built f o.0 x y o.1 o.2 in
          subst (Synth on t e n G) cl
          (Synth.entry l hl (rule o.0 l r o.1 hl hr (placed_gained (place (form_place f) x y) o s) cr (by_code (ap code (form_term t e n built f o.0 l r o.1 ei)))))

  synth_first : on 1 ≡ true → (x y : ℕ) → Synth on t e n G (bit (place 1 x y)) → Synth on t e n G x
  synth_first o x y s = taken pairs x y s (λ i l r hi hl hr g c q. closed.first i l (t r) o hi hl g q)

  synth_second : on 2 ≡ true → (x y : ℕ) → Synth on t e n G (bit (place 1 x y)) → Synth on t e n G y
  synth_second o2 x y s = by_cases (on_sheet_decidable t e n (place 1 x y)) found (λ h. made_second on t e n G x y (synth_made on t e n down built G closed (place 1 x y) h s) refl)
    where
      found : OnSheet t e n (place 1 x y) → Synth on t e n G y
      found o = let (l, r, hl, hr, cl, cr, ei) = parts_at t e n down built pairs o.0 x y o.1 o.2 in
          subst (Synth on t e n G) cr
          (Synth.entry r hr (closed.second o.0 r (t l) o2 o.1 hr (placed_gained (place 1 x y) o s) (by_code (ap code (form_term t e n built pairs o.0 l r o.1 ei)))))

  synth_enc : on 3 ≡ true → (x y : ℕ) → Synth on t e n G (bit (place 2 x y)) → Synth on t e n G y → Synth on t e n G x
  synth_enc o x y s key =
      taken encs x y s (λ i m k hi hm hk g c q. closed.decrypt i m k o hi hm hk g (synth_gained on t e n down built G closed k hk (subst (Synth on t e n G) (sym c) key)) q)

  -- a half that can be put together is an entry of G: nothing invents a half
  half_gained : (s : Side) (a : ℕ) → Synth on t e n G (bit (half_place s a)) → (j : ℕ) × (j < n) × G j × (t j ≈ half s a)
  half_gained s a y = by_cases (on_sheet_decidable t e n (half_place s a)) found (λ h. absurd (made_half on t e n G s a (synth_made on t e n down built G closed (half_place s a) h y) refl))
    where
      found : OnSheet t e n (half_place s a) → (j : ℕ) × (j < n) × G j × (t j ≈ half s a)
      found o = (o.0, o.1, placed_gained (half_place s a) o y, by_code (ap code (built o.0 o.1) ∙ place_code t (e o.0) (half_place s a) o.2 ∙ sym (code_half s a)))

  synth_aenc : on 7 ≡ true → (x : ℕ) (s : Side) (a : ℕ) → Synth on t e n G (bit (place 6 x (bit (half_place s a)))) → Synth on t e n G (bit (half_place (opposite s) a)) → Synth on t e n G x
  synth_aenc o x s a l key =
      let (j, hj, gj, tj) = half_gained (opposite s) a key in
      taken aencs x (bit (half_place s a)) l
      (λ i m k hi hm hk g c q. closed.adecrypt i m j s a o hi hm hj g gj (then q (in_aenc same (by_code (c ∙ sym (code_half s a))))) tj)

  -- every term in the list has its code in Synth
  abbrev AllSynth : List Term → Type 0
  AllSynth g = (u : Term) → Memᴰ u g → Synth on t e n G (code u)

  held : {g : List Term} → AllSynth g → (u : Term) → Holds g u → Synth on t e n G (code u)
  held all u h = subst (Synth on t e n G) (same_code h.2) (all h.0 h.1)

  with_newest : {g : List Term} {a : Term} → Synth on t e n G (code a) → AllSynth g → AllSynth (a ∷ g)
  with_newest new all u m = ⊎_elim (λ q. subst (λ (x : Term). Synth on t e n G (code x)) (sym q) new) (all u) (Memᴰ.cases_cons m)

  sum_synth : on 6 ≡ true → (ts : List Term) → AllSynth ts → Synth on t e n G (code (sum_of ts))
  unfolding sum_of
  sum_synth o [] all = subst (Synth on t e n G) (sym code_zero) (Synth.none o)
  sum_synth o (u ∷ us) all = subst (Synth on t e n G) (sym (code_sum u (sum_of us))) (Synth.sum o (all u (Memᴰ.head refl)) (sum_synth o us (λ v m. all v (Memᴰ.tail m))))

  -- the code of a lock
  locked : (m : Term) (s : Side) (a : ℕ) → code (aenc m (half s a)) ≡ bit (place 6 (code m) (bit (half_place s a)))
  locked m s a = code_aenc m (half s a) ∙ ap (λ (x : ℕ). bit (place 6 (code m) x)) (code_half s a)

  derivation_synth : {start g : List Term} → AllSynth start → Derivation on start g → AllSynth g
  derivation_synth from begin = from
  derivation_synth from (first {a = a} {b = b} o d h) = let all = derivation_synth from d in
      with_newest (synth_first o (code a) (code b) (subst (Synth on t e n G) (code_pair a b) (held all (pair a b) h))) all
  derivation_synth from (second {a = a} {b = b} o d h) = let all = derivation_synth from d in
      with_newest (synth_second o (code a) (code b) (subst (Synth on t e n G) (code_pair a b) (held all (pair a b) h))) all
  derivation_synth from (decrypt {m = m} {k = k} o d h hk) = let all = derivation_synth from d in
      with_newest (synth_enc o (code m) (code k) (subst (Synth on t e n G) (code_enc m k) (held all (enc m k) h)) (held all k hk)) all
  derivation_synth from (join {a = a} {b = b} o d ha hb) = let all = derivation_synth from d in
      with_newest (subst (Synth on t e n G) (sym (code_pair a b)) (Synth.join o (held all a ha) (held all b hb))) all
  derivation_synth from (encrypt {m = m} {k = k} o d hm hk) = let all = derivation_synth from d in
      with_newest (subst (Synth on t e n G) (sym (code_enc m k)) (Synth.encrypt o (held all m hm) (held all k hk))) all
  derivation_synth from (sum ts o d h) = let all = derivation_synth from d in with_newest (sum_synth o ts (λ u m. held all u (h u m))) all
  derivation_synth from (adecrypt {m = m} {s = s} {a = a} o d h hk) = let all = derivation_synth from d in
      with_newest
      (synth_aenc o (code m) s a (subst (Synth on t e n G) (locked m s a) (held all (aenc m (half s a)) h)) (subst (Synth on t e n G) (code_half (opposite s) a) (held all (half (opposite s) a) hk))) all
  derivation_synth from (aencrypt {m = m} {s = s} {a = a} o d hm hk) = let all = derivation_synth from d in
      with_newest (subst (Synth on t e n G) (sym (locked m s a)) (Synth.aencrypt s a o (held all m hm) (subst (Synth on t e n G) (code_half s a) (held all (half s a) hk)))) all

  -- what a derivation from terms of Synth holds of the entries is in G
  pub derivation_gained : {start g : List Term} → ((u : Term) → Memᴰ u start → Synth on t e n G (code u)) → Derivation on start g → (i : ℕ) → i < n → Holds g (t i) → G i
  derivation_gained from d i h k = synth_gained on t e n down built G closed i h (held (derivation_synth from d) (t i) k)

  -- what it holds with places on the sheet alone is a sum of entries of G
  pub derivation_sums : {start g : List Term} → ((u : Term) → Memᴰ u start → Synth on t e n G (code u)) → Derivation on start g
      → (u : Term) → Holds g u → ((p : ℕ) → member (code u) p ≡ true → OnSheet t e n p) → Sums t n G (code u)
  derivation_sums from d u h here = synth_sums on t e n down built G closed here (held (derivation_synth from d) u h)

  -- a half that it holds is the term of an entry of G
  pub derivation_half : {start g : List Term} → ((u : Term) → Memᴰ u start → Synth on t e n G (code u)) → Derivation on start g
      → (s : Side) (a : ℕ) → Holds g (half s a) → (j : ℕ) × (j < n) × G j × (t j ≈ half s a)
  derivation_half from d s a h = half_gained s a (subst (Synth on t e n G) (code_half s a) (held (derivation_synth from d) (half s a) h))
