-- What a reader may conclude of the start.
-- Shown: `atom_head`, an atom's head is the same atom; `public_every`, the head of every public atom on the sheet is listed; `public_only`, nothing else
-- is; `public_rising`, in rising entry order, so none twice; `public_number`, the whole number decides, in a short record and a long one; `half_not_public`, a half is never listed; `public_start`, `public_gained`, at every cut its head and its term are gained at the
-- start; `start_without`, a sheet without public atoms starts from its heard messages alone. Assumes nothing.
use mathlib.Core.Path.{◌≡◌, refl, sym, ap, ap₂, ◌∙◌, subst}
use mathlib.Core.Bool.{Bool, true, false, true≢false, ◌&&◌, cond}
use mathlib.Core.List.Memᴰ
use mathlib.Core.List.{List, [], ◌∷◌, ◌++◌, map, append-nil, Memᴰ}
use mathlib.Core.Logic.{⊎_elim, by_cases}
use Prim.Native.Nat.{ℕ, zero, suc, ◌<◌}
use native.Mathlib.Decide.{dec_lt}
use native.Mathlib.Omega.{arith}
use borrow.Author.Tests.{eqb-true, eq-eqb, lt-ltb}
use lib.Dec.{eqb, ltb}
use lib.ListN.{length, get_or, length-append, get_or-append}
use lib.Seq.{get_or-append_seam}
use Rattle.deduction.specs.Term.{Side, Term, atom}
use Rattle.deduction.specs.Entry.{Entry, Zero, Atom, Pair, Enc, Sum, Half, Aenc, Downward, term_at}
use Rattle.deduction.specs.Standard.{Shape, shape, set_at, rep_at}
use Rattle.deduction.proofs.Terms.{atom_term}
use Rattle.deduction.proofs.Standard.{rep_le, rep_rep}
use Rattle.deduction.proofs.Standard.First.{both_true, shape_at, half_range, first_shape}
use Rattle.deduction.proofs.Standard.Members.{rep_first}
use Rattle.dag.specs.Sheet.{count_of, trace_of}
use Rattle.dag.specs.Record.{kind_of, atom_of, decode, entry_at}
use Rattle.dag.specs.Refusal.{refusal}
use Rattle.dag.proofs.Laws.Good.{good}
use Rattle.dag.proofs.Atoms.{kind_atom}
use Rattle.start.proofs.Laws.Lists.{get_d_member}
use Rattle.start.specs.Start.{is_public, public_heads, start_entries, start_heads, start_terms}

-- the shape of an atom names it
shape_atom : (s : ℕ → ℕ) (d : Entry) → (shape s d).kind ≡ 1 → d ≡ Atom (shape s d).left
unfolding shape
shape_atom s Zero p = absurd (omega (arith, p))
shape_atom s (Atom a) p = refl
shape_atom s (Pair l r) p = absurd (omega (arith, p))
shape_atom s (Enc m k) p = absurd (omega (arith, p))
shape_atom s (Sum items) p = absurd (omega (arith, p))
shape_atom s (Half x a) p = absurd (omega (arith, p, half_range x))
shape_atom s (Aenc m k) p = absurd (omega (arith, p))

-- a list that rises, and a number above all of it
rising_more : (es : List ℕ) (n : ℕ) → ((i : ℕ) → Memᴰ i es → i < n) → ((k l : ℕ) → k < l → l < length es → get_or es k 0 < get_or es l 0)
    → (k l : ℕ) → k < l → l < length (es ++ (n ∷ [])) → get_or (es ++ (n ∷ [])) k 0 < get_or (es ++ (n ∷ [])) l 0
rising_more es n below rising k l h g = by_cases (dec_lt l (length es)) inner (λ r. at_end (end r))
  where
    inner : l < length es → get_or (es ++ (n ∷ [])) k 0 < get_or (es ++ (n ∷ [])) l 0
    inner r = omega (arith, rising k l h r, get_or-append es (n ∷ []) 0 l r, get_or-append es (n ∷ []) 0 k (omega arith))

    end : ¬ (l < length es) → l ≡ length es
    end r = omega (arith, length-append es (n ∷ []))

    at_end : l ≡ length es → get_or (es ++ (n ∷ [])) k 0 < get_or (es ++ (n ∷ [])) l 0
    at_end p =
        let before = below (get_or es k 0) (get_d_member es k 0 (omega arith)) in
        let last = ap (λ (x : ℕ). get_or (es ++ (n ∷ [])) x 0) p ∙ get_or-append_seam es n [] 0 in
        omega (arith, before, last, get_or-append es (n ∷ []) 0 k (omega arith))

module _ (e : ℕ → Entry) where
  -- an atom's head is the same atom
  pub atom_head : (n : ℕ) → Downward e n → (i a : ℕ) → i < n → e i ≡ Atom a → e (rep_at e i) ≡ Atom a
  unfolding shape
  atom_head n down i a h p = shape_atom (set_at e) (e (rep_at e i)) (ap (λ (x : Shape). x.kind) like) ∙ ap (λ (x : Shape). Atom x.left) like
    where
      at : shape_at e i ≡ record { kind = 1; left = a; right = 0 }
      at = ap (shape (set_at e)) p

      plain : ¬ ((shape_at e i).kind ≡ 0)
      plain q = omega (arith, ap (λ (x : Shape). x.kind) at)

      like : shape_at e (rep_at e i) ≡ record { kind = 1; left = a; right = 0 }
      like = ap (shape_at e) (rep_first e n down i h plain) ∙ first_shape e i ∙ at

  -- a listed entry is a public atom, its own head, and an entry of the sheet
  pub public_only : (n i : ℕ) → Memᴰ i (public_heads e n) → (i < n) × (is_public (e i) ≡ true) × (rep_at e i ≡ i)
  unfolding public_heads
  public_only zero i m = absurd (Memᴰ.not-nil m)
  public_only (suc n) i m =
      ⊎_elim (λ q. let r = public_only n i q in (omega (arith, r.0), r.1, r.2)) (last (is_public (e n) && eqb (rep_at e n) n) refl) (Memᴰ.append_cases (public_heads e n) m)
    where
      last : (b : Bool) → (is_public (e n) && eqb (rep_at e n) n) ≡ b → Memᴰ i (cond b (n ∷ []) []) → (i < suc n) × (is_public (e i) ≡ true) × (rep_at e i ≡ i)
      last false p q = absurd (Memᴰ.not-nil q)
      last true p q =
          let own = Memᴰ.eq_of_singleton q in
          let r = both_true (is_public (e n)) (eqb (rep_at e n) n) p in
          subst (λ (x : ℕ). (x < suc n) × (is_public (e x) ≡ true) × (rep_at e x ≡ x)) (sym own) (omega arith, r.0, eqb-true (rep_at e n) n r.1)

  listed_head : (n i : ℕ) → i < n → is_public (e i) ≡ true → rep_at e i ≡ i → Memᴰ i (public_heads e n)
  unfolding public_heads
  listed_head zero i h p q = absurd (omega arith)
  listed_head (suc n) i h p q =
      by_cases (dec_lt i n) (λ l. Memᴰ.append_left (cond (is_public (e n) && eqb (rep_at e n) n) (n ∷ []) []) (listed_head n i l p q))
      (λ l. Memᴰ.append_right (public_heads e n) (last (equal l)))
    where
      equal : ¬ (i < n) → i ≡ n
      equal l = omega arith

      last : i ≡ n → Memᴰ i (cond (is_public (e n) && eqb (rep_at e n) n) (n ∷ []) [])
      last r =
          subst (λ (b : Bool). Memᴰ i (cond b (n ∷ []) []))
          (sym (ap (λ (x : ℕ). is_public (e x) && eqb (rep_at e x) x) (sym r) ∙ ap (λ (b : Bool). b && eqb (rep_at e i) i) p ∙ eq-eqb (rep_at e i) i q))
          (Memᴰ.head r)

  -- so the head of every public atom is listed
  pub public_every : (n : ℕ) → Downward e n → (i a : ℕ) → i < n → e i ≡ Atom a → a < 256 → Memᴰ (rep_at e i) (public_heads e n)
  unfolding is_public
  public_every n down i a h p l = listed_head n (rep_at e i) (omega (arith, rep_le e i)) (ap is_public (atom_head n down i a h p) ∙ lt-ltb a 256 l) (rep_rep e i)

  -- where no entry is a public atom, none is listed
  public_none : (n : ℕ) → ((i : ℕ) → i < n → is_public (e i) ≡ false) → public_heads e n ≡ []
  unfolding public_heads
  public_none zero h = refl
  public_none (suc n) h =
      ap (λ (b : Bool). public_heads e n ++ cond (b && eqb (rep_at e n) n) (n ∷ []) []) (h n (omega arith)) ∙ append-nil (public_heads e n) ∙ public_none n (λ i l. h i (omega arith))

  -- each is its own head
  pub public_own : (n : ℕ) → map (rep_at e) (public_heads e n) ≡ public_heads e n
  public_own n = go (public_heads e n) (λ i m. (public_only n i m).2)
    where
      go : (es : List ℕ) → ((i : ℕ) → Memᴰ i es → rep_at e i ≡ i) → map (rep_at e) es ≡ es
      go [] h = refl
      go (i ∷ es) h = ap₂ ◌∷◌ (h i (Memᴰ.head refl)) (go es (λ j m. h j (Memᴰ.tail m)))

  -- "in rising entry order"
  pub public_rising : (n k l : ℕ) → k < l → l < length (public_heads e n) → get_or (public_heads e n) k 0 < get_or (public_heads e n) l 0
  unfolding public_heads
  public_rising zero k l h g = absurd (omega arith)
  public_rising (suc n) k l h g = last (public_rising n) (is_public (e n) && eqb (rep_at e n) n) g
    where
      last : ((a b : ℕ) → a < b → b < length (public_heads e n) → get_or (public_heads e n) a 0 < get_or (public_heads e n) b 0) → (b : Bool) → l < length (public_heads e n ++ cond b (n ∷ []) []) → get_or (public_heads e n ++ cond b (n ∷ []) []) k 0 < get_or (public_heads e n ++ cond b (n ∷ []) []) l 0
      last rising true q = rising_more (public_heads e n) n (λ i m. (public_only n i m).0) rising k l h q
      last rising false q =
          subst (λ (es : List ℕ). get_or es k 0 < get_or es l 0) (sym (append-nil (public_heads e n)))
          (rising k l h (subst (λ (es : List ℕ). l < length es) (append-nil (public_heads e n)) q))

-- whatever the length of its record, an atom is public exactly when its whole number is below 256
pub public_number : (r : List ℕ) → kind_of r ≡ 1 → is_public (decode r) ≡ ltb (atom_of r) 256
unfolding is_public
public_number r p = ap is_public (kind_atom r p)

-- "neither is public knowledge": a half is never listed, whatever its number
pub half_not_public : (e : ℕ → Entry) (n i : ℕ) (s : Side) (a : ℕ) → e i ≡ Half s a → ¬ (Memᴰ i (public_heads e n))
unfolding is_public
half_not_public e n i s a p m = true≢false (sym (public_only e n i m).1 ∙ ap is_public p)

module _ (s : List ℕ) (ok : refusal s ≡ 0) where
  -- "A stranger knows them without listening": at every cut, 0 too, its head is gained
  pub public_start : (cut i a : ℕ) → i < count_of s → entry_at s i ≡ Atom a → a < 256 → Memᴰ (rep_at (entry_at s) i) (start_heads s cut)
  public_start cut i a h p l =
      Memᴰ.cast (sym (rep_rep (entry_at s) i))
      (Memᴰ.map (rep_at (entry_at s)) (Memᴰ.append_left (trace_of s cut) (public_every (entry_at s) (count_of s) (good s ok).downward i a h p l)))

  -- and the atom is among the terms from which reach is measured
  pub public_gained : (cut i a : ℕ) → i < count_of s → entry_at s i ≡ Atom a → a < 256 → Memᴰ (atom a) (start_terms s cut)
  public_gained cut i a h p l =
      subst (λ (t : Term). Memᴰ t (start_terms s cut)) (atom_term (entry_at s) (rep_at (entry_at s) i) a (atom_head (entry_at s) (count_of s) (good s ok).downward i a h p))
      (Memᴰ.map (term_at (entry_at s)) (Memᴰ.append_left (trace_of s cut) (public_every (entry_at s) (count_of s) (good s ok).downward i a h p l)))

-- a sheet without public atoms starts as it did before document 02
pub start_without : (s : List ℕ) (cut : ℕ) → ((i : ℕ) → i < count_of s → is_public (entry_at s i) ≡ false) → start_entries s cut ≡ trace_of s cut
start_without s cut h = ap (λ (l : List ℕ). l ++ trace_of s cut) (public_none (entry_at s) (count_of s) h)
