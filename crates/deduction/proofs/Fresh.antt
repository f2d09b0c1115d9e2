-- Atoms of the intruder's own making (document 02, E14: "inventing doesn't help a stranger").
-- Shown: `occurs_entry`, an atom that occurs in an entry is itself an entry; `fresh_record`, `fresh_term`, so an atom is fresh exactly when no entry is it, and exactly
-- when no entry's term is the same; `beside_more`, more at the start loses nothing; `fresh_same`, from any start of entries the same entries are derivable with fresh atoms as without, in every setting;
-- `fresh_underivable`, so an entry that isn't derivable stays so; `beside_same`, the same where some of the atoms stand at the start already. Assumes nothing.
use mathlib.Core.Path.{◌≡◌, refl, sym, ap, ◌∙◌, subst}
use mathlib.Core.Logic.{◌↔◌, ◌⊎◌, inl, inr, by_cases}
use mathlib.Core.List.Memᴰ
use mathlib.Core.List.{List, [], ◌∷◌, map, Memᴰ}
use Prim.Native.Nat.{ℕ, zero, suc, ◌≤◌, ◌<◌}
use native.Mathlib.Omega.{arith}
use Rattle.bitset.specs.Set.{member}
use Rattle.deduction.specs.Term.{Term, atom, sum_of, ◌≈◌, same}
use Rattle.deduction.specs.Setting.{Setting}
use Rattle.deduction.specs.Derivation.{Derivable}
use Rattle.deduction.specs.Entry.{Entry, Zero, Atom, Pair, Enc, Sum, Half, Aenc, build, term_at, parts, Downward}
use Rattle.deduction.specs.Fresh.{Occurs, Fresh, start_with}
use Rattle.deduction.proofs.Coding.{bit_own, place, code, code_atom, same_code}
use Rattle.deduction.proofs.Terms.{term_at_build, atom_term}
use Rattle.deduction.proofs.Exactness.{exactness_from, start_made, reach_closed, reach_derivable}
use Rattle.deduction.proofs.Exactness.Within.{Reach}
use Rattle.deduction.proofs.Exactness.Places.{PlaceOf, OnSheet, on_sheet_decidable, entry_places, atom_at}
use Rattle.deduction.proofs.Exactness.Synthesis.{Synth}
use Rattle.deduction.proofs.Steps.Held.{derivable_kept}

-- an atom in a sum is in one of its items
occurs_item : (a : ℕ) (ts : List Term) → Occurs a (sum_of ts) → (u : Term) × Memᴰ u ts × Occurs a u
unfolding sum_of
occurs_item a [] h = absurd h
occurs_item a (t ∷ ts) (inl h) = (t, Memᴰ.head refl, h)
occurs_item a (t ∷ ts) (inr h) = let (u, m, r) = occurs_item a ts h in (u, Memᴰ.tail m, r)

-- an atom in an entry's term is the entry itself or in the term of one of its parts
occurs_part : (t : ℕ → Term) (a : ℕ) (d : Entry) → Occurs a (build t d) → (d ≡ Atom a) ⊎ ((j : ℕ) × Memᴰ j (parts d) × Occurs a (t j))
unfolding build parts
occurs_part t a Zero h = absurd h
occurs_part t a (Atom b) h = inl (ap Atom (sym h))
occurs_part t a (Pair l r) (inl h) = inr (l, Memᴰ.head refl, h)
occurs_part t a (Pair l r) (inr h) = inr (r, Memᴰ.tail (Memᴰ.head refl), h)
occurs_part t a (Enc m k) (inl h) = inr (m, Memᴰ.head refl, h)
occurs_part t a (Enc m k) (inr h) = inr (k, Memᴰ.tail (Memᴰ.head refl), h)
occurs_part t a (Sum items) h =
    let (u, m, r) = occurs_item a (map t items) h in
    let (j, q, s) = Memᴰ.of_map t items m in
    inr (j, q, subst (Occurs a) (sym s) r)
occurs_part t a (Half s b) h = absurd h
occurs_part t a (Aenc m k) (inl h) = inr (m, Memᴰ.head refl, h)
occurs_part t a (Aenc m k) (inr h) = inr (k, Memᴰ.tail (Memᴰ.head refl), h)

module _ (e : ℕ → Entry) (n : ℕ) (down : Downward e n) where
  occurs_below : (b i : ℕ) → i < b → i < n → (a : ℕ) → Occurs a (term_at e i) → (j : ℕ) × (j ≤ i) × (e j ≡ Atom a)
  occurs_below zero i l h a o = absurd (omega arith)
  occurs_below (suc b) i l h a o = go (occurs_below b) (occurs_part (term_at e) a (e i) (subst (Occurs a) (term_at_build e n down i h) o))
    where
      go : ((j : ℕ) → j < b → j < n → (c : ℕ) → Occurs c (term_at e j) → (k : ℕ) × (k ≤ j) × (e k ≡ Atom c))
          → (e i ≡ Atom a) ⊎ ((j : ℕ) × Memᴰ j (parts (e i)) × Occurs a (term_at e j)) → (j : ℕ) × (j ≤ i) × (e j ≡ Atom a)
      go below (inl q) = (i, omega arith, q)
      go below (inr (j, m, r)) =
          let lower : j < i = down i j h m in let (k, s, q) = below j (omega arith) (omega arith) a r in (k, omega (arith, s, lower), q)

  -- records name entries: an atom that occurs in an entry is that entry or one before it
  pub occurs_entry : (i : ℕ) → i < n → (a : ℕ) → Occurs a (term_at e i) → (j : ℕ) × (j ≤ i) × (e j ≡ Atom a)
  occurs_entry i h a o = occurs_below (suc i) i (omega arith) h a o

  -- fresh exactly when no record is the atom
  pub fresh_record : (a : ℕ) → Fresh e n a ↔ ((i : ℕ) → i < n → ¬ (e i ≡ Atom a))
  fresh_record a = (
    λ f i h q. f i h (subst (Occurs a) (sym (atom_term e i a q)) refl),
    λ f i h o. let (j, l, q) = occurs_entry i h a o in f j (omega (arith, l)) q,
  )

  -- an atom is fresh or an entry
  pub fresh_or_entry : (a : ℕ) → Fresh e n a ⊎ ((i : ℕ) × (i < n) × (e i ≡ Atom a))
  fresh_or_entry a =
      by_cases (on_sheet_decidable (term_at e) e n (place 0 a 0)) (λ (i, h, p). inr (i, h, atom_at (term_at e) a (e i) p))
      (λ f. inl ((fresh_record a).1 (λ i h q. f (i, h, subst (λ (d : Entry). PlaceOf (term_at e) d (place 0 a 0)) (sym q) refl))))

  -- the place of a fresh atom isn't on the sheet
  fresh_off : (a : ℕ) → Fresh e n a → ¬ OnSheet (term_at e) e n (place 0 a 0)
  fresh_off a f (i, h, p) = (fresh_record a).0 f i h (atom_at (term_at e) a (e i) p)

  -- fresh exactly when no entry is the same term
  pub fresh_term : (a : ℕ) → Fresh e n a ↔ ((i : ℕ) → i < n → ¬ (term_at e i ≈ atom a))
  fresh_term a = (
    λ f i h q. fresh_off a f (entry_places (term_at e) e n down (term_at_build e n down) i h (place 0 a 0) (ap (λ (x : ℕ). member x (place 0 a 0)) (same_code q ∙ code_atom a) ∙ bit_own (place 0 a 0))),
    λ f. (fresh_record a).1 (λ i h q. f i h (subst (λ (u : Term). u ≈ atom a) (sym (atom_term e i a q)) same)),
  )

  -- whatever stands beside the start, what is derivable without is derivable with it
  pub beside_more : (on : Setting) (start atoms : List ℕ) (u : Term) → Derivable on (map (term_at e) start) u → Derivable on (start_with e start atoms) u
  beside_more on start atoms = derivable_kept (λ u (v, m, q). (v, Memᴰ.append_left _ m, q))

  -- what stands at the start, or beside it as a fresh atom, can be put together from any set of entries that has the start
  module _ (on : Setting) (G : ℕ → Type 0) (start : List ℕ) (from : (i : ℕ) → Memᴰ i start → (i < n) × G i) where
    own_made : (a : ℕ) → Fresh e n a ⊎ Memᴰ (atom a) (map (term_at e) start) → Synth on (term_at e) e n G (code (atom a))
    own_made a (inl f) = subst (Synth on (term_at e) e n G) (sym (code_atom a)) (Synth.own a (fresh_off a f))
    own_made a (inr m) = start_made on e n G start from (atom a) m

    beside_made : (atoms : List ℕ) → ((a : ℕ) → Memᴰ a atoms → Fresh e n a ⊎ Memᴰ (atom a) (map (term_at e) start))
        → (u : Term) → Memᴰ u (start_with e start atoms) → Synth on (term_at e) e n G (code u)
    beside_made atoms beside u m =
        elim (Memᴰ.append_cases (map (term_at e) start) m) [
          | inl r ↦ start_made on e n G start from u r
          | inr r ↦ let (a, i, q) = Memᴰ.of_map _ atoms r in subst (λ (x : Term). Synth on (term_at e) e n G (code x)) q (own_made a (beside a i))
        ]

  module _ (on : Setting) (start : List ℕ) (low : (i : ℕ) → Memᴰ i start → i < n) (atoms : List ℕ) where
    -- "public numbers included": atoms beside the start, each fresh or at the start already
    pub beside_same : ((a : ℕ) → Memᴰ a atoms → Fresh e n a ⊎ Memᴰ (atom a) (map (term_at e) start))
        → (i : ℕ) → i < n → Derivable on (start_with e start atoms) (term_at e i) ↔ Derivable on (map (term_at e) start) (term_at e i)
    beside_same beside i h = (
      λ (g, d, k).
          reach_derivable on (term_at e) n start i
          (exactness_from on e n down (Reach on (term_at e) n start) (reach_closed on (term_at e) n start) (start_with e start atoms)
          (beside_made on (Reach on (term_at e) n start) start (λ j m. (low j m, Reach.begin m)) atoms beside) g d i h k),
      beside_more on start atoms (term_at e i),
    )

    module _ (fresh : (a : ℕ) → Memᴰ a atoms → Fresh e n a) where
      -- with fresh atoms the same entries are derivable as without
      pub fresh_same : (i : ℕ) → i < n → Derivable on (start_with e start atoms) (term_at e i) ↔ Derivable on (map (term_at e) start) (term_at e i)
      fresh_same = beside_same (λ a m. inl (fresh a m))

      -- "a goal out of reach stays so when the stranger also starts with any finite set of atoms that occur in no entry of the sheet"
      pub fresh_underivable : (i : ℕ) → i < n → ¬ Derivable on (map (term_at e) start) (term_at e i) → ¬ Derivable on (start_with e start atoms) (term_at e i)
      fresh_underivable i h out d = out ((fresh_same i h).0 d)
