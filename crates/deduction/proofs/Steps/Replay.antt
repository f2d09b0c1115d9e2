-- Replays, over the terms of any entries.
-- Defined: `end_state`, the state that steps lead to.
-- Shown: a replay's end is `end_state`, which holds the first state and the gained heads; a replay from one state is one from any state that
-- holds as much; a replay that passes is a derivation, up to ≈; steps in a row that follow replay. Assumes nothing.
use mathlib.Core.Path.{◌≡◌, refl, sym, ap, subst}
use mathlib.Core.Bool.{Bool, true, false, cond}
use mathlib.Core.Logic.{◌↔◌, ◌⊎◌, inl, inr}
use mathlib.Core.List.Memᴰ
use mathlib.Core.List.{List, [], ◌∷◌, ◌++◌, map, Memᴰ}
use Prim.Native.Nat.{ℕ, zero, suc, ◌<◌}
use Rattle.bitset.specs.Set.{member}
use Rattle.deduction.specs.Term.{Term, ◌⊕◌, sum_of, ◌≈◌, in_aenc, same, flip, then}
use Rattle.deduction.specs.Setting.{Setting}
use Rattle.deduction.specs.Derivation.{Holds, Derivation, Derivable}
use Rattle.deduction.specs.Standard.{sum_of_set}
use Rattle.deduction.specs.Step.{Step, Drawn, Follows, Allowed}
use Rattle.deduction.specs.Replay.{Used, Right, Replays, done, next}
use Rattle.deduction.proofs.Steps.InOrder.{Made}
use Rattle.deduction.proofs.Steps.Held.{Keeps, Alike, held_same, held_newest, held_older, keeps_newest}

-- the terms of a set's members, as a list
set_list : (t : ℕ → Term) (P : Term → Type 0) (m u : ℕ) → ((j : ℕ) → member u j ≡ true → P (t j)) → (ts : List Term) × ((v : Term) → Memᴰ v ts → P v) × (sum_of ts ≡ sum_of_set t m u)
unfolding sum_of sum_of_set
set_list t P zero u f = ([], λ v m. absurd (Memᴰ.not-nil m), refl)
set_list t P (suc m) u f = go (member u m) refl (set_list t P m u f)
  where
    go : (b : Bool) → member u m ≡ b → (ts : List Term) × ((v : Term) → Memᴰ v ts → P v) × (sum_of ts ≡ sum_of_set t m u)
        → (ts : List Term) × ((v : Term) → Memᴰ v ts → P v) × (sum_of ts ≡ cond b (t m ⊕ sum_of_set t m u) (sum_of_set t m u))
    go true p (ts, h, q) = (t m ∷ ts, λ v i. elim (Memᴰ.cases_cons i) [ inl r ↦ subst P (sym r) (f m p) | inr r ↦ h v r ], ap (λ (x : Term). t m ⊕ x) q)
    go false p r = r

-- the gained heads' terms added to a state, the newest first
unfoldable pub end_state : (ℕ → Term) → List Term → List Step → List Term
end_state t g [] = g
end_state t g (s ∷ ss) = end_state t (t s.head ∷ g) ss

module _ (t : ℕ → Term) where
  -- the end holds the first state and the gained heads, and nothing else
  pub end_old : (g : List Term) (ss : List Step) → Keeps g (end_state t g ss)
  unfolding end_state
  end_old g [] u h = h
  end_old g (s ∷ ss) u h = end_old (t s.head ∷ g) ss u (held_older (t s.head) u h)

  pub end_new : (g : List Term) (ss : List Step) (s : Step) → Memᴰ s ss → Holds (end_state t g ss) (t s.head)
  unfolding end_state
  end_new g [] s m = absurd (Memᴰ.not-nil m)
  end_new g (r ∷ ss) s m =
      elim (Memᴰ.cases_cons m) [
        | inl p ↦ end_old (t r.head ∷ g) ss (t s.head) (subst (λ (x : Step). Holds (t r.head ∷ g) (t x.head)) (sym p) (held_newest (t r.head)))
        | inr q ↦ end_new (t r.head ∷ g) ss s q
      ]

  pub end_cases : (g : List Term) (ss : List Step) (u : Term) → Holds (end_state t g ss) u → Holds g u ⊎ ((s : Step) × Memᴰ s ss × (t s.head ≈ u))
  unfolding end_state
  end_cases g [] u h = inl h
  end_cases g (s ∷ ss) u h = go (end_cases (t s.head ∷ g) ss u h)
    where
      go : Holds (t s.head ∷ g) u ⊎ ((r : Step) × Memᴰ r ss × (t r.head ≈ u)) → Holds g u ⊎ ((r : Step) × Memᴰ r (s ∷ ss) × (t r.head ≈ u))
      go (inl (v, m, q)) =
          elim (Memᴰ.cases_cons m) [ inl p ↦ inr (s, Memᴰ.head refl, subst (λ (x : Term). x ≈ u) p q) | inr i ↦ inl (v, i, q) ]
      go (inr (r, m, q)) = inr (r, Memᴰ.tail m, q)

  pub end_kept : {g h : List Term} (ss : List Step) → Keeps g h → Keeps (end_state t g ss) (end_state t h ss)
  unfolding end_state
  end_kept [] f = f
  end_kept {g = g} {h = h} (s ∷ ss) f = end_kept {g = t s.head ∷ g} {h = t s.head ∷ h} ss (keeps_newest (t s.head) (t s.head) same f)

  -- from the terms of entries: exactly their terms and those of the gained heads
  pub end_exact : (es : List ℕ) (ss : List Step) (u : Term) → Holds (end_state t (map t es) ss) u ↔ ((i : ℕ) × Memᴰ i (es ++ map (λ (s : Step). s.head) ss) × (t i ≈ u))
  end_exact es ss u = (λ h. to (end_cases (map t es) ss u h), λ (i, m, q). held_same (from i (Memᴰ.append_cases es m)) q)
    where
      heads : List ℕ
      heads = map (λ (s : Step). s.head) ss

      to : Holds (map t es) u ⊎ ((s : Step) × Memᴰ s ss × (t s.head ≈ u)) → (i : ℕ) × Memᴰ i (es ++ heads) × (t i ≈ u)
      to (inl (v, m, q)) = let (i, c, p) = Memᴰ.of_map t es m in (i, Memᴰ.append_left heads c, subst (λ (x : Term). x ≈ u) (sym p) q)
      to (inr (s, m, q)) = (s.head, Memᴰ.append_right es (Memᴰ.map (λ (r : Step). r.head) m), q)

      from : (i : ℕ) → Memᴰ i es ⊎ Memᴰ i heads → Holds (end_state t (map t es) ss) (t i)
      from i (inl m) = end_old (map t es) ss (t i) (t i, Memᴰ.map t m, same)
      from i (inr m) = let (s, c, p) = Memᴰ.of_map (λ (r : Step). r.head) ss m in subst (λ (j : ℕ). Holds (end_state t (map t es) ss) (t j)) p (end_new (map t es) ss s c)

  module _ (n : ℕ) where
    pub replays_end : {on : Setting} {g a : List Term} {ss : List Step} → Replays on t n g ss a → a ≡ end_state t g ss
    unfolding end_state
    replays_end done = refl
    replays_end (next w r rs) = replays_end rs

    -- a step that is right stays right at a state that holds as much
    used_kept : {g h : List Term} → Keeps g h → (i : ℕ) → Used t n g i → Used t n h i
    used_kept f i (l, p) = (l, f (t i) p)

    right_kept : {g h : List Term} {s : Step} → Keeps g h → Right t n g s → Right t n h s
    right_kept f (Right.first {i = i} b l p q) = Right.first b l (used_kept f i p) q
    right_kept f (Right.second {i = i} a l p q) = Right.second a l (used_kept f i p) q
    right_kept f (Right.decrypt {i = i} {j = j} l p c q) = Right.decrypt l (used_kept f i p) (used_kept f j c) q
    right_kept f (Right.join {i = i} {j = j} l p c q) = Right.join l (used_kept f i p) (used_kept f j c) q
    right_kept f (Right.encrypt {i = i} {j = j} l p c q) = Right.encrypt l (used_kept f i p) (used_kept f j c) q
    right_kept f (Right.sum l p q) = Right.sum l (λ j m. used_kept f j (p j m)) q
    right_kept f (Right.adecrypt {i = i} {j = j} s a l p c q r) = Right.adecrypt s a l (used_kept f i p) (used_kept f j c) q r
    right_kept f (Right.aencrypt {i = i} {j = j} s a l p c q r) = Right.aencrypt s a l (used_kept f i p) (used_kept f j c) q r

    pub replays_kept : {on : Setting} {g h a : List Term} {ss : List Step} → Keeps g h → Replays on t n g ss a → Replays on t n h ss (end_state t h ss)
    unfolding end_state
    replays_kept f done = done
    replays_kept f (next {s = s} w r rs) = next w (right_kept f r) (replays_kept (keeps_newest (t s.head) (t s.head) same f) rs)

    -- a right step extends a derivation that holds the state
    right_derives : {on : Setting} {start d g : List Term} {s : Step} → Derivation on start d → Keeps g d → Allowed on s → Right t n g s → (a : Term) × Derivation on start (a ∷ d) × (a ≈ t s.head)
    right_derives d f w (Right.first b l p q) = (_, Derivation.first w d (held_same (f _ p.1) q), same)
    right_derives d f w (Right.second a l p q) = (_, Derivation.second w d (held_same (f _ p.1) q), same)
    right_derives d f w (Right.decrypt l p c q) = (_, Derivation.decrypt w d (held_same (f _ p.1) q) (f _ c.1), same)
    right_derives d f w (Right.join l p c q) = (_, Derivation.join w d (f _ p.1) (f _ c.1), flip q)
    right_derives d f w (Right.encrypt l p c q) = (_, Derivation.encrypt w d (f _ p.1) (f _ c.1), flip q)
    right_derives {d = held} d f w (Right.sum {h = h} {u = u} l p q) =
        let (ts, k, r) = set_list t (Holds held) n u (λ j m. f (t j) (p j m).1) in
        (sum_of ts, Derivation.sum ts w d k, subst (λ (x : Term). x ≈ t h) (sym r) (flip q))
    right_derives d f w (Right.adecrypt s a l p c q r) = (_, Derivation.adecrypt w d (held_same (f _ p.1) q) (held_same (f _ c.1) r), same)
    right_derives d f w (Right.aencrypt s a l p c q r) = (_, Derivation.aencrypt w d (f _ p.1) (held_same (f _ c.1) r), then (in_aenc same (flip r)) (flip q))

    replay_extends : {on : Setting} {start d g a : List Term} {ss : List Step} → Derivation on start d → Alike d g → Replays on t n g ss a → (b : List Term) × Derivation on start b × Alike b a
    replay_extends {d = held} d f done = (held, d, f)
    replay_extends {d = held} d f (next {s = s} w r rs) =
        let (a, c, q) = right_derives d (λ u. (f u).1) w r in
        replay_extends {d = a ∷ held} c (λ u. (keeps_newest a (t s.head) q (λ v. (f v).0) u, keeps_newest (t s.head) a (flip q) (λ v. (f v).1) u)) rs

    -- a replay that passes is a derivation
    pub replay_derivation : {on : Setting} {start a : List Term} {ss : List Step} → Replays on t n start ss a → (g : List Term) × Derivation on start g × Alike g a
    replay_derivation r = replay_extends Derivation.begin (λ u. (λ h. h, λ h. h)) r

    pub replay_derivable : {on : Setting} {start a : List Term} {ss : List Step} → Replays on t n start ss a → (u : Term) → Holds a u → Derivable on start u
    replay_derivable r u h = let (g, d, f) = replay_derivation r in (g, d, (f u).1 h)

    -- steps in a row that follow replay from any state that holds the terms of the known entries
    follows_right : {es : List ℕ} {g : List Term} {s : Step} → ((i : ℕ) → Memᴰ i es → Used t n g i) → Follows t n es s → Right t n g s × (s.head < n)
    follows_right f (Follows.first {i = i} b o m q) = (Right.first b o.0.0 (f i m) q, o.0.0)
    follows_right f (Follows.second {i = i} a o m q) = (Right.second a o.0.0 (f i m) q, o.0.0)
    follows_right f (Follows.decrypt {i = i} {j = j} o m c q) = (Right.decrypt o.0.0 (f i m) (f j c) q, o.0.0)
    follows_right f (Follows.join {i = i} {j = j} o m c q) = (Right.join o.0.0 (f i m) (f j c) q, o.0.0)
    follows_right f (Follows.encrypt {i = i} {j = j} o m c q) = (Right.encrypt o.0.0 (f i m) (f j c) q, o.0.0)
    follows_right {es} f (Follows.sum u o d q) = (Right.sum o.0.0 (λ j m. f j (drawn j (d j m))) q, o.0.0)
      where
        drawn : (j : ℕ) → Drawn t n es j → Memᴰ j es
        drawn j x = subst (λ (l : List ℕ). Memᴰ j l) (sym x.2) (Memᴰ.append_right x.0 (Memᴰ.head refl))
    follows_right f (Follows.adecrypt {i = i} {j = j} s a o m c q r) = (Right.adecrypt s a o.0.0 (f i m) (f j c) q r, o.0.0)
    follows_right f (Follows.aencrypt {i = i} {j = j} s a o m c q r) = (Right.aencrypt s a o.0.0 (f i m) (f j c) q r, o.0.0)

    pub made_replays_from : {on : Setting} {es : List ℕ} {ss : List Step} (g : List Term) → ((i : ℕ) → Memᴰ i es → Used t n g i) → Made on t n es ss → Replays on t n g ss (end_state t g ss)
    unfolding end_state
    made_replays_from g f Made.none = done
    made_replays_from {es = es} g f (Made.more {s = s} x xs) = next x.0.0 r.0 (made_replays_from (t s.head ∷ g) more xs)
      where
        r : Right t n g s × (s.head < n)
        r = follows_right f x.0.1

        more : (i : ℕ) → Memᴰ i (es ++ (s.head ∷ [])) → Used t n (t s.head ∷ g) i
        more i m =
            elim (Memᴰ.append_cases es m) [
              | inl c ↦ used_kept (held_older (t s.head)) i (f i c)
              | inr c ↦ subst (Used t n (t s.head ∷ g)) (sym (Memᴰ.eq_of_singleton c)) (r.1, held_newest (t s.head))
            ]
