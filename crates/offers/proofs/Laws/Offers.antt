-- The offers after one more head is known.
-- Shown: where an offer comes from; offers that stay, `gives_stay`, `built_stay`; offers that are the same, `line_same`; `covers_learn`, the offers of the
-- head learnt and of its users are all that are new. Assumes nothing.
use mathlib.Core.Path.{◌≡◌, refl, sym, ap, ap₂, ◌∙◌, subst}
use mathlib.Core.Bool.{Bool, true, false, true≢false, cond, ◌&&◌, ◌||◌, or-false}
use mathlib.Core.Logic.{◌⊎◌, inl, inr}
use mathlib.Core.List.Memᴰ
use mathlib.Core.List.{List, [], ◌++◌, Memᴰ}
use Prim.Native.Nat.{ℕ, zero, suc, ◌/◌, ◌≤◌, ◌<◌}
use native.Mathlib.Omega.{arith}
use lib.Dec.{eqb, ltb}
use borrow.Author.Tests.{ltb-true, lt-ltb, eqb-true, eqb-false, eq-eqb, ne_eqb}
use Rattle.bitset.specs.Set.{member, insert}
use Rattle.bitset.proofs.Laws.Member.{member_insert}
use Rattle.deduction.specs.Setting.{Setting}
use Rattle.deduction.specs.Entry.{Entry, Zero, Atom, Pair, Enc, Sum, Half, Aenc, parts, Downward}
use Rattle.deduction.specs.Standard.{rep_at}
use Rattle.deduction.specs.Run.{opener, any_half, by_rule, built}
use Rattle.deduction.proofs.Standard.{rep_le}
use Rattle.deduction.proofs.Standard.First.{both_true}
use Rattle.deduction.proofs.Steps.Numbers.{number_head, chosen, choose, choose_not}
use Rattle.deduction.proofs.Steps.Found.{only_if, ruled_as}
use Rattle.offers.specs.Inner.Offers.{gives, line_offers, head_offers, plain_offers, lists_of, is_head}
use Rattle.offers.specs.Inner.Users.{uses, UsersOf}
use Rattle.offers.specs.Inner.Table.{Covers}
use Rattle.offers.proofs.Laws.Table.{same_or}

-- an offer is one of a head among the first m entries
pub from_plain : (on : Setting) (e : ℕ → Entry) (n g m : ℕ) {y : ℕ} → Memᴰ y (plain_offers on e n g m) → (i : ℕ) × (i < m) × (rep_at e i ≡ i) × Memᴰ y (line_offers on e n g i)
unfolding plain_offers head_offers
from_plain on e n g zero o = absurd (Memᴰ.not-nil o)
from_plain on e n g (suc m) {y} o = go (Memᴰ.append_cases (plain_offers on e n g m) o) (λ q. from_plain on e n g m q)
  where
    go : Memᴰ y (plain_offers on e n g m) ⊎ Memᴰ y (cond (eqb (rep_at e m) m) (line_offers on e n g m) [])
        → (Memᴰ y (plain_offers on e n g m) → (i : ℕ) × (i < m) × (rep_at e i ≡ i) × Memᴰ y (line_offers on e n g i))
        → (i : ℕ) × (i < suc m) × (rep_at e i ≡ i) × Memᴰ y (line_offers on e n g i)
    go (inl q) ih = let (i, l, h, r) = ih q in (i, omega arith, h, r)
    go (inr q) ih = let (h, r) = only_if (eqb (rep_at e m) m) (line_offers on e n g m) q in (m, omega arith, eqb-true (rep_at e m) m h, r)

pub to_plain : (on : Setting) (e : ℕ → Entry) (n g m i : ℕ) {y : ℕ} → i < m → rep_at e i ≡ i → Memᴰ y (line_offers on e n g i) → Memᴰ y (plain_offers on e n g m)
unfolding plain_offers head_offers
to_plain on e n g zero i l h o = absurd (omega arith)
to_plain on e n g (suc m) i {y} l h o = go (same_or i m) (λ q. to_plain on e n g m i q h o)
  where
    go : (i ≡ m) ⊎ ¬ (i ≡ m) → (i < m → Memᴰ y (plain_offers on e n g m)) → Memᴰ y (plain_offers on e n g m ++ cond (eqb (rep_at e m) m) (line_offers on e n g m) [])
    go (inl p) ih =
        Memᴰ.append_right (plain_offers on e n g m)
        (choose (eqb (rep_at e m) m) (line_offers on e n g m) [] (eq-eqb (rep_at e m) m (sym (ap (rep_at e) p) ∙ h ∙ p)) (subst (λ (j : ℕ). Memᴰ y (line_offers on e n g j)) p o))
    go (inr f) ih = Memᴰ.append_left _ (ih (omega arith))

-- the same for the members of a set
pub from_lists : (f : ℕ → List ℕ) (s m : ℕ) {y : ℕ} → Memᴰ y (lists_of f s m) → (i : ℕ) × (i < m) × (member s i ≡ true) × Memᴰ y (f i)
unfolding lists_of
from_lists f s zero o = absurd (Memᴰ.not-nil o)
from_lists f s (suc m) {y} o = go (Memᴰ.append_cases (lists_of f s m) o) (λ q. from_lists f s m q)
  where
    go : Memᴰ y (lists_of f s m) ⊎ Memᴰ y (cond (member s m) (f m) [])
        → (Memᴰ y (lists_of f s m) → (i : ℕ) × (i < m) × (member s i ≡ true) × Memᴰ y (f i)) → (i : ℕ) × (i < suc m) × (member s i ≡ true) × Memᴰ y (f i)
    go (inl q) ih = let (i, l, h, r) = ih q in (i, omega arith, h, r)
    go (inr q) ih = let (h, r) = only_if (member s m) (f m) q in (m, omega arith, h, r)

pub to_lists : (f : ℕ → List ℕ) (s m i : ℕ) {y : ℕ} → i < m → member s i ≡ true → Memᴰ y (f i) → Memᴰ y (lists_of f s m)
unfolding lists_of
to_lists f s zero i l h o = absurd (omega arith)
to_lists f s (suc m) i {y} l h o = go (same_or i m) (λ q. to_lists f s m i q h o)
  where
    go : (i ≡ m) ⊎ ¬ (i ≡ m) → (i < m → Memᴰ y (lists_of f s m)) → Memᴰ y (lists_of f s m ++ cond (member s m) (f m) [])
    go (inl p) ih =
        Memᴰ.append_right (lists_of f s m) (choose (member s m) (f m) [] (sym (ap (member s) p) ∙ h) (subst (λ (j : ℕ). Memᴰ y (f j)) p o))
    go (inr f) ih = Memᴰ.append_left _ (ih (omega arith))

-- neither of two tests holds
neither : (a b : Bool) → (a || b) ≡ false → (a ≡ false) × (b ≡ false)
neither true b p = absurd (true≢false p)
neither false b p = (refl, p)

-- a head below n
pub is_head_lem : (e : ℕ → Entry) (n i : ℕ) → is_head e n i ≡ true → (i < n) × (rep_at e i ≡ i)
unfolding is_head
is_head_lem e n i p = let (a, b) = both_true (ltb i n) (eqb (rep_at e i) i) p in (ltb-true i n a, eqb-true (rep_at e i) i b)

pub head_is : (e : ℕ → Entry) (n i : ℕ) → i < n → rep_at e i ≡ i → is_head e n i ≡ true
unfolding is_head
head_is e n i l h = ap₂ ◌&&◌ (lt-ltb i n l) (eq-eqb (rep_at e i) i h)

-- what is built is entry i
pub built_head : (on : Setting) (e : ℕ → Entry) (n g i : ℕ) (d : Entry) → ((j : ℕ) → Memᴰ j (parts d) → rep_at e j < 256) → {y : ℕ} → Memᴰ y (built on e n g i d) → y / 65536 ≡ i
unfolding built parts
built_head on e n g i Zero below o = absurd (Memᴰ.not-nil o)
built_head on e n g i (Atom a) below o = absurd (Memᴰ.not-nil o)
built_head on e n g i (Pair a b) below {y} o =
    ap (λ (z : ℕ). z / 65536) (ruled_as on y i 4 (rep_at e a) (only_if (member g (rep_at e a) && member g (rep_at e b)) (by_rule on i 4 (rep_at e a)) o).1).1
    ∙ number_head i 4 (rep_at e a) (omega arith) (below a (Memᴰ.head refl))
built_head on e n g i (Enc a b) below {y} o =
    ap (λ (z : ℕ). z / 65536) (ruled_as on y i 5 (rep_at e a) (only_if (member g (rep_at e a) && member g (rep_at e b)) (by_rule on i 5 (rep_at e a)) o).1).1
    ∙ number_head i 5 (rep_at e a) (omega arith) (below a (Memᴰ.head refl))
built_head on e n g i (Sum items) below o = absurd (Memᴰ.not-nil o)
built_head on e n g i (Half s a) below o = absurd (Memᴰ.not-nil o)
built_head on e n g i (Aenc a b) below {y} o =
    ap (λ (z : ℕ). z / 65536)
    (ruled_as on y i 8 (rep_at e a) (only_if (any_half (e (rep_at e b)) && (member g (rep_at e a) && member g (rep_at e b))) (by_rule on i 8 (rep_at e a)) o).1).1
    ∙ number_head i 8 (rep_at e a) (omega arith) (below a (Memᴰ.head refl))

-- With more heads known, an offer stays
module _ (on : Setting) (e : ℕ → Entry) (n g g' i : ℕ) (more : (j : ℕ) → member g j ≡ true → member g' j ≡ true) where
  both_stay : (a b : ℕ) → (member g a && member g b) ≡ true → (member g' a && member g' b) ≡ true
  both_stay a b p = let (u, v) = both_true (member g a) (member g b) p in ap₂ ◌&&◌ (more a u) (more b v)

  -- a list behind a test
  behind : (b b' : Bool) (xs : List ℕ) {y : ℕ} → (b ≡ true → b' ≡ true) → Memᴰ y (cond b xs []) → Memᴰ y (cond b' xs [])
  behind b b' xs f o = let (p, q) = only_if b xs o in choose b' xs [] (f p) q

  gives_stay : (d : Entry) {y : ℕ} → Memᴰ y (gives on e n g i d) → Memᴰ y (gives on e n g' i d)
  unfolding gives
  gives_stay Zero o = o
  gives_stay (Atom a) o = o
  gives_stay (Pair a b) o = o
  gives_stay (Enc a b) o = behind (member g (rep_at e b)) (member g' (rep_at e b)) (by_rule on (rep_at e a) 3 i) (more (rep_at e b)) o
  gives_stay (Sum items) o = o
  gives_stay (Half s a) o = o
  gives_stay (Aenc a b) o = let j = opener e n (e (rep_at e b)) in behind (member g j) (member g' j) (by_rule on (rep_at e a) 7 i) (more j) o

  built_stay : (d : Entry) {y : ℕ} → Memᴰ y (built on e n g i d) → Memᴰ y (built on e n g' i d)
  unfolding built
  built_stay Zero o = o
  built_stay (Atom a) o = o
  built_stay (Pair a b) o =
      behind (member g (rep_at e a) && member g (rep_at e b)) (member g' (rep_at e a) && member g' (rep_at e b)) (by_rule on i 4 (rep_at e a)) (both_stay (rep_at e a) (rep_at e b)) o
  built_stay (Enc a b) o =
      behind (member g (rep_at e a) && member g (rep_at e b)) (member g' (rep_at e a) && member g' (rep_at e b)) (by_rule on i 5 (rep_at e a)) (both_stay (rep_at e a) (rep_at e b)) o
  built_stay (Sum items) o = o
  built_stay (Half s a) o = o
  built_stay (Aenc a b) o =
      let h = any_half (e (rep_at e b)) in
      behind (h && (member g (rep_at e a) && member g (rep_at e b))) (h && (member g' (rep_at e a) && member g' (rep_at e b))) (by_rule on i 8 (rep_at e a))
      (λ p. let (u, v) = both_true h (member g (rep_at e a) && member g (rep_at e b)) p in ap₂ ◌&&◌ u (both_stay (rep_at e a) (rep_at e b) v)) o

-- With x known too, an entry that isn't x and doesn't use it has the same offers
module _ (on : Setting) (e : ℕ → Entry) (n g g' x i : ℕ) (same : (j : ℕ) → ¬ (j ≡ x) → member g j ≡ member g' j) where
  two_same : (a b : ℕ) → (eqb a x || eqb b x) ≡ false → (member g a && member g b) ≡ (member g' a && member g' b)
  two_same a b p = let (u, v) = neither (eqb a x) (eqb b x) p in ap₂ ◌&&◌ (same a (eqb-false a x u)) (same b (eqb-false b x v))

  gives_same : (d : Entry) → uses e n x d ≡ false → gives on e n g i d ≡ gives on e n g' i d
  unfolding gives uses
  gives_same Zero p = refl
  gives_same (Atom a) p = refl
  gives_same (Pair a b) p = refl
  gives_same (Enc a b) p =
      let (u, v) = neither (eqb (rep_at e a) x) (eqb (rep_at e b) x) p in
      ap (λ (t : Bool). cond t (by_rule on (rep_at e a) 3 i) []) (same (rep_at e b) (eqb-false (rep_at e b) x v))
  gives_same (Sum items) p = refl
  gives_same (Half s a) p = refl
  gives_same (Aenc a b) p =
      let j = opener e n (e (rep_at e b)) in let (u, v) = neither (eqb (rep_at e a) x || eqb (rep_at e b) x) (eqb j x) p in
      ap (λ (t : Bool). cond t (by_rule on (rep_at e a) 7 i) []) (same j (eqb-false j x v))

  built_same : (d : Entry) → uses e n x d ≡ false → built on e n g i d ≡ built on e n g' i d
  unfolding built uses
  built_same Zero p = refl
  built_same (Atom a) p = refl
  built_same (Pair a b) p = ap (λ (t : Bool). cond t (by_rule on i 4 (rep_at e a)) []) (two_same (rep_at e a) (rep_at e b) p)
  built_same (Enc a b) p = ap (λ (t : Bool). cond t (by_rule on i 5 (rep_at e a)) []) (two_same (rep_at e a) (rep_at e b) p)
  built_same (Sum items) p = refl
  built_same (Half s a) p = refl
  built_same (Aenc a b) p =
      let (u, v) = neither (eqb (rep_at e a) x || eqb (rep_at e b) x) (eqb (opener e n (e (rep_at e b))) x) p in
      ap (λ (t : Bool). cond (any_half (e (rep_at e b)) && t) (by_rule on i 8 (rep_at e a)) []) (two_same (rep_at e a) (rep_at e b) u)

  line_same : ¬ (i ≡ x) → uses e n x (e i) ≡ false → line_offers on e n g i ≡ line_offers on e n g' i
  unfolding line_offers
  line_same f p =
      ap (λ (t : Bool). cond t (gives on e n g i (e i)) (built on e n g i (e i))) (same i f) ∙ ap₂ (cond (member g' i)) (gives_same (e i) p) (built_same (e i) p)

-- Entries that refer downwards; x becomes known, a head that the members of us use
module _ (on : Setting) (e : ℕ → Entry) (n : ℕ) (down : Downward e n) (few : n ≤ 256) (g x us : ℕ) (lx : x < n) (hx : rep_at e x ≡ x) (users : UsersOf e n x us) where
  more : (j : ℕ) → member g j ≡ true → member (insert g x) j ≡ true
  more j p = member_insert g x j ∙ ap (λ (b : Bool). b || eqb x j) p

  same : (j : ℕ) → ¬ (j ≡ x) → member g j ≡ member (insert g x) j
  same j f = sym (member_insert g x j ∙ ap (λ (b : Bool). member g j || b) (ne_eqb x j (λ p. f (sym p))) ∙ or-false (member g j))

  -- what isn't known then isn't known now
  before : (j : ℕ) → member (insert g x) j ≡ false → member g j ≡ false
  before j p = go (member g j) refl
    where
      go : (b : Bool) → member g j ≡ b → b ≡ false
      go true q = absurd (true≢false (sym (more j q) ∙ p))
      go false q = refl

  -- an offer to a head that isn't known then is one then
  line_stay : (i y : ℕ) → i < n → Memᴰ y (line_offers on e n g i) → member (insert g x) (y / 65536) ≡ false → Memᴰ y (line_offers on e n (insert g x) i)
  unfolding line_offers
  line_stay i y l o f = go (chosen (member g i) (gives on e n g i (e i)) (built on e n g i (e i)) o)
    where
      go : ((member g i ≡ true) × Memᴰ y (gives on e n g i (e i))) ⊎ ((member g i ≡ false) × Memᴰ y (built on e n g i (e i)))
          → Memᴰ y (cond (member (insert g x) i) (gives on e n (insert g x) i (e i)) (built on e n (insert g x) i (e i)))
      go (inl (c, q)) = choose (member (insert g x) i) _ _ (more i c) (gives_stay on e n g (insert g x) i more (e i) q)
      go (inr (c, q)) =
          choose_not (member (insert g x) i) _ _
          (sym (ap (member (insert g x)) (built_head on e n g i (e i) (λ j m. omega (arith, rep_le e j, down i j l m)) q)) ∙ f)
          (built_stay on e n g (insert g x) i more (e i) q)

  -- the offers that are new
  abbrev pub new_offers : List ℕ
  new_offers = line_offers on e n (insert g x) x ++ lists_of (line_offers on e n (insert g x)) us 256

  module _ {xs : List ℕ} (c : Covers g xs (plain_offers on e n g n)) where
    -- of x itself, of one that uses it, or of another
    made_then : (i y : ℕ) → i < n → rep_at e i ≡ i → Memᴰ y (line_offers on e n (insert g x) i) → member (insert g x) (y / 65536) ≡ false → Memᴰ y (xs ++ new_offers)
    made_then i y l h o f = go (same_or i x) (member us i) refl
      where
        go : (i ≡ x) ⊎ ¬ (i ≡ x) → (b : Bool) → member us i ≡ b → Memᴰ y (xs ++ new_offers)
        go (inl p) b q = Memᴰ.append_right xs (Memᴰ.append_left _ (subst (λ (j : ℕ). Memᴰ y (line_offers on e n (insert g x) j)) p o))
        go (inr d) true q = Memᴰ.append_right xs (Memᴰ.append_right (line_offers on e n (insert g x) x) (to_lists (line_offers on e n (insert g x)) us 256 i (omega arith) q o))
        go (inr d) false q =
            Memᴰ.append_left _
            (c.made y (to_plain on e n g n i l h (subst (λ (zs : List ℕ). Memᴰ y zs) (sym (line_same on e n g (insert g x) x i same d unused)) o)) (before (y / 65536) f))
          where
            unused : uses e n x (e i) ≡ false
            unused = sym (ap (λ (b : Bool). b && uses e n x (e i)) (head_is e n i l h)) ∙ sym (users i (omega arith)) ∙ q

    still_then : (y : ℕ) → Memᴰ y xs ⊎ Memᴰ y new_offers → member (insert g x) (y / 65536) ≡ false → Memᴰ y (plain_offers on e n (insert g x) n)
    still_then y (inl o) f =
        let (i, l, h, q) = from_plain on e n g n (c.still y o (before (y / 65536) f)) in to_plain on e n (insert g x) n i l h (line_stay i y l q f)
    still_then y (inr o) f = go (Memᴰ.append_cases (line_offers on e n (insert g x) x) o)
      where
        go : Memᴰ y (line_offers on e n (insert g x) x) ⊎ Memᴰ y (lists_of (line_offers on e n (insert g x)) us 256) → Memᴰ y (plain_offers on e n (insert g x) n)
        go (inl q) = to_plain on e n (insert g x) n x lx hx q
        go (inr q) =
            let (i, l, h, r) = from_lists (line_offers on e n (insert g x)) us 256 q in
            let (li, hi) = is_head_lem e n i (both_true (is_head e n i) (uses e n x (e i)) (sym (users i l) ∙ h)).0 in
            to_plain on e n (insert g x) n i li hi r

    pub covers_learn : Covers (insert g x) (xs ++ new_offers) (plain_offers on e n (insert g x) n)
    covers_learn = record {
      made = λ y o f. let (i, l, h, q) = from_plain on e n (insert g x) n o in made_then i y l h q f;
      still = λ y o f. still_then y (Memᴰ.append_cases xs o) f;
    }

-- at the start
pub covers_start : (g : ℕ) (xs : List ℕ) → Covers g xs xs
covers_start g xs = record { made = λ x o f. o; still = λ x o f. o }
