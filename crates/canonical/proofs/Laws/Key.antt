-- Keys and shapes say the same of an entry.
-- Defined: `number_of`, the number of an atom or a half; `Narrow`, these have at most 32 bits.
-- Shown: the shape of an entry is read off its key and its key off its shape, so keys are equal exactly when shapes are alike, and, of
-- entries that are no zero and no sum, exactly when terms are ≈; the kind and the parts' representatives are what `key_kind`, `key_left`, `key_right`
-- give. Assumes nothing.
use mathlib.Core.Path.{◌≡◌, refl, sym, ap, ap₂, ◌∙◌, subst}
use mathlib.Core.Bool.{Bool, true, false, true≢false, cond}
use mathlib.Core.Logic.{◌↔◌}
use mathlib.Core.List.{List, [], ◌∷◌, Memᴰ}
use Prim.Native.Nat.{ℕ, ◌+◌, ◌*◌, ◌%◌, ◌^◌, ◌≤◌, ◌<◌}
use native.Mathlib.Omega.{arith}
use lib.Dec.{eqb}
use borrow.Author.Tests.{eq-eqb, ne_eqb}
use Rattle.deduction.specs.Term.{private, public, ◌≈◌}
use Rattle.deduction.specs.Entry.{Entry, Zero, Atom, Pair, Enc, Sum, Half, Aenc, term_at, parts, Downward}
use Rattle.deduction.specs.Standard.{Shape, half_kind, shape, alike, least, set_at, rep_at}
use Rattle.deduction.proofs.Standard.{rep_le, rep_set, rep_lowest, rep_of_set, set_same}
use Rattle.deduction.proofs.Standard.Least.{least_only}
use Rattle.deduction.proofs.Standard.First.{shape_at, first, Plain, alike_same, same_alike, first_shape, first_same, half_plain, set_first}
use Rattle.deduction.proofs.Standard.Members.{rep_first}
use Rattle.deduction.proofs.Standard.Codes.{numbered}
use Rattle.deduction.proofs.Forms.{Form, pairs, encs, aencs, form_place, form_entry, form_listed}
use Rattle.canonical.specs.Inner.Key.{key_of, key_at, key_kind, key_left, key_right}

-- a key that has two parts
module _ (k a b : ℕ) (hk : k < 256) (ha : a < 256) (hb : b < 256) where
  pub parts_kind : key_kind (k * 2 ^ 32 + a * 256 + b) ≡ k
  parts_kind = omega arith

  pub parts_left : key_left (k * 2 ^ 32 + a * 256 + b) ≡ a
  parts_left = omega arith

  pub parts_right : key_right (k * 2 ^ 32 + a * 256 + b) ≡ b
  parts_right = omega arith

-- a key that has a number
module _ (k a : ℕ) (hk : k < 256) (h : a < 2 ^ 32) where
  pub number_kind : key_kind (k * 2 ^ 32 + a) ≡ k
  number_kind = omega arith

  pub number_low : (k * 2 ^ 32 + a) % 2 ^ 32 ≡ a
  number_low = omega arith

-- the number of an atom and of a half
unfoldable pub number_of : Entry → ℕ
number_of Zero = 0
number_of (Atom a) = a
number_of (Pair l r) = 0
number_of (Enc m k) = 0
number_of (Sum items) = 0
number_of (Half s a) = a
number_of (Aenc m k) = 0

-- the numbers of the first n entries have at most 32 bits
abbrev pub Narrow : (ℕ → Entry) → ℕ → Type 0
Narrow e n = (i : ℕ) → i < n → number_of (e i) < 2 ^ 32

-- the shape that a key of kind k says
unfoldable left_from : (ℕ → Entry) → ℕ → ℕ → ℕ
left_from e k key = cond (eqb k 0) 0 (cond (numbered k) (key % 2 ^ 32) (set_at e (key_left key)))

unfoldable right_from : (ℕ → Entry) → ℕ → ℕ → ℕ
right_from e k key = cond (eqb k 0) 0 (cond (numbered k) 0 (set_at e (key_right key)))

abbrev shape_from : (ℕ → Entry) → ℕ → Shape
shape_from e key = record { kind = key_kind key; left = left_from e (key_kind key) key; right = right_from e (key_kind key) key }

-- the key that a shape says, where R names the representative of a set
unfoldable key_from : (ℕ → ℕ) → ℕ → ℕ → ℕ → ℕ
key_from R k l r = cond (eqb k 0) 0 (cond (numbered k) (k * 2 ^ 32 + l) (k * 2 ^ 32 + R l * 256 + R r))

shape_ext : {k k' l l' r r' : ℕ} → k ≡ k' → l ≡ l' → r ≡ r' → ◌≡◌ {A = Shape} (record { kind = k; left = l; right = r }) (record { kind = k'; left = l'; right = r' })
shape_ext p q s = λ i. record { kind = p i; left = q i; right = s i }

-- a key of kind k with the parts l and r
two_parts : (e : ℕ → Entry) (k l r : ℕ) → k < 256 → eqb k 0 ≡ false → numbered k ≡ false → rep_at e l < 256 → rep_at e r < 256
    → ◌≡◌ {A = Shape} (record { kind = k; left = set_at e l; right = set_at e r }) (shape_from e (k * 2 ^ 32 + rep_at e l * 256 + rep_at e r))
unfolding left_from right_from
two_parts e k l r h some plain hl hr =
    let key = k * 2 ^ 32 + rep_at e l * 256 + rep_at e r in
    let p = sym (parts_kind k (rep_at e l) (rep_at e r) h hl hr) in
    shape_ext p
    (sym (rep_set e l) ∙ ap (set_at e) (sym (parts_left k (rep_at e l) (rep_at e r) h hl hr)) ∙ sym (sets (set_at e (key_left key)) (key % 2 ^ 32)) ∙ ap (λ (x : ℕ). left_from e x key) p)
    (sym (rep_set e r) ∙ ap (set_at e) (sym (parts_right k (rep_at e l) (rep_at e r) h hl hr)) ∙ sym (sets (set_at e (key_right key)) 0) ∙ ap (λ (x : ℕ). right_from e x key) p)
  where
    sets : (x y : ℕ) → cond (eqb k 0) 0 (cond (numbered k) y x) ≡ x
    sets x y = ap₂ (λ (a b : Bool). cond a 0 (cond b y x)) some plain

-- a key of kind k with a number
one_number : (e : ℕ → Entry) (k a : ℕ) → k < 256 → eqb k 0 ≡ false → numbered k ≡ true → a < 2 ^ 32
    → ◌≡◌ {A = Shape} (record { kind = k; left = a; right = 0 }) (shape_from e (k * 2 ^ 32 + a))
unfolding left_from right_from
one_number e k a h some has low =
    let key = k * 2 ^ 32 + a in
    let p = sym (number_kind k a h low) in
    shape_ext p (sym (number_low k a h low) ∙ sym (reads (set_at e (key_left key)) (key % 2 ^ 32)) ∙ ap (λ (x : ℕ). left_from e x key) p)
    (sym (reads (set_at e (key_right key)) 0) ∙ ap (λ (x : ℕ). right_from e x key) p)
  where
    reads : (x y : ℕ) → cond (eqb k 0) 0 (cond (numbered k) y x) ≡ y
    reads x y = ap₂ (λ (a b : Bool). cond a 0 (cond b y x)) some has

-- a shape is what its key says
shape_from_lem : (e : ℕ → Entry) (d : Entry) → ((j : ℕ) → Memᴰ j (parts d) → rep_at e j < 256) → number_of d < 2 ^ 32
    → shape (set_at e) d ≡ shape_from e (key_of (rep_at e) d)
unfolding shape half_kind parts key_of left_from right_from number_of
shape_from_lem e Zero below narrow = refl
shape_from_lem e (Atom a) below narrow = one_number e 1 a (omega arith) refl refl narrow
shape_from_lem e (Pair l r) below narrow = two_parts e 2 l r (omega arith) refl refl (below l (Memᴰ.head refl)) (below r (Memᴰ.tail (Memᴰ.head refl)))
shape_from_lem e (Enc m k) below narrow = two_parts e 3 m k (omega arith) refl refl (below m (Memᴰ.head refl)) (below k (Memᴰ.tail (Memᴰ.head refl)))
shape_from_lem e (Sum items) below narrow = refl
shape_from_lem e (Half private a) below narrow = one_number e 5 a (omega arith) refl refl narrow
shape_from_lem e (Half public a) below narrow = one_number e 6 a (omega arith) refl refl narrow
shape_from_lem e (Aenc m k) below narrow = two_parts e 7 m k (omega arith) refl refl (below m (Memᴰ.head refl)) (below k (Memᴰ.tail (Memᴰ.head refl)))

-- a key is what its shape says
key_from_lem : (R s rep : ℕ → ℕ) (d : Entry) → ((j : ℕ) → Memᴰ j (parts d) → rep j ≡ R (s j))
    → key_of rep d ≡ key_from R (shape s d).kind (shape s d).left (shape s d).right
unfolding shape half_kind parts key_of key_from
key_from_lem R s rep Zero h = refl
key_from_lem R s rep (Atom a) h = refl
key_from_lem R s rep (Pair l r) h = ap₂ (λ (x y : ℕ). 2 * 2 ^ 32 + x * 256 + y) (h l (Memᴰ.head refl)) (h r (Memᴰ.tail (Memᴰ.head refl)))
key_from_lem R s rep (Enc m k) h = ap₂ (λ (x y : ℕ). 3 * 2 ^ 32 + x * 256 + y) (h m (Memᴰ.head refl)) (h k (Memᴰ.tail (Memᴰ.head refl)))
key_from_lem R s rep (Sum items) h = refl
key_from_lem R s rep (Half private a) h = refl
key_from_lem R s rep (Half public a) h = refl
key_from_lem R s rep (Aenc m k) h = ap₂ (λ (x y : ℕ). 7 * 2 ^ 32 + x * 256 + y) (h m (Memᴰ.head refl)) (h k (Memᴰ.tail (Memᴰ.head refl)))

-- the kind and the key of an entry of a form
abbrev pub form_kind : Form → ℕ
form_kind f = form_place f + 1

pub form_small : (f : Form) → form_kind f < 256
form_small pairs = omega arith
form_small encs = omega arith
form_small aencs = omega arith

pub form_key : (rep : ℕ → ℕ) (f : Form) (l r : ℕ) → key_of rep (form_entry f l r) ≡ form_kind f * 2 ^ 32 + rep l * 256 + rep r
unfolding key_of
form_key rep pairs l r = refl
form_key rep encs l r = refl
form_key rep aencs l r = refl

-- a key depends on the representatives of the parts alone
pub key_same : (f g : ℕ → ℕ) (d : Entry) → ((j : ℕ) → Memᴰ j (parts d) → f j ≡ g j) → key_of f d ≡ key_of g d
unfolding parts key_of
key_same f g Zero h = refl
key_same f g (Atom a) h = refl
key_same f g (Pair l r) h = ap₂ (λ (x y : ℕ). 2 * 2 ^ 32 + x * 256 + y) (h l (Memᴰ.head refl)) (h r (Memᴰ.tail (Memᴰ.head refl)))
key_same f g (Enc m k) h = ap₂ (λ (x y : ℕ). 3 * 2 ^ 32 + x * 256 + y) (h m (Memᴰ.head refl)) (h k (Memᴰ.tail (Memᴰ.head refl)))
key_same f g (Sum items) h = refl
key_same f g (Half s a) h = refl
key_same f g (Aenc m k) h = ap₂ (λ (x y : ℕ). 7 * 2 ^ 32 + x * 256 + y) (h m (Memᴰ.head refl)) (h k (Memᴰ.tail (Memᴰ.head refl)))

module _ (e : ℕ → Entry) (n : ℕ) (down : Downward e n) (few : n ≤ 256) (narrow : Narrow e n) where
  -- the lowest entry with a set is the representative of each entry that has it
  rep_from : (j : ℕ) → j < n → rep_at e j ≡ least (λ i. eqb (set_at e i) (set_at e j)) n
  rep_from j h =
      sym (least_only (λ i. eqb (set_at e i) (set_at e j)) n (rep_at e j) (omega (arith, rep_le e j)) (λ l. eq-eqb (set_at e (rep_at e j)) (set_at e j) (rep_set e j))
      (λ i l. ne_eqb (set_at e i) (set_at e j) (rep_lowest e j i l)))

  shape_at_lem : (i : ℕ) → i < n → shape_at e i ≡ shape_from e (key_at e i)
  shape_at_lem i h = shape_from_lem e (e i) (λ j m. omega (arith, rep_le e j, down i j h m)) (narrow i h)

  key_at_lem : (i : ℕ) → i < n → key_at e i ≡ key_from (λ s. least (λ j. eqb (set_at e j) s) n) (shape_at e i).kind (shape_at e i).left (shape_at e i).right
  key_at_lem i h = key_from_lem (λ s. least (λ j. eqb (set_at e j) s) n) (set_at e) (rep_at e) (e i) (λ j m. rep_from j (omega (arith, down i j h m)))

  -- equal keys, equal shapes
  pub key_shape : (i j : ℕ) → i < n → j < n → key_at e i ≡ key_at e j → shape_at e i ≡ shape_at e j
  key_shape i j hi hj p = shape_at_lem i hi ∙ ap (shape_from e) p ∙ sym (shape_at_lem j hj)

  pub shape_key : (i j : ℕ) → i < n → j < n → shape_at e i ≡ shape_at e j → key_at e i ≡ key_at e j
  shape_key i j hi hj p = key_at_lem i hi ∙ ap (λ (x : Shape). key_from (λ s. least (λ k. eqb (set_at e k) s) n) x.kind x.left x.right) p ∙ sym (key_at_lem j hj)

  pub key_alike : (i j : ℕ) → i < n → j < n → eqb (key_at e j) (key_at e i) ≡ alike (shape_at e j) (shape_at e i)
  key_alike i j hi hj = go (alike (shape_at e j) (shape_at e i)) refl
    where
      go : (b : Bool) → alike (shape_at e j) (shape_at e i) ≡ b → eqb (key_at e j) (key_at e i) ≡ b
      go true p = eq-eqb (key_at e j) (key_at e i) (shape_key j i hj hi (alike_same (shape_at e j) (shape_at e i) p))
      go false p = ne_eqb (key_at e j) (key_at e i) (λ q. true≢false (sym (same_alike (shape_at e j) (shape_at e i) (key_shape j i hj hi q)) ∙ p))

  -- entries that are no zero and no sum are the same term exactly when their keys are equal
  pub key_term : (i j : ℕ) → i < n → j < n → Plain e i → Plain e j → (key_at e i ≡ key_at e j) ↔ (term_at e i ≈ term_at e j)
  key_term i j hi hj pi pj = (
    λ p. (set_same e n down i j hi hj).0 (set_first e n down i hi pi ∙ ap (λ (x : ℕ). 2 ^ x) (first_same e i j (key_shape i j hi hj p)) ∙ sym (set_first e n down j hj pj)),
    λ t. shape_key i j hi hj (sym (first_shape e i) ∙ ap (shape_at e) (firsts t) ∙ first_shape e j),
  )
    where
      firsts : term_at e i ≈ term_at e j → first e i ≡ first e j
      firsts t = sym (rep_first e n down i hi pi) ∙ rep_of_set e i j ((set_same e n down i j hi hj).1 t) ∙ rep_first e n down j hj pj

  -- the kind
  pub key_kind_lem : (i : ℕ) → i < n → key_kind (key_at e i) ≡ (shape_at e i).kind
  key_kind_lem i h = sym (ap (λ (x : Shape). x.kind) (shape_at_lem i h))

  -- the parts of an entry of a form
  pub key_form : (f : Form) (i l r : ℕ) → i < n → e i ≡ form_entry f l r → (key_left (key_at e i) ≡ rep_at e l) × (key_right (key_at e i) ≡ rep_at e r)
  key_form f i l r h p =
      let hl : rep_at e l < 256 = omega (arith, rep_le e l, down i l h (listed l (Memᴰ.head refl))) in
      let hr : rep_at e r < 256 = omega (arith, rep_le e r, down i r h (listed r (Memᴰ.tail (Memᴰ.head refl)))) in (
        ap (λ (d : Entry). key_left (key_of (rep_at e) d)) p ∙ ap key_left (form_key (rep_at e) f l r) ∙ parts_left (form_kind f) (rep_at e l) (rep_at e r) (form_small f) hl hr,
        ap (λ (d : Entry). key_right (key_of (rep_at e) d)) p ∙ ap key_right (form_key (rep_at e) f l r) ∙ parts_right (form_kind f) (rep_at e l) (rep_at e r) (form_small f) hl hr,
      )
    where
      listed : (j : ℕ) → Memᴰ j (l ∷ r ∷ []) → Memᴰ j (parts (e i))
      listed j m = subst (λ (js : List ℕ). Memᴰ j js) (sym (ap parts p ∙ form_listed f l r)) m

-- only zero and sums have the key 0
pub key_plain : (rep s : ℕ → ℕ) (d : Entry) → ¬ (key_of rep d ≡ 0) → ¬ ((shape s d).kind ≡ 0)
unfolding shape key_of
key_plain rep s Zero h p = h refl
key_plain rep s (Atom a) h p = omega arith
key_plain rep s (Pair l r) h p = omega arith
key_plain rep s (Enc m k) h p = omega arith
key_plain rep s (Sum items) h p = h refl
key_plain rep s (Half x a) h p = half_plain x p
key_plain rep s (Aenc m k) h p = omega arith
