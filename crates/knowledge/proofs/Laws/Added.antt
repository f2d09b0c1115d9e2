-- A row added to the lines of a set, and lines added to the columns of a set: for no member, and for two sets one after the other.
-- These, `adds` and `flips`, are what the loops over members need (`bitset`, proofs/Laws/Members.antt). Also for one line and one column. Assumes nothing.
use mathlib.Core.Path.{◌≡◌, refl, sym, ap, ap₂, ◌∙◌}
use mathlib.Core.Bool.{Bool, true, false, true≢false, xor, cond, ◌&&◌, ◌||◌, or-false}
use mathlib.Core.Logic.{by_cases}
use mathlib.Core.List.{List, []}
use Prim.Native.Nat.{ℕ, ◌^◌, ◌<◌}
use native.Mathlib.Decide.{ℕ_discrete}
use lib.Bits.{bit_xor}
use lib.Dec.{eqb}
use lib.ListN.{length, set}
use lib.Seq.{get_or-set_same, get_or-set_other}
use borrow.Author.Tests.{eq-eqb, ne_eqb}
use Rattle.bitset.specs.Set.{member, insert}
use Rattle.bitset.specs.Words.{value}
use Rattle.bitset.proofs.Laws.Member.{member_empty, member_sum, member_single, member_insert}
use Rattle.bitset.proofs.Laws.Members.{Additive}
use Rattle.deduction.specs.Elimination.{Reduced}
use Rattle.knowledge.specs.Inner.Lines.{set_in, line_at, plus, Sizes, Swept, SweptIn, Flipped}

-- done for one set and then for another that has no member in common with it
twice : {A : Type 0} (f : A → A) (s t : Bool) → (s ≡ true → t ≡ false) → (x y z : A) → y ≡ cond s (f x) x → z ≡ cond t (f y) y → z ≡ cond (xor s t) (f x) x
unfolding xor
twice f true true h x y z p q = absurd (true≢false (h refl))
twice f true false h x y z p q = q ∙ p
twice f false true h x y z p q = q ∙ ap f p
twice f false false h x y z p q = q ∙ p

module _ (v u : ℕ) where
  swept_none : {rs us : List (List ℕ)} {es : List ℕ} → Sizes rs us es → Swept v u 0 rs us es rs us es
  swept_none {rs} {us} {es} h = record {
    sizes = h;
    line = λ k. sym (ap (λ (b : Bool). cond b (plus (line_at rs us k) v u) (line_at rs us k)) (member_empty k));
    empty = λ k. sym (ap (λ (b : Bool). member (value es) k || (b && eqb (set_in rs k) 0)) (member_empty k) ∙ or-false (member (value es) k));
  }

  swept_both : (S T : ℕ) {rs us : List (List ℕ)} {es : List ℕ} {rs' us' : List (List ℕ)} {es' : List ℕ} {rs'' us'' : List (List ℕ)} {es'' : List ℕ} → ((k : ℕ) → member S k ≡ true → member T k ≡ false)
      → Swept v u S rs us es rs' us' es' → Swept v u T rs' us' es' rs'' us'' es'' → Swept v u (bit_xor S T) rs us es rs'' us'' es''
  unfolding xor
  swept_both S T {rs} {us} {es} {rs'} {us'} {es'} {rs''} {us''} {es''} apart x y = record {
    sizes = y.sizes;
    line = λ k. twice (λ (l : Reduced). plus l v u) (member S k) (member T k) (apart k) (line_at rs us k) (line_at rs' us' k) (line_at rs'' us'' k) (x.line k) (y.line k) ∙ sym (ap (λ (s : Bool). cond s (plus (line_at rs us k) v u) (line_at rs us k)) (member_sum S T k));
    empty = λ k. emptied (member S k) (member T k) (apart k) (member (value es) k) (member (value es') k) (member (value es'') k) (eqb (set_in rs' k) 0) (eqb (set_in rs'' k) 0) (x.empty k) (y.empty k) (kept k (y.line k)) ∙ sym (ap (λ (s : Bool). member (value es) k || (s && eqb (set_in rs'' k) 0)) (member_sum S T k));
  }
    where
      -- a line that isn't in the second set is as it was
      kept : (k : ℕ) → line_at rs'' us'' k ≡ cond (member T k) (plus (line_at rs' us' k) v u) (line_at rs' us' k)
          → member T k ≡ false → eqb (set_in rs'' k) 0 ≡ eqb (set_in rs' k) 0
      kept k p t = ap (λ (l : Reduced). eqb l.remainder 0) (p ∙ ap (λ (s : Bool). cond s (plus (line_at rs' us' k) v u) (line_at rs' us' k)) t)

      emptied : (s t : Bool) → (s ≡ true → t ≡ false) → (x y z l m : Bool) → y ≡ (x || (s && l)) → z ≡ (y || (t && m)) → (t ≡ false → m ≡ l) → z ≡ (x || (xor s t && m))
      emptied true true h x y z l m p q e = absurd (true≢false (h refl))
      emptied true false h x y z l m p q e = q ∙ or-false y ∙ p ∙ ap (λ (n : Bool). x || n) (sym (e refl))
      emptied false true h x y z l m p q e = q ∙ ap (λ (n : Bool). n || m) (p ∙ or-false x)
      emptied false false h x y z l m p q e = q ∙ or-false y ∙ p

  pub adds : Additive (SweptIn v u)
  adds = record {
    none = λ a. record { swept = swept_none; columns = refl };
    both = λ S T a b c apart f g. record { swept = λ h. let x = f.swept h in swept_both S T apart x (g.swept x.sizes); columns = g.columns ∙ f.columns };
  }

-- lines are added to each column in a set, where the table has its size
abbrev pub Flips : ℕ → ℕ → List (List ℕ) → List (List ℕ) → Type 0
Flips c S a b = length a ≡ 256 → Flipped c S a b

module _ (c : ℕ) where
  flips_none : (a : List (List ℕ)) → Flips c 0 a a
  flips_none a h = record { size = h; column = λ q. sym (ap (λ (b : Bool). cond b (bit_xor (set_in a q) c) (set_in a q)) (member_empty q)) }

  flips_both : (S T : ℕ) (a b d : List (List ℕ)) → ((k : ℕ) → member S k ≡ true → member T k ≡ false) → Flips c S a b → Flips c T b d → Flips c (bit_xor S T) a d
  flips_both S T a b d apart f g h =
      let x = f h in let y = g x.size in record {
        size = y.size;
        column = λ q. twice (λ (n : ℕ). bit_xor n c) (member S q) (member T q) (apart q) (set_in a q) (set_in b q) (set_in d q) (x.column q) (y.column q) ∙ sym (ap (λ (s : Bool). cond s (bit_xor (set_in a q) c) (set_in a q)) (member_sum S T q));
      }

  pub flips : Additive (Flips c)
  flips = record { none = flips_none; both = flips_both }

-- one line, and one column
module _ (k : ℕ) where
  own : (t : List (List ℕ)) (x : List ℕ) → k < length t → set_in (set t k x) k ≡ value x
  own t x l = ap value (get_or-set_same t k x [] l)

  other : (t : List (List ℕ)) (x : List ℕ) (j : ℕ) → ¬ (j ≡ k) → set_in (set t k x) j ≡ set_in t j
  other t x j f = ap value (get_or-set_other t k j x [] f)

  here : (j : ℕ) → j ≡ k → member (2 ^ k) j ≡ true
  here j p = member_single k j ∙ eq-eqb k j (sym p)

  there : (j : ℕ) → ¬ (j ≡ k) → member (2 ^ k) j ≡ false
  there j f = member_single k j ∙ ne_eqb k j (λ p. f (sym p))

  module _ (v u : ℕ) (rs us : List (List ℕ)) (x w : List ℕ) (lr : k < length rs) (lu : k < length us) (px : value x ≡ bit_xor (set_in rs k) v) (pw : value w ≡ bit_xor (set_in us k) u) where
    pub one_line : (j : ℕ) → line_at (set rs k x) (set us k w) j ≡ cond (member (2 ^ k) j) (plus (line_at rs us j) v u) (line_at rs us j)
    one_line j = by_cases (ℕ_discrete j k) at (λ f. (λ i. record { remainder = other rs x j f i; used = other us w j f i }) ∙ sym (ap (λ (b : Bool). cond b (plus (line_at rs us j) v u) (line_at rs us j)) (there j f)))
      where
        at : j ≡ k → line_at (set rs k x) (set us k w) j ≡ cond (member (2 ^ k) j) (plus (line_at rs us j) v u) (line_at rs us j)
        at p =
            ap (line_at (set rs k x) (set us k w)) p ∙ (λ i. record { remainder = (own rs x lr ∙ px) i; used = (own us w lu ∙ pw) i }) ∙ ap (λ (m : ℕ). plus (line_at rs us m) v u) (sym p)
            ∙ sym (ap (λ (b : Bool). cond b (plus (line_at rs us j) v u) (line_at rs us j)) (here j p))

    -- nothing is left of it: it joins the empty lines
    pub one_emptied : (es es' : List ℕ) → eqb (value x) 0 ≡ true → value es' ≡ insert (value es) k → (j : ℕ) → member (value es') j ≡ (member (value es) j || (member (2 ^ k) j && eqb (set_in (set rs k x) j) 0))
    one_emptied es es' z q j =
        ap (λ (n : ℕ). member n j) q ∙ member_insert (value es) k j ∙ ap (λ (b : Bool). member (value es) j || b) (sym (member_single k j) ∙ by_cases (ℕ_discrete j k) at (λ f. ap (λ (b : Bool). b) (there j f) ∙ sym (ap (λ (b : Bool). b && eqb (set_in (set rs k x) j) 0) (there j f))))
      where
        at : j ≡ k → member (2 ^ k) j ≡ (member (2 ^ k) j && eqb (set_in (set rs k x) j) 0)
        at p = here j p ∙ sym (ap₂ ◌&&◌ (here j p) (ap (λ (m : ℕ). eqb (set_in (set rs k x) m) 0) p ∙ ap (λ (n : ℕ). eqb n 0) (own rs x lr) ∙ z))

    -- something is left
    pub one_kept : (es : List ℕ) → eqb (value x) 0 ≡ false → (j : ℕ) → member (value es) j ≡ (member (value es) j || (member (2 ^ k) j && eqb (set_in (set rs k x) j) 0))
    one_kept es z j = sym (ap (λ (b : Bool). member (value es) j || b) (by_cases (ℕ_discrete j k) at (λ f. ap (λ (b : Bool). b && eqb (set_in (set rs k x) j) 0) (there j f))) ∙ or-false (member (value es) j))
      where
        at : j ≡ k → (member (2 ^ k) j && eqb (set_in (set rs k x) j) 0) ≡ false
        at p = ap (λ (b : Bool). b && eqb (set_in (set rs k x) j) 0) (here j p) ∙ ap (λ (m : ℕ). eqb (set_in (set rs k x) m) 0) p ∙ ap (λ (n : ℕ). eqb n 0) (own rs x lr) ∙ z

  pub one_column : (c : ℕ) (cs : List (List ℕ)) (x : List ℕ) → k < length cs → value x ≡ bit_xor (set_in cs k) c → (q : ℕ) → set_in (set cs k x) q ≡ cond (member (2 ^ k) q) (bit_xor (set_in cs q) c) (set_in cs q)
  one_column c cs x l p q = by_cases (ℕ_discrete q k) at (λ f. other cs x q f ∙ sym (ap (λ (b : Bool). cond b (bit_xor (set_in cs q) c) (set_in cs q)) (there q f)))
    where
      at : q ≡ k → set_in (set cs k x) q ≡ cond (member (2 ^ k) q) (bit_xor (set_in cs q) c) (set_in cs q)
      at e =
          ap (set_in (set cs k x)) e ∙ own cs x l ∙ p ∙ ap (λ (m : ℕ). bit_xor (set_in cs m) c) (sym e)
          ∙ sym (ap (λ (b : Bool). cond b (bit_xor (set_in cs q) c) (set_in cs q)) (here q e))
