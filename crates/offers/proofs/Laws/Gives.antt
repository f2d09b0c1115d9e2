-- What one entry offers, by the tests of its key. Assumes nothing.
use mathlib.Core.Path.{◌≡◌, refl, sym, ap, ◌∙◌}
use mathlib.Core.Bool.{Bool, false, cond}
use mathlib.Core.List.{[], ◌++◌}
use Prim.Native.Nat.{ℕ, ◌+◌, ◌*◌, ◌<◌}
use native.Mathlib.Omega.{arith}
use lib.Dec.{eqb}
use borrow.Author.Tests.{ne_eqb}
use denote.Enum.Declared.{tag_of}
use Rattle.bitset.specs.Set.{member}
use Rattle.deduction.specs.Setting.{Setting}
use Rattle.deduction.specs.Run.{number, by_rule}
use Rattle.dag.specs.Kind.{byte_of}
use Rattle.dag.specs.declared.kind.Kind.{Kind}
use Rattle.dag.specs.declared.kind.Kind.TheVariants.{Zero, Atom, Pair, Enc, Sum, PrivateHalf, PublicHalf, Aenc}
use Rattle.canonical.specs.Inner.Key.{key_kind, key_left, key_right, key_opener}
use Rattle.offers.specs.contracts.rules.Rule.{the_type}
use Rattle.offers.specs.declared.rules.Rule.{Rule}
use Rattle.offers.specs.declared.rules.Rule.TheVariants.{Left, Right, Open, Join, Seal, Sum as SumRule, Unlock, Lock}
use Rattle.offers.specs.Inner.Offers.{both_known, built_by, key_gives, key_built}
use Rattle.offers.specs.Inner.Rule.{rule_number}

-- a member test of a part that was read off a key
pub part_known : {l p : ℕ} {b t : Bool} (g : ℕ) → l ≡ p → b ≡ member g l → b ≡ t → member g p ≡ t
part_known g q m r = ap (member g) (sym q) ∙ sym m ∙ r

-- the number that the program casts a rule to
pub rule_tag : (r : Rule) → tag_of the_type r + 1 ≡ rule_number r
rule_tag Left = refl
rule_tag Right = refl
rule_tag Open = refl
rule_tag Join = refl
rule_tag Seal = refl
rule_tag SumRule = refl
rule_tag Unlock = refl
rule_tag Lock = refl

-- a step's number, by its rule
pub rule_step : (h i : ℕ) (r : Rule) → h * 65536 + ((tag_of the_type r + 1) * 256 + i) ≡ number h (rule_number r) i
rule_step h i r = omega (arith, rule_tag r)

-- a known entry, by the kind of its key
module _ (on : Setting) (g key i : ℕ) {k : ℕ} (p : k ≡ key_kind key) where
  pub gives_pair : 2 ≡ k → {l r : ℕ} → l ≡ key_left key → r ≡ key_right key → (by_rule on l 1 i ++ by_rule on r 2 i) ≡ key_gives on g key i
  unfolding key_gives
  gives_pair q pl pr = rw (sym (q ∙ p), pl, pr)

  pub gives_enc : 3 ≡ k → {l r : ℕ} {t : Bool} → l ≡ key_left key → r ≡ key_right key → t ≡ member g r → cond t (by_rule on l 3 i) [] ≡ key_gives on g key i
  unfolding key_gives
  gives_enc q pl pr pt = rw (sym (q ∙ p), pt, pl, pr)

  pub gives_lock : 7 ≡ k → {l o : ℕ} {t : Bool} → l ≡ key_left key → o ≡ key_opener key → t ≡ member g o → cond t (by_rule on l 7 i) [] ≡ key_gives on g key i
  unfolding key_gives
  gives_lock q pl po pt = rw (sym (q ∙ p), pt, pl, po)

  pub gives_none : (kind : Kind) → byte_of kind ≡ k → ¬ (kind ≡ Pair) → ¬ (kind ≡ Enc) → ¬ (kind ≡ Aenc) → [] ≡ key_gives on g key i
  unfolding key_gives
  gives_none Zero q f d u = rw (sym (q ∙ p))
  gives_none Atom q f d u = rw (sym (q ∙ p))
  gives_none Pair q f d u = absurd (f refl)
  gives_none Enc q f d u = absurd (d refl)
  gives_none Sum q f d u = rw (sym (q ∙ p))
  gives_none PrivateHalf q f d u = rw (sym (q ∙ p))
  gives_none PublicHalf q f d u = rw (sym (q ∙ p))
  gives_none Aenc q f d u = absurd (u refl)

  -- past every kind
  pub gives_past : 7 < k → [] ≡ key_gives on g key i
  unfolding key_gives
  gives_past l = rw (other 2 (omega arith), other 3 (omega arith), other 7 (omega arith))
    where
      other : (n : ℕ) → n < k → eqb (key_kind key) n ≡ false
      other n h = ne_eqb (key_kind key) n (λ q. omega (arith, p, q))

-- an unknown entry, by the kind k of its key
module _ (on : Setting) (g key i : ℕ) {k : ℕ} (p : k ≡ key_kind key) where
  pub built_rule : (r : Rule) → built_by k ≡ rule_number r → {l : ℕ} {t : Bool} → l ≡ key_left key → t ≡ both_known g key → cond t (by_rule on i (rule_number r) l) [] ≡ key_built on g key i
  unfolding key_built
  built_rule r q pl pt = rw (ap built_by (sym p) ∙ q, ne_eqb (rule_number r) 0 (λ z. omega (arith, rule_tag r, z)), pt, pl)

  pub built_none : built_by k ≡ 0 → [] ≡ key_built on g key i
  unfolding key_built
  built_none z = rw (ap built_by (sym p) ∙ z)
