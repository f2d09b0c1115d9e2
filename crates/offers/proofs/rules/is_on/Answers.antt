-- `offers::rules::is_on` meets its contract: the switch is a bit of the byte.
use mathlib.Core.Path.{◌≡◌, refl}
use Prim.Native.Nat.{ℕ, ◌+◌, ◌-◌, ◌/◌, ◌%◌, ◌^◌}
use lib.Dec.{eqb}
use denote.Enum.Declared.{tag_of}
use Rattle.bitset.specs.Set.{member}
use Rattle.deduction.specs.Setting.{switches}
use Rattle.offers.specs.contracts.rules.Rule.{the_type}
use Rattle.offers.specs.declared.rules.Rule.{Rule}
use Rattle.offers.specs.declared.rules.Rule.TheVariants.{Left, Right, Open, Join, Seal, Sum, Unlock, Lock}
use Rattle.offers.specs.Inner.Rule.{rule_number}
use Rattle.offers.proofs.rules.is_on.Goals as goal

switch : (w : ℕ) (r : Rule) → eqb (w / 2 ^ (tag_of the_type r + 1 - 1) % 2) 1 ≡ switches w (rule_number r)
unfolding switches member
switch w Left = refl
switch w Right = refl
switch w Open = refl
switch w Join = refl
switch w Seal = refl
switch w Sum = refl
switch w Unlock = refl
switch w Lock = refl

pub returns : goal.returns
returns c = switch c.args.rules c.args.rule
