-- The rules as the program names them. Defined: `rule_number`, the number of a rule.
use Rattle.std.specs.Prelude.{ℕ}
use Rattle.offers.specs.declared.rules.Rule.{Rule}
use Rattle.offers.specs.declared.rules.Rule.TheVariants.{Left, Right, Open, Join, Seal, Sum, Unlock, Lock}

-- document 01: "1 left, 2 right, 3 open, 4 join, 5 seal, 6 sum"; document 02: 7 unlock, 8 lock
abbrev pub rule_number : Rule → ℕ
rule_number Left = 1
rule_number Right = 2
rule_number Open = 3
rule_number Join = 4
rule_number Seal = 5
rule_number Sum = 6
rule_number Unlock = 7
rule_number Lock = 8
