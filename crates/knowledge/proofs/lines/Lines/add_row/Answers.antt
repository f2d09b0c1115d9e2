-- `knowledge::lines::Lines::add_row` meets its contract: two stores, and a member more where nothing is left.
use mathlib.Core.Path.{refl, sym, ◌∙◌}
use native.Mathlib.Omega.{arith}
use borrow.Author.Rules.{rules}
use Rattle.bitset.specs.Words.{value}
use Rattle.knowledge.proofs.Laws.Added.{one_line, one_emptied, one_kept}
use Rattle.knowledge.proofs.lines.Lines.add_row.Goals as goal

pub returns-then-is_empty : goal.returns-then-is_empty
returns-then-is_empty c = let a = c.args.self.now in let k = c.args.k in let v = value c.args.vector in let u = value c.args.uses in let x = c.sum-remainder in let w = c.sum in
    record {
      swept = λ h. let p = c.put.ensures in
          record {
            sizes = record { remainders = search rules; used = search rules; empty = p.words };
            line = one_line k v u a.remainders a.used x.result w.result (omega arith) (omega arith) x.ensures w.ensures;
            empty = one_emptied k v u a.remainders a.used x.result w.result (omega arith) (omega arith) x.ensures w.ensures a.empty _ (sym c.is_empty.ensures ∙ c.if-is_empty.true) p.set;
          };
      columns = refl;
    }

pub returns-else-is_empty : goal.returns-else-is_empty
returns-else-is_empty c = let a = c.args.self.now in let k = c.args.k in let v = value c.args.vector in let u = value c.args.uses in let x = c.sum-remainder in let w = c.sum in
    record {
      swept = λ h. record {
        sizes = record { remainders = search rules; used = search rules; empty = h.empty };
        line = one_line k v u a.remainders a.used x.result w.result (omega arith) (omega arith) x.ensures w.ensures;
        empty = one_kept k v u a.remainders a.used x.result w.result (omega arith) (omega arith) x.ensures w.ensures a.empty (sym c.is_empty.ensures ∙ c.if-is_empty.false);
      };
      columns = refl;
    }
