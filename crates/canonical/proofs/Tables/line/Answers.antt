-- `canonical::Tables::line` meets its contract: the laws of a line, with a key and without.
use mathlib.Core.Path.{sym, ◌∙◌}
use lib.ListN.{get_or}
use mir.Syntax.{w64}
use mir.Val.{Fits}
use borrow.Author.Rules.{rules}
use Rattle.canonical.proofs.Laws.Buckets.{bucket_set, bucket_key}
use Rattle.canonical.proofs.Laws.Line.{Ready, parts_below, items_below, set_sought, sum_line, standard_line}
use Rattle.canonical.proofs.Tables.line.Goals as goal
use Rattle.canonical.proofs.Tables.line.Goals.{After-record-r}

-- what the function requires, and the record that it reads
ready : (c : After-record-r) → let a = c.args in Ready a.sheet.bytes.now a.i a.self.now.keys a.sets.now a.self.now.reps a.buckets.now c.record-r.result.now
ready c = record { bytes = c.args.sheet.fit; accepted = c.args.sheet.good; within = c.requires.entry; right = c.requires.lines; bucketed = c.requires.bucketed; same = c.record-r.ensures }

pub key_of-key-requires : goal.key_of-key-requires
key_of-key-requires c = parts_below (ready c)

pub sum_of_items-set-requires : goal.sum_of_items-set-requires
sum_of_items-set-requires c = items_below (ready (goal.at.sum_of_items-set-requires c).After-record-r) c.key_of-key.ensures c.if-key-eq0.true

pub rep_of_set-rep-requires : goal.rep_of_set-rep-requires
rep_of_set-rep-requires c = set_sought (ready (goal.at.rep_of_set-rep-requires c).After-record-r) c.sum_of_items-set.result (record { four = search rules; below = λ i. let f : Fits w64 (get_or c.sum_of_items-set.result i 0) = search rules in f.fits }) c.set_bucket-bucket.ensures

pub returns-then-key-eq0 : goal.returns-then-key-eq0
returns-then-key-eq0 c = record {
  line = sum_line (ready (goal.at.returns-then-key-eq0 c).After-record-r) c.key_of-key.ensures c.if-key-eq0.true c.sum_of_items-set.ensures c.rep_of_set-rep.ensures.alone c.rep_of_set-rep.ensures.found;
  bucket = c.set_bucket-bucket.ensures ∙ sym (bucket_set c.sum_of_items-set.result c.if-key-eq0.true);
}

pub returns : goal.returns
returns c = record {
  line = standard_line (ready (goal.at.returns c).After-record-r) c.key_of-key.ensures c.if-key-eq0.false c.key_bucket-bucket.ensures c.first_key-first.ensures c.unwrap_or-rep.ensures c.standard_set-set.ensures;
  bucket = c.key_bucket-bucket.ensures ∙ sym (bucket_key c.standard_set-set.result c.if-key-eq0.false);
}
