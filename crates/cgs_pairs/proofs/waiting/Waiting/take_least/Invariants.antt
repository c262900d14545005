use Rattle.std.proofs.Common.{◌≡◌, length}
use Rattle.cgs_pairs.specs.Runs.{AreLeads, AreRuns, pairs_in, sorted}
use Rattle.cgs_pairs.specs.Unpassed.{unpassed}
use Rattle.cgs_pairs.proofs.waiting.Waiting.take_least.Given as goal

-- the pairs that wait are as at the start, but for some that are passed
abbrev pub invariant-loop-pair : goal.invariant-loop-pair
invariant-loop-pair l = record {
  order : l.self-inside.order ≡ l.fn.self.order;
  places : l.self-inside.leads.items ≡ l.fn.self.leads;
  pairs : unpassed l.self-inside.order l.self-inside.leads.items
      (sorted l.self-inside.order (pairs_in l.self-inside.leads.items l.self-inside.runs.entries)) ≡ l.fn.self.pairs;
  leads : AreLeads l.self-inside.order l.self-inside.leads.items;
  runs : AreRuns l.self-inside.order l.self-inside.leads.items l.self-inside.runs.entries;
}

abbrev pub decreases-loop-pair : goal.decreases-loop-pair
decreases-loop-pair l = length (sorted l.self-inside.order (pairs_in l.self-inside.leads.items l.self-inside.runs.entries))
