-- The rows are the same, by their numbers.
use Rattle.std.proofs.Common.{rules, subst}
use Rattle.std.specs.List.Sorted.{IsPermutation}
use Rattle.std.proofs.lemmas.List.Sorted.{IsNonDecreasingBy-from_sort_by_key}
use Rattle.btr_store.proofs.load_lines.refused_rows.Goals as goal

pub returns : goal.returns
returns c = record {
  same = subst (λ l. IsPermutation l c.sort_unstable_by_key.new.self.items) c.in_ok-rows.ensures c.sort_unstable_by_key.ensures.permutation;
  sorted = IsNonDecreasingBy-from_sort_by_key (λ row. row.number) _ c.sort_unstable_by_key.ensures.sorted (λ a r q k. search rules);
}
