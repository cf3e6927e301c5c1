-- `checker::passing::pass_present` meets its contract: the loop keeps: the three sets have the nodes below k (`PassLaws.present_is`). Assumes nothing.
use mathlib.Core.Bool.{◌&&◌}
use Rattle.spec.specs.Rule.{node_at, is_past, next_of}
use Rattle.sets.specs.Sets.{set_of}
use Rattle.rule.specs.Nodes.{table_in}
use Rattle.facts.proofs.GroupLaws.{Gathered}
use Rattle.checker.proofs.passing.pass_present.Given as goal

abbrev pub invariant-loop-k : goal.invariant-loop-k
invariant-loop-k l = let t = table_in l.rule in record {
  priors : Gathered (λ j. is_past (node_at t j) && set_of l.x.t (next_of t j)) l.k l.a;
  no_priors : Gathered (λ j. is_past (node_at t j) && set_of l.x.f (next_of t j)) l.k l.b;
  work : Gathered (λ j. is_past (node_at t j) && set_of l.x.w j) l.k l.c;
}
