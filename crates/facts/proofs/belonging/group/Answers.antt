-- `facts::belonging::group` meets its contract: the loop keeps: the sets have the nodes below k (`GroupLaws.Gathered`). Assumes nothing.
use mathlib.Core.Path.{◌≡◌, sym, ap, ◌∙◌}
use mathlib.Core.Bool.{true}
use Prim.Native.Nat.{◌<◌}
use native.Mathlib.Omega.{arith}
use lib.Dec.{ltb}
use lib.ListN.{length}
use borrow.Author.Tests.{ltb-true, lt-ltb}
use Rattle.spec.specs.Rule.{node_at, is_since, is_weak_previous}
use Rattle.spec.proofs.RuleLaws.{length_table}
use Rattle.rule.specs.Nodes.{form_in, table_in}
use Rattle.rule.proofs.NodeLaws.{node_at_lem}
use Rattle.facts.proofs.GroupLaws.{since_in, weak_in, gather_start, gather_next, gather_end}
use Rattle.facts.proofs.belonging.group.Goals as goal

pub loop-k-init : goal.loop-k-init
loop-k-init c = let t = table_in c.args.rule.now in record {
  nodes = gather_start (λ j. ltb j (length t));
  sinces = gather_start (λ j. is_since (node_at t j));
  weak = gather_start (λ j. is_weak_previous (node_at t j));
}

pub loop-k-preserved : goal.loop-k-preserved
loop-k-preserved c = let rule = c.args.rule.now in let t = table_in rule in let k = c.loop-k.k in
    let h : k < length t = omega (arith, length_table form_in rule) in record {
      nodes = gather_next (λ j. ltb j (length t)) k _ _ true (omega arith) (sym (lt-ltb _ _ h)) c.with-nodes.ensures c.loop-k.invariant.nodes;
      sinces = gather_next (λ j. is_since (node_at t j)) k _ _ _ (omega arith) (c.is_since.ensures ∙ ap is_since (sym (node_at_lem rule k))) c.with_if-sinces.ensures c.loop-k.invariant.sinces;
      weak = gather_next (λ j. is_weak_previous (node_at t j)) k _ _ _ (omega arith) (c.is_weak_previous.ensures ∙ ap is_weak_previous (sym (node_at_lem rule k))) c.with_if-weak.ensures c.loop-k.invariant.weak;
    }

pub returns : goal.returns
returns c = let t = table_in c.args.rule.now in
    let e : c.loop-k.k ≡ length t = omega (arith, length_table form_in c.args.rule.now) in record {
      nodes = gather_end (λ j. ltb j (length t)) _ _ (λ j i. rw e (ltb-true _ _ i)) c.loop-k.invariant.nodes;
      sinces = gather_end (λ j. is_since (node_at t j)) _ _ (λ j i. rw e (since_in t j i)) c.loop-k.invariant.sinces;
      weak = gather_end (λ j. is_weak_previous (node_at t j)) _ _ (λ j i. rw e (weak_in t j i)) c.loop-k.invariant.weak;
    }
