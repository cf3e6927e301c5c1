-- `checker::passing::pass_present` meets its contract: the loop keeps: the three sets have the nodes below k (`PassLaws.present_is`). Assumes nothing.
use mathlib.Core.Path.{◌≡◌, sym, ap, ap₂, ◌∙◌}
use mathlib.Core.Bool.{◌&&◌}
use native.Mathlib.Omega.{arith}
use lib.ListN.{length}
use Rattle.spec.specs.Rule.{node_at, is_past, next_of}
use Rattle.spec.proofs.BoolLaws.{and_both}
use Rattle.spec.proofs.RuleLaws.{length_table, past_in}
use Rattle.sets.specs.Sets.{set_of}
use Rattle.rule.specs.Nodes.{table_in, form_in}
use Rattle.rule.proofs.NodeLaws.{node_at_lem}
use Rattle.facts.specs.FactSets.{facts_of}
use Rattle.facts.proofs.GroupLaws.{gather_start, gather_next, gather_end}
use Rattle.checker.proofs.PassLaws.{emptied, present_is}
use Rattle.checker.proofs.passing.pass_present.Goals as goal

pub loop-k-init : goal.loop-k-init
loop-k-init c = let a = c.args in let t = table_in a.rule.now in record {
  priors = gather_start (λ j. is_past (node_at t j) && set_of a.x.t (next_of t j));
  no_priors = gather_start (λ j. is_past (node_at t j) && set_of a.x.f (next_of t j));
  work = gather_start (λ j. is_past (node_at t j) && set_of a.x.w j);
}

pub loop-k-preserved : goal.loop-k-preserved
loop-k-preserved c = let a = c.args in let t = table_in a.rule.now in let k = c.loop-k.k in
    let past = c.is_past-past.ensures ∙ ap is_past (sym (node_at_lem a.rule.now k)) in record {
      priors = gather_next (λ j. is_past (node_at t j) && set_of a.x.t (next_of t j)) k _ _ _ (omega arith) (ap₂ ◌&&◌ past (c.has.ensures ∙ ap (set_of a.x.t) c.next_of-next.ensures)) c.with_if-a.ensures c.loop-k.invariant.priors;
      no_priors = gather_next (λ j. is_past (node_at t j) && set_of a.x.f (next_of t j)) k _ _ _ (omega arith) (ap₂ ◌&&◌ past (c.has-in-loop-k.ensures ∙ ap (set_of a.x.f) c.next_of-next.ensures)) c.with_if-b.ensures c.loop-k.invariant.no_priors;
      work = gather_next (λ j. is_past (node_at t j) && set_of a.x.w j) k _ _ _ (omega arith) (ap₂ ◌&&◌ past c.has-in-loop-k-2.ensures) c.with_if-c.ensures c.loop-k.invariant.work;
    }

pub returns : goal.returns
returns c = let a = c.args in
    let t = table_in a.rule.now in
    let d = c.default.ensures in
    let e : c.loop-k.k ≡ length t = omega (arith, length_table form_in a.rule.now) in
    present_is t (facts_of a.x) _ (emptied _ d.0) (emptied _ d.1.0)
    (gather_end (λ j. is_past (node_at t j) && set_of a.x.t (next_of t j)) _ _ (λ j i. rw e (past_in t j (and_both (is_past (node_at t j)) _ i).0)) c.loop-k.invariant.priors)
    (gather_end (λ j. is_past (node_at t j) && set_of a.x.f (next_of t j)) _ _ (λ j i. rw e (past_in t j (and_both (is_past (node_at t j)) _ i).0)) c.loop-k.invariant.no_priors)
    (emptied _ d.1.1.1.1.0) (emptied _ d.1.1.1.1.1.0)
    (gather_end (λ j. is_past (node_at t j) && set_of a.x.w j) _ _ (λ j i. rw e (past_in t j (and_both (is_past (node_at t j)) _ i).0)) c.loop-k.invariant.work)
