-- `rule::monitor::first_priors` meets its contract. The loop keeps: the set is that of the nodes below k. Assumes nothing.
use mathlib.Core.Path.{◌≡◌, sym, ap, ap₂, ◌∙◌}
use native.Mathlib.Omega.{arith}
use native.Mathlib.Numerals.{add-one}
use lib.ListN.{length}
use Rattle.rule.specs.Nodes.{form_in}
use Rattle.spec.specs.Rule.{table_of, is_weak_previous}
use Rattle.spec.proofs.RuleLaws.{length_table}
use Rattle.sets.specs.Sets.{adding}
use Rattle.sets.proofs.SetLaws.{empty_is}
use Rattle.rule.specs.Monitor.{first_below, first_priors}
use Rattle.rule.proofs.NodeLaws.{node_at_lem}
use Rattle.rule.proofs.monitor.first_priors.Goals as goal

pub loop-k-init : goal.loop-k-init
unfolding first_below
loop-k-init c = empty_is

pub loop-k-preserved : goal.loop-k-preserved
unfolding first_below
loop-k-preserved c =
    let rule = c.args.rule.now in
    let l = c.loop-k in
    rw add-one
    (c.with_if-priors.ensures ∙ ap₂ (λ s b. adding s l.k b) l.invariant (c.is_weak_previous.ensures ∙ ap is_weak_previous (sym (node_at_lem rule l.k))))

pub returns : goal.returns
unfolding first_priors
returns c =
    let rule = c.args.rule.now in
    let e : c.loop-k.k ≡ length (table_of form_in rule) = omega (arith, length_table form_in rule, c.loop-k-test.false) in
    c.loop-k.invariant ∙ ap (λ n. first_below n (table_of form_in rule)) e
