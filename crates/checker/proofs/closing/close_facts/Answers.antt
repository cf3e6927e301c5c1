-- `checker::closing::close_facts` meets its contract: the loop keeps: the nodes below k are closed. Assumes nothing.
use mathlib.Core.Path.{◌≡◌, refl, ap, ◌∙◌}
use native.Mathlib.Numerals.{add-one}
use native.Mathlib.Omega.{arith}
use lib.ListN.{length}
use Rattle.spec.specs.Facts.{close, close_node, close_below}
use Rattle.spec.proofs.RuleLaws.{length_table}
use Rattle.rule.specs.Nodes.{table_in, form_in}
use Rattle.facts.specs.FactSets.{facts_of}
use Rattle.checker.proofs.closing.close_facts.Goals as goal

pub loop-k-init : goal.loop-k-init
unfolding close_below
loop-k-init c = refl

pub loop-k-preserved : goal.loop-k-preserved
unfolding close_below
loop-k-preserved c = rw add-one (c.close_node-y.ensures ∙ ap (close_node (table_in c.args.rule.now) c.loop-k.k) c.loop-k.invariant)

pub returns : goal.returns
unfolding close
returns c = let rule = c.args.rule.now in
    let e : c.loop-k.k ≡ length (table_in rule) = omega (arith, length_table form_in rule) in
    c.loop-k.invariant ∙ ap (λ n. close_below n (table_in rule) (facts_of c.args.x)) e
