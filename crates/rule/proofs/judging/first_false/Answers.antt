-- `rule::judging::first_false` meets its contract: a monitor over all states, from the first priors on (`WatchLaws.watch_false`). Assumes
-- nothing.
use mathlib.Core.Path.{ap, ◌∙◌}
use native.Mathlib.Omega.{arith}
use Rattle.spec.specs.Rule.{form64}
use Rattle.spec.specs.Judging.{states_of}
use Rattle.spec.proofs.RuleLaws.{rule_out}
use Rattle.rule.specs.Nodes.{form_in, table_in}
use Rattle.rule.specs.Monitor.{watching}
use Rattle.rule.proofs.WatchLaws.{watch_false}
use Rattle.rule.proofs.judging.first_false.Goals as goal

pub watch-requires : goal.watch-requires
unfolding form64
watch-requires c = let s = c in let n = (rule_out form_in s.args.rule.now s.requires).few_nodes in omega arith

pub returns : goal.returns
returns c =
    let s = c in
    let rule = s.args.rule.now in
    let h = s.args.history.now in
    ap (λ w. w.found) c.watch.ensures ∙ ap (λ p. (watching (table_in rule) 0 (states_of h) p).found) c.first_priors.ensures
    ∙ watch_false rule h s.requires
