-- `reasons::nodes::earlier_after` meets its contract (`RegisterLaws`); the sets of the nodes below k are as the definition has them. Assumes nothing.
use Prim.Native.Nat.{suc, ◌<◌}
use mathlib.Core.Path.{sym, ap, subst, ◌∙◌}
use native.Mathlib.Omega.{arith}
use native.Mathlib.Numerals.{add-one}
use lib.ListN.{length, get_or, set, length-set}
use Rattle.spec.proofs.RuleLaws.{rule_out}
use Rattle.rule.specs.Nodes.{form_in, table_in}
use Rattle.limits.proofs.MonitorLaws.{few_held}
use Rattle.reasons.proofs.RegisterLaws.{MovedTo, moved_next, next_few}
use Rattle.reasons.proofs.nodes.earlier_after.Goals as goal

pub offset_bounds-registers-next_of : goal.offset_bounds-registers-next_of
offset_bounds-registers-next_of c = let rule = c.args.rule.now in let few = few_held rule c.requires in let next = next_few (table_in rule) (rule_out form_in rule c.requires).ordered c.loop-k.k in let e = c.next_of.ensures in omega arith

pub bounds-registers-next_of : goal.bounds-registers-next_of
bounds-registers-next_of c = let rule = c.args.rule.now in let few = few_held rule c.requires in let next = next_few (table_in rule) (rule_out form_in rule c.requires).ordered c.loop-k.k in let e = c.next_of.ensures in omega arith

pub bounds-earlier-k : goal.bounds-earlier-k
bounds-earlier-k c = let few = few_held c.args.rule.now c.requires in omega arith

pub loop-k-preserved : goal.loop-k-preserved
loop-k-preserved c = let a = c.args in
    let rule = a.rule.now in
    let few = few_held rule c.requires in
    let inside : c.loop-k.k < length c.loop-k.earlier = omega arith in
    let same = ap (λ j. get_or a.registers j 0) c.next_of.ensures in (
      length-set c.loop-k.earlier c.loop-k.k _ ∙ c.loop-k.invariant.0,
      rw add-one (subst (λ w. MovedTo (table_in rule) a.registers (set c.loop-k.earlier c.loop-k.k w) (suc c.loop-k.k)) (sym same)
          (moved_next (table_in rule) a.registers c.loop-k.earlier c.loop-k.k inside c.loop-k.invariant.1)),
    )
