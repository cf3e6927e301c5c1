-- `weaver::decision::put_leaf` meets its contract: the second line has F of the leaf. Assumes nothing.
use mathlib.Core.Path.{ap₂, ◌∙◌}
use mathlib.Core.List.{◌++◌}
use Prim.Native.Nat.{◌*◌}
use Rattle.spec.specs.Script.{word_for, fields_for}
use Rattle.facts.specs.FactSets.{facts_of}
use Rattle.facts.specs.Written.{stored_line}
use Rattle.rule.specs.Nodes.{over_at}
use Rattle.weaver.proofs.GrowthLaws.{add_second}
use Rattle.weaver.proofs.decision.put_leaf.Goals as goal

pub returns : goal.returns
unfolding word_for fields_for
returns g c = let a = c.args in let wide = g.W.Word.IS_WIDE in let out = g.W.Word.numbers a.out.now in
    c.put_two.ensures ∙ ap₂ (λ v G. over_at (8 * a.at) (stored_line wide a.branch (facts_of a.x) ++ stored_line wide v G) out) c.encode.ensures (c.learn_value-y.ensures ∙ add_second _ _ _)
