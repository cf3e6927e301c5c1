-- `weaver::decision::put_simple` meets its contract: by what the node is (`SimpleLaws`). Assumes nothing.
use mathlib.Core.Path.{refl, ap}
use Rattle.spec.specs.Logic.{equal, below, equal_registers}
use Rattle.spec.specs.Script.{if_test, if_kept, if_work, word_for, fields_for}
use Rattle.spec.specs.Weaver.{decide_from}
use Rattle.rule.specs.Nodes.{node_read}
use Rattle.weaver.proofs.SimpleLaws.{by_leaf, by_goto}
use Rattle.weaver.proofs.decision.put_simple.Goals as goal

pub returns-in-False : goal.returns-in-False
unfolding word_for fields_for
returns-in-False g c = let a = c.args in let wide = g.W.Word.IS_WIDE in let out = g.W.Word.numbers a.out.now in by_goto wide _ _ _ a.at _ _ _ out _ (ap node_read c.in-False.is) c.encode.ensures c.put_line.ensures

pub returns-in-Equal : goal.returns-in-Equal
unfolding decide_from word_for fields_for
returns-in-Equal g c = let a = c.args in let wide = g.W.Word.IS_WIDE in let out = g.W.Word.numbers a.out.now in by_leaf wide _ _ _ a.at _ _ _ out _ (if_test (equal _ _)) _ (ap node_read c.in-Equal.is) (λ t d place. refl) c.encode-branch.ensures c.put_leaf.ensures

pub returns-in-Below : goal.returns-in-Below
unfolding decide_from word_for fields_for
returns-in-Below g c = let a = c.args in let wide = g.W.Word.IS_WIDE in let out = g.W.Word.numbers a.out.now in by_leaf wide _ _ _ a.at _ _ _ out _ (if_test (below _ _)) _ (ap node_read c.in-Below.is) (λ t d place. refl) c.encode-branch-in-Below.ensures c.put_leaf-in-Below.ensures

pub returns-in-Since : goal.returns-in-Since
unfolding decide_from word_for fields_for
returns-in-Since g c = let a = c.args in let wide = g.W.Word.IS_WIDE in let out = g.W.Word.numbers a.out.now in by_leaf wide _ _ _ a.at _ _ _ out _ (if_work _) _ (ap node_read c.in-Since.is) (λ t d place. refl) c.encode-branch-in-Since.ensures c.put_leaf-in-Since.ensures

pub returns-in-WeakPrevious : goal.returns-in-WeakPrevious
unfolding decide_from word_for fields_for
returns-in-WeakPrevious g c = let a = c.args in let wide = g.W.Word.IS_WIDE in let out = g.W.Word.numbers a.out.now in by_leaf wide _ _ _ a.at _ _ _ out _ (if_kept _) _ (ap node_read c.in-WeakPrevious.is) (λ t d place. refl) c.encode-branch-in-WeakPrevious.ensures c.put_leaf-in-WeakPrevious.ensures

pub returns-in-EqualRegisters : goal.returns-in-EqualRegisters
unfolding decide_from word_for fields_for
returns-in-EqualRegisters g c = let a = c.args in let wide = g.W.Word.IS_WIDE in let out = g.W.Word.numbers a.out.now in by_leaf wide _ _ _ a.at _ _ _ out _ (if_test (equal_registers _ _)) _ (ap node_read c.in-EqualRegisters.is) (λ t d place. refl) c.encode-branch-in-EqualRegisters.ensures c.put_leaf-in-EqualRegisters.ensures
