-- `weaver::update::put_shared` meets its contract: the node decided by what it is, and the set lines (`UpdateLaws`). Assumes nothing.
use mathlib.Core.List.{◌++◌}
use mathlib.Core.Path.{◌≡◌, sym, ap, ◌∙◌}
use Prim.Native.Nat.{◌+◌, ◌-◌}
use lib.ListN.{length, get_or}
use Rattle.spec.specs.Rule.{node_at}
use Rattle.spec.specs.Weaver.{size_from, decide_from, decide, setting}
use Rattle.spec.proofs.RuleLaws.{rule_out}
use Rattle.spec.proofs.WeaverLaws.{length_own}
use Rattle.rule.specs.Nodes.{form_in, table_in}
use Rattle.rule.proofs.NodeLaws.{node_at_lem}
use Rattle.layout.proofs.SizeLaws.{own_small}
use Rattle.facts.specs.FactSets.{facts_of}
use Rattle.facts.proofs.OverLaws.{written_then, written_as}
use Rattle.weaver.proofs.DecisionLaws.{kept_length}
use Rattle.weaver.proofs.UpdateLaws.{own_is, shared_size_lem, shared_own, shared_code_lem, shared_space}
use native.Mathlib.Omega.{arith}
use borrow.Author.Rules.{rules}
use Rattle.weaver.proofs.update.put_shared.Goals as goal

pub node_size-n-requires : goal.node_size-n-requires
node_size-n-requires g c = let a = c.args in
    let u = c.requires.0 in
    let few = own_small a.rule.now.nodes.now a.rule.now.sizes.now a.k u.sized u.is_node in
    let same = ap (λ x. size_from (λ j. get_or a.rule.now.sizes.now j 0) x 0) (c.read_node.ensures.node ∙ sym (node_at_lem a.rule.now.nodes.now a.k)) in
    (search rules, c.read_node.ensures.small, omega arith)

pub put_decision-requires : goal.put_decision-requires
put_decision-requires g c = let a = c.args in shared_own c.requires.0 c.requires.1 c.node_size-n.ensures c.read_node.ensures.node

pub put_setting-requires : goal.put_setting-requires
put_setting-requires g c = let a = c.args in let s = shared_space c.requires.0 c.requires.1 c.node_size-n.ensures c.read_node.ensures.node in let s0 = s.0 in let i = s.1 in let b = s.2 in let o = s.3 in let m = (kept_length g.met.W.Word.each _ _ c.put_decision.auto.out) in (omega arith, omega arith, omega arith, omega arith, omega arith)

pub returns : goal.returns
returns g c = let a = c.args in let wide = g.W.Word.IS_WIDE in let out = g.W.Word.numbers a.out.now in let s = shared_space c.requires.0 c.requires.1 c.node_size-n.ensures c.read_node.ensures.node in let s0 = s.0 in let i = s.1 in let b = s.2 in let o = s.3 in
    let F = facts_of a.x in
    let t = table_in a.rule.now.nodes.now in
    let n = c.node_size-n.result in
    let at = a.place - a.base in
    let first = decide_from t (decide t) (node_at t a.k) a.k a.place (a.place + n) (a.place + n + 2) F in
    let z = own_is c.requires.0 c.requires.1 c.node_size-n.ensures c.read_node.ensures.node in
    let d = length_own t (rule_out form_in a.rule.now.nodes.now c.requires.0.sized.0).ordered a.k a.place (a.place + n) (a.place + n + 2) F in
    let next : a.place + n - a.base ≡ at + length first = omega arith in (
      shared_size_lem c.requires.0 c.requires.1 c.node_size-n.ensures c.read_node.ensures.node,
      written_as wide at (first ++ setting a.k a.k (a.place + n) F) _ out _ (shared_code_lem c.requires.0 c.requires.1 c.node_size-n.ensures c.read_node.ensures.node F)
          (written_then wide at (a.place + n - a.base) first (setting a.k a.k (a.place + n) F) out _ _ next (omega arith) c.put_decision.ensures c.put_setting.ensures),
    )
