-- `weaver::update::put_update` meets its contract: other nodes have no code (`UpdateLaws.no_code`). Assumes nothing.
use mathlib.Core.Path.{◌≡◌, sym, ap, ◌∙◌, subst}
use Prim.Native.Nat.{◌-◌}
use Rattle.spec.specs.Weaver.{update_size, update}
use Rattle.rule.specs.Nodes.{table_in, node_read}
use Rattle.rule.proofs.NodeLaws.{node_at_lem}
use Rattle.rule.proofs.TagLaws.{rest_not_past}
use Rattle.facts.specs.FactSets.{facts_of}
use Rattle.facts.specs.Written.{Written}
use Rattle.facts.proofs.OverLaws.{written_as, written_none}
use Rattle.weaver.proofs.UpdateLaws.{no_code}
use Rattle.weaver.proofs.update.put_update.Goals as goal

pub put_since-requires : goal.put_since-requires
put_since-requires g c = let a = c.args in (c.requires, node_at_lem a.rule.now.nodes.now a.k ∙ sym c.read_node-node.ensures.node ∙ ap node_read c.in-Since.is)

pub put_weak_previous-requires : goal.put_weak_previous-requires
put_weak_previous-requires g c = let a = c.args in (c.requires, node_at_lem a.rule.now.nodes.now a.k ∙ sym c.read_node-node.ensures.node ∙ ap node_read c.in-WeakPrevious.is)

pub returns-in_default : goal.returns-in_default
returns-in_default g c = let a = c.args in
    let wide = g.W.Word.IS_WIDE in
    let out = g.W.Word.numbers a.out.now in
    let t = table_in a.rule.now.nodes.now in
    let F = facts_of a.x in
    let at = a.place - a.base in
    let n = no_code t _ a.k a.place F (rest_not_past c.read_node-node.result c.in_default.not-Since c.in_default.not-WeakPrevious) in
    subst (λ y. (0 ≡ update_size t y) × Written wide at (update t y a.k a.place F) out out) (sym (node_at_lem a.rule.now.nodes.now a.k ∙ sym c.read_node-node.ensures.node))
    (n.0, written_as wide at _ _ out out n.1 (written_none wide at out))
