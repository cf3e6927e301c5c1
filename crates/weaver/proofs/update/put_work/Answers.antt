-- `weaver::update::put_work` meets its contract: a shared node's code, or a past node's (`UpdateLaws`). Assumes nothing.
use mathlib.Core.Path.{sym, ap, ◌∙◌}
use Prim.Native.Nat.{◌-◌}
use Rattle.facts.specs.FactSets.{facts_of}
use Rattle.facts.proofs.OverLaws.{written_as}
use Rattle.weaver.proofs.UpdateLaws.{past_size, past_code, past_updating}
use Rattle.weaver.proofs.update.put_work.Goals as goal

pub put_update-requires : goal.put_update-requires
put_update-requires g c = let a = c.args in past_updating c.requires (sym (ap (λ f. f a.k) c.requires.shared_is) ∙ sym c.has.ensures ∙ c.if-has.false)

pub returns-else-has : goal.returns-else-has
returns-else-has g c = let a = c.args in let wide = g.W.Word.IS_WIDE in let out = g.W.Word.numbers a.out.now in let done = c.put_update.ensures in
    (done.0 ∙ past_size c.requires (sym (ap (λ f. f a.k) c.requires.shared_is) ∙ sym c.has.ensures ∙ c.if-has.false), written_as wide (a.place - a.base) _ _ out _ (past_code c.requires (sym (ap (λ f. f a.k) c.requires.shared_is) ∙ sym c.has.ensures ∙ c.if-has.false) (facts_of a.x)) done.1)
