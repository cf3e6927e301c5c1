-- `weaver::block::put_keep` meets its contract: a line for a past node, else none. Assumes nothing.
use mathlib.Core.List.{[], ◌∷◌}
use mathlib.Core.Bool.{cond}
use mathlib.Core.Path.{refl, sym, ap}
use Rattle.spec.specs.Weaver.{line}
use Rattle.spec.specs.Script.{keep, word_for, fields_for}
use Rattle.facts.specs.FactSets.{facts_of}
use Rattle.facts.proofs.OverLaws.{one_line, written_as, written_none}
use Rattle.weaver.proofs.block.put_keep.Goals as goal

pub returns-then-is_past : goal.returns-then-is_past
unfolding word_for fields_for
returns-then-is_past g c = let a = c.args in let wide = g.W.Word.IS_WIDE in let out = g.W.Word.numbers a.out.now in let e = sym c.if-is_past.true in
    (ap (λ b. cond b 1 0) e, written_as wide a.at (line (keep a.k) (facts_of a.x) ∷ []) _ out _ (ap (λ b. cond b (line (keep a.k) (facts_of a.x) ∷ []) []) e) (one_line wide a.at out _ _ (keep a.k) (facts_of a.x) _ c.encode.ensures refl c.put_line.ensures))

pub returns-else-is_past : goal.returns-else-is_past
returns-else-is_past g c = let a = c.args in let wide = g.W.Word.IS_WIDE in let out = g.W.Word.numbers a.out.now in let e = sym c.if-is_past.false in
    (ap (λ b. cond b 1 0) e, written_as wide a.at [] _ out out (ap (λ b. cond b (line (keep a.k) (facts_of a.x) ∷ []) []) e) (written_none wide a.at out))
