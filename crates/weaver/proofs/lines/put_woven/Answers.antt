-- `weaver::lines::put_woven` meets its contract: a block, or a line with its target moved (`LinesLaws`). Assumes nothing.
use mathlib.Core.Path.{sym, ap, ◌∙◌}
use Rattle.spec.specs.Weaver.{bare_facts, start_of, retarget}
use Rattle.spec.specs.Script.{bare_code, instruction_at, is_present, word_for, instruction_read, instruction_of}
use Rattle.layout.proofs.StartLaws.{code_at}
use Rattle.rule.specs.Nodes.{table_in}
use Rattle.facts.proofs.OverLaws.{one_line, written_as}
use Rattle.weaver.proofs.LinesLaws.{present_line_lem, other_line, woven_block, woven_line}
use Rattle.weaver.proofs.NotedLaws.{bare_noted}
use Rattle.weaver.proofs.lines.put_woven.Goals as goal

pub put_block-requires : goal.put_block-requires
unfolding instruction_read
put_block-requires g c = let a = c.args in let out = g.W.Word.numbers a.out.now in (woven_block c.requires.0 a.l a.place out c.requires.1 c.requires.2 (ap is_present (code_at a.bare.now a.l) ∙ ap (λ f. is_present (instruction_of f)) (sym c.decode.ensures.fields) ∙ sym c.is_present.ensures ∙ c.if-is_present.true) c.requires.3, c.requires.0.started.block_is, c.requires.0.past_is)

pub put_line-requires : goal.put_line-requires
unfolding instruction_read
put_line-requires g c = let a = c.args in let out = g.W.Word.numbers a.out.now in woven_line c.requires.0 a.l out c.requires.3 (ap is_present (code_at a.bare.now a.l) ∙ ap (λ f. is_present (instruction_of f)) (sym c.decode.ensures.fields) ∙ sym c.is_present.ensures ∙ c.if-is_present.false)

pub returns-then-is_present : goal.returns-then-is_present
unfolding instruction_read
returns-then-is_present g c = let a = c.args in let wide = g.W.Word.IS_WIDE in let out = g.W.Word.numbers a.out.now in let p = present_line_lem (table_in a.rule.now.nodes.now) (bare_code a.bare.now) a.place (instruction_at (bare_code a.bare.now) a.l) (ap is_present (code_at a.bare.now a.l) ∙ ap (λ f. is_present (instruction_of f)) (sym c.decode.ensures.fields) ∙ sym c.is_present.ensures ∙ c.if-is_present.true) in
    (c.requires.0.started.block_is ∙ p.0, written_as wide 0 _ _ out _ p.1 c.put_block.ensures)

pub returns-else-is_present : goal.returns-else-is_present
unfolding instruction_read
returns-else-is_present g c = let a = c.args in
    let wide = g.W.Word.IS_WIDE in
    let out = g.W.Word.numbers a.out.now in
    let t = table_in a.rule.now.nodes.now in
    let code = bare_code a.bare.now in
    let p = other_line t code a.place (instruction_at code a.l) (ap is_present (code_at a.bare.now a.l) ∙ ap (λ f. is_present (instruction_of f)) (sym c.decode.ensures.fields) ∙ sym c.is_present.ensures ∙ c.if-is_present.false) in
    let i = retarget (start_of t code) (instruction_at code a.l) in (
      p.0,
      written_as wide 0 _ _ out _ p.1
          (one_line wide 0 out _ _ i (bare_facts t) _ (c.moved_word-word.ensures ∙ ap (λ x. word_for (retarget (start_of t code) x)) (sym (code_at a.bare.now a.l))) (c.noted.ensures ∙ bare_noted t a.rule.now.past c.requires.0.past_is) c.put_line.ensures),
    )
