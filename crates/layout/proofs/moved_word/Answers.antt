-- `layout::moved_word` meets its contract: by whether the instruction has a target (`MoveLaws`). Assumes nothing.
use mathlib.Core.Path.{◌≡◌, sym, ap, ◌∙◌}
use mathlib.Core.Bool.{true}
use native.Mathlib.Omega.{arith}
use lib.ListN.{get_or}
use Rattle.spec.specs.Script.{target_of, fields, word_of, instruction_of, instruction_read, bare_code, word_for, stored_fit}
use Rattle.spec.specs.Weaver.{start_of, retarget}
use Rattle.rule.specs.Nodes.{table_in}
use Rattle.script.specs.Lines.{number_of_opcode, fields_in}
use Rattle.layout.proofs.MoveLaws.{target_some, target_none, moved_word, unmoved_word}
use Rattle.layout.proofs.StartLaws.{target_inside, start_few, word_fit}
use Rattle.layout.proofs.moved_word.Goals as goal

pub start_of-requires : goal.start_of-requires
unfolding instruction_read
start_of-requires c =
    let a = c.args in
    let x = c.decode-x.result in
    let f = c.decode-x.ensures.fields in
    let target = target_some (instruction_of (fields_in x)) x.target c.has_target.result c.has_target.ensures c.if-has_target.true in
    (c.requires.0, target_inside a.rule.now a.bare.now c.requires.0.weavable a.l x.target c.requires.1 (ap (λ g. target_of (instruction_of g)) (sym f) ∙ target))

pub encode-requires : goal.encode-requires
unfolding instruction_read
encode-requires c =
    let a = c.args in
    let x = c.decode-x.result in
    let f = c.decode-x.ensures.fields in
    let small = c.decode-x.ensures.small in
    let ok = c.requires.0.weavable in
    let target = target_some (instruction_of (fields_in x)) x.target c.has_target.result c.has_target.ensures c.if-has_target.true in
    let inside = target_inside a.rule.now a.bare.now ok a.l x.target c.requires.1 (ap (λ g. target_of (instruction_of g)) (sym f) ∙ target) in
    (small.0, small.1, small.2, omega (arith, c.start_of.ensures, start_few a.rule.now a.bare.now ok x.target inside))

pub returns-then-has_target : goal.returns-then-has_target
unfolding instruction_read
returns-then-has_target c =
    let a = c.args in
    let x = c.decode-x.result in
    let f = c.decode-x.ensures.fields in
    let to = start_of (table_in a.rule.now) (bare_code a.bare.now) in
    let target = target_some (instruction_of (fields_in x)) x.target c.has_target.result c.has_target.ensures c.if-has_target.true in
    let fit : stored_fit (fields_in x) ≡ true = ap stored_fit f ∙ word_fit a.rule.now a.bare.now c.requires.0.weavable a.l c.requires.1 in
    c.encode.ensures ∙ ap (λ n. word_of (fields (number_of_opcode x.opcode) x.r x.c n)) c.start_of.ensures ∙ sym (moved_word (fields_in x) fit to target)
    ∙ ap (λ g. word_for (retarget to (instruction_of g))) f

pub returns-else-has_target : goal.returns-else-has_target
unfolding instruction_read
returns-else-has_target c =
    let a = c.args in
    let x = c.decode-x.result in
    let f = c.decode-x.ensures.fields in
    let w = get_or a.bare.now a.l 0 in
    let none = target_none (instruction_of (fields_in x)) x.target c.has_target.result c.has_target.ensures c.if-has_target.false in
    let fit = word_fit a.rule.now a.bare.now c.requires.0.weavable a.l c.requires.1 in
    sym (unmoved_word w (c.type_inv.bare a.l).fits fit (start_of (table_in a.rule.now) (bare_code a.bare.now)) (ap (λ g. target_of (instruction_of g)) (sym f) ∙ none))
