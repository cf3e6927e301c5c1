-- `machine::step_in` meets its contract: nothing where the line cannot be run, and else what its instruction does to the machine and its
-- readiness (`StepLaws`, `ReadyLaws`). Assumes nothing.
use mathlib.Core.Path.{refl, sym, ap, ◌∙◌}
use native.Mathlib.Omega.{arith}
use Rattle.spec.specs.Machine.{acting}
use Rattle.rule.specs.Nodes.{form_by}
use Rattle.script.proofs.LineLaws.{word_instruction, line_instruction}
use Rattle.machine.specs.Machines.{machine_of, state_of, names_held}
use Rattle.machine.proofs.StepLaws.{within_all, can_out}
use Rattle.machine.proofs.ReadyLaws.{state_not, state_step}
use Rattle.rule.proofs.EachLaws.{length_each}
use Rattle.machine.proofs.step_in.Goals as goal

pub returns-then-not-can_run : goal.returns-then-not-can_run
returns-then-not-can_run g c =
    let a = c.args in
    state_not g.W.Word.IS_WIDE (g.W.Word.numbers a.rule.now) (g.W.Word.numbers a.script.now) a.inputs.now
    (state_of a.m a.history.now) (sym c.can_run.ensures ∙ c.if-not-can_run.true)

pub line_word-word-requires : goal.line_word-word-requires
line_word-word-requires g c =
    let a = c.args in
    (can_out g.W.Word.IS_WIDE (g.W.Word.numbers a.script.now) a.m.line (g.W.Word.numbers a.rule.now) c.requires
    (sym c.can_run.ensures ∙ c.if-not-can_run.false)).0

pub advance-core-requires : goal.advance-core-requires
advance-core-requires g c =
    let a = c.args in
    let can = sym c.can_run.ensures ∙ c.if-not-can_run.false in
    let (line, held) = can_out g.W.Word.IS_WIDE (g.W.Word.numbers a.script.now) a.m.line (g.W.Word.numbers a.rule.now) c.requires can in
    let same = ap (λ m. m.line) (c.from.ensures a.history.now) in
    (omega (arith, length_each g.met.W.Word.each a.script.now, c.well_formed), ap names_held (word_instruction g.W.Word.IS_WIDE (g.W.Word.numbers a.script.now) a.m.line line _ c.line_word-word.ensures) ∙ held)

pub returns : goal.returns
returns g c =
    let a = c.args in
    let can = sym c.can_run.ensures ∙ c.if-not-can_run.false in
    let inside = (can_out g.W.Word.IS_WIDE (g.W.Word.numbers a.script.now) a.m.line (g.W.Word.numbers a.rule.now) c.requires can).0 in
    let m = machine_of a.m a.history.now in
    let rules = g.W.Word.numbers a.rule.now in
    let word = word_instruction g.W.Word.IS_WIDE (g.W.Word.numbers a.script.now) a.m.line inside _ c.line_word-word.ensures in
    let here = line_instruction g.W.Word.IS_WIDE (g.W.Word.numbers a.script.now) a.m.line inside _ c.line_word-word.ensures _ c.decode.ensures.fields in
    state_step g.W.Word.IS_WIDE rules (g.W.Word.numbers a.script.now) a.inputs.now (state_of a.m a.history.now) can _
    (c.advance-core.ensures ∙ ap (acting a.inputs.now _) (c.from.ensures a.history.now) ∙ ap (λ i. acting a.inputs.now i m) word) _ (sym (within_all (form_by g.W.Word.IS_WIDE) rules c.requires)) _ here _ refl _
    c.follow-readiness.ensures
