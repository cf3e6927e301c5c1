-- `guard::guard_step` meets its contract (`StateLaws`). Assumes nothing.
use mathlib.Core.Path.{sym, ap, ◌∙◌}
use Rattle.rule.specs.Nodes.{form_by}
use Rattle.spec.specs.Ready.{state_step_of}
use Rattle.numbers.proofs.StateLaws.{step_short, step_large, step_made}
use Rattle.guard.proofs.guard_step.Goals as goal

pub returns-then-state-lt25 : goal.returns-then-state-lt25
returns-then-state-lt25 g c =
    let a = c.args in
    let both = step_short (form_by g.W.Word.IS_WIDE) (g.W.Word.numbers a.rule.now) (g.W.Word.numbers a.script.now) a.inputs.now a.state.now a.history.now c.if-state-lt25.true in
    record { result = both.0; words = both.1.0; left = both.1.1 }

pub returns-then-not-state_fits : goal.returns-then-not-state_fits
returns-then-not-state_fits g c =
    let a = c.args in
    let both = step_large (form_by g.W.Word.IS_WIDE) (g.W.Word.numbers a.rule.now) (g.W.Word.numbers a.script.now) a.inputs.now a.state.now a.history.now c.if-state-lt25.false
    (sym c.state_fits.ensures ∙ c.if-not-state_fits.true) in
    record { result = both.0; words = both.1.0; left = both.1.1 }

pub read_machine-before-requires : goal.read_machine-before-requires
read_machine-before-requires g c = (c.if-state-lt25.false, sym c.state_fits.ensures ∙ c.if-not-state_fits.false)

pub returns : goal.returns
returns g c =
    let a = c.args in
    let made = c.step-after.ensures ∙ ap (state_step_of (form_by g.W.Word.IS_WIDE) (g.W.Word.numbers a.rule.now) (g.W.Word.numbers a.script.now) a.inputs.now) (c.read_machine-before.ensures a.history.now) in
    let both = step_made (form_by g.W.Word.IS_WIDE) (g.W.Word.numbers a.rule.now) (g.W.Word.numbers a.script.now) a.inputs.now a.state.now a.history.now c.if-state-lt25.false
    (sym c.state_fits.ensures ∙ c.if-not-state_fits.false) _ made _ (c.put_machine.ensures _) in
    record { result = both.0; words = both.1.0; left = both.1.1 }
