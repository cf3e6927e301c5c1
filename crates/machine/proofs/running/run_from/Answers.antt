-- `machine::running::run_from` meets its contract. The loop keeps: the line is there, and the run that is left of the budget from
-- here is the whole run. The measure is what is left of the budget. Assumes nothing.
use Rattle.machine.specs.Machines.{names_held}
use Rattle.machine.specs.Runs.{stop_before}
use Rattle.spec.specs.Machine.{stops, acting}
use lib.Dec.{eqb}
use mathlib.Core.Path.{ap, ◌∙◌}
use native.Mathlib.Omega.{arith}
use Rattle.machine.specs.Machines.{machine_at}
use Rattle.machine.specs.Runs.{next_of}
use Rattle.script.proofs.LineLaws.{word_instruction, line_instruction}
use Rattle.machine.proofs.RunLaws.{turn_less, turn_goes, turn_ends}
use Rattle.rule.proofs.EachLaws.{length_each}
use Rattle.machine.proofs.running.run_from.Goals as goal

pub advance-core-requires : goal.advance-core-requires
advance-core-requires g c =
    let a = c.args in
    let line = c.loop-stop.invariant.0 in
    (omega (arith, length_each g.met.W.Word.each a.script.now, c.well_formed), ap names_held (word_instruction g.W.Word.IS_WIDE (g.W.Word.numbers a.script.now) c.loop-stop.core.line c.loop-stop.invariant.0 _ c.line_word-word.ensures) ∙ c.requires.held c.loop-stop.core.line c.loop-stop.invariant.0)

pub overflow_add-steps : goal.overflow_add-steps
overflow_add-steps g c =
    let a = c.args in
    let m = machine_at c.loop-stop.registers c.loop-stop.core c.loop-stop.history in
    let here = line_instruction g.W.Word.IS_WIDE (g.W.Word.numbers a.script.now) c.loop-stop.core.line c.loop-stop.invariant.0 _ c.line_word-word.ensures _ c.decode.ensures.fields in
    let told = c.before_step-next.ensures c.loop-stop.registers ∙ ap (λ i. stop_before (eqb c.loop-stop.steps a.budget) (stops a.inputs.now i m)) here in
    let fits = c.ranges.budget.fits in
    let less = turn_less g.W.Word.IS_WIDE (g.W.Word.numbers a.script.now) a.inputs.now m c.loop-stop.steps a.budget c.loop-stop.invariant.1 (next_of c.before_step-next.result) told (ap next_of c.in_default.is) in
    omega arith

pub loop-stop-smaller : goal.loop-stop-smaller
loop-stop-smaller g c =
    let a = c.args in
    let m = machine_at c.loop-stop.registers c.loop-stop.core c.loop-stop.history in
    let here = line_instruction g.W.Word.IS_WIDE (g.W.Word.numbers a.script.now) c.loop-stop.core.line c.loop-stop.invariant.0 _ c.line_word-word.ensures _ c.decode.ensures.fields in
    let told = c.before_step-next.ensures c.loop-stop.registers ∙ ap (λ i. stop_before (eqb c.loop-stop.steps a.budget) (stops a.inputs.now i m)) here in
    let less = turn_less g.W.Word.IS_WIDE (g.W.Word.numbers a.script.now) a.inputs.now m c.loop-stop.steps a.budget c.loop-stop.invariant.1 (next_of c.before_step-next.result) told (ap next_of c.in_default.is) in
    omega arith

pub loop-stop-preserved : goal.loop-stop-preserved
loop-stop-preserved g c =
    let a = c.args in
    let m = machine_at c.loop-stop.registers c.loop-stop.core c.loop-stop.history in
    let here = line_instruction g.W.Word.IS_WIDE (g.W.Word.numbers a.script.now) c.loop-stop.core.line c.loop-stop.invariant.0 _ c.line_word-word.ensures _ c.decode.ensures.fields in
    let told = c.before_step-next.ensures c.loop-stop.registers ∙ ap (λ i. stop_before (eqb c.loop-stop.steps a.budget) (stops a.inputs.now i m)) here in
    let stop = ap next_of c.in_default.is in
    let less = turn_less g.W.Word.IS_WIDE (g.W.Word.numbers a.script.now) a.inputs.now m c.loop-stop.steps a.budget c.loop-stop.invariant.1 (next_of c.before_step-next.result) told stop in
    let goes = turn_goes g.W.Word.IS_WIDE (g.W.Word.numbers a.script.now) a.inputs.now m c.loop-stop.steps a.budget c.loop-stop.invariant.1 (next_of c.before_step-next.result) told c.requires c.loop-stop.invariant.0 stop _ (c.advance-core.ensures ∙ ap (λ i. acting a.inputs.now i m) (word_instruction g.W.Word.IS_WIDE (g.W.Word.numbers a.script.now) c.loop-stop.core.line c.loop-stop.invariant.0 _ c.line_word-word.ensures)) in (
      goes.line,
      omega arith,
      c.advance-core.auto.history ∙ c.loop-stop.invariant.2,
      goes.same ∙ c.loop-stop.invariant.3,
    )

pub returns-in-Some : goal.returns-in-Some
returns-in-Some g c =
    let a = c.args in
    let m = machine_at c.loop-stop.registers c.loop-stop.core c.loop-stop.history in
    let here = line_instruction g.W.Word.IS_WIDE (g.W.Word.numbers a.script.now) c.loop-stop.core.line c.loop-stop.invariant.0 _ c.line_word-word.ensures _ c.decode.ensures.fields in
    let told = c.before_step-next.ensures c.loop-stop.registers ∙ ap (λ i. stop_before (eqb c.loop-stop.steps a.budget) (stops a.inputs.now i m)) here in
    let both = turn_ends g.W.Word.IS_WIDE (g.W.Word.numbers a.script.now) a.inputs.now m c.loop-stop.steps a.budget c.loop-stop.invariant.1 (next_of c.before_step-next.result) told c.requires c.loop-stop.invariant.0 _ (ap next_of c.in-Some.is) _ c.loop-stop.invariant.3 in
    record { report = both.0; left = both.1 }
