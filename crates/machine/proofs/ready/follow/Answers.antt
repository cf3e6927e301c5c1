-- `machine::ready::follow` meets its contract: the rule moved to the second form has the same nodes (`SecondLaws` of crate rule). Assumes nothing.
use mathlib.Core.Path.{sym, subst, ap, ◌∙◌}
use Prim.Native.Nat.{◌≤◌}
use native.Mathlib.Omega.{arith}
use lib.ListN.{length}
use Rattle.spec.specs.Rule.{Table}
use Rattle.spec.specs.Ready.{worked_out}
use Rattle.sets.specs.Sets.{set_of}
use Rattle.rule.specs.Nodes.{table_in, table_by}
use Rattle.rule.proofs.EachLaws.{length_each}
use Rattle.rule.proofs.SecondLaws.{second_few, second_table}
use Rattle.machine.specs.Machines.{readiness_of}
use Rattle.machine.specs.Renewals.{renewed}
use Rattle.machine.proofs.ready.follow.Goals as goal

pub returns-in-None : goal.returns-in-None
returns-in-None g c =
    let t = table_by g.W.Word.IS_WIDE (g.W.Word.numbers c.args.rule.now) in
    sym (ap (λ o. renewed o t c.args.registers (readiness_of c.args.before)) c.in-None.is) ∙ c.renewal_of.ensures t c.args.registers

pub in_second_form-table-requires : goal.in_second_form-table-requires
in_second_form-table-requires g c = omega (arith, length_each g.met.W.Word.each c.args.rule.now, c.requires)

pub work_out-requires : goal.work_out-requires
work_out-requires g c =
    subst (λ r. length r ≤ 64) (sym c.in_second_form-table.ensures) (second_few g.W.Word.IS_WIDE (g.W.Word.numbers c.args.rule.now) c.requires)

pub returns-in-Some : goal.returns-in-Some
returns-in-Some g c =
    let t = table_by g.W.Word.IS_WIDE (g.W.Word.numbers c.args.rule.now) in
    c.work_out.ensures
    ∙ ap (λ (x : Table). worked_out x c.args.registers (set_of c.in-Some.priors) (set_of c.args.before.tested))
    (ap table_in c.in_second_form-table.ensures ∙ second_table g.W.Word.IS_WIDE (g.W.Word.numbers c.args.rule.now))
    ∙ sym (ap (λ o. renewed o t c.args.registers (readiness_of c.args.before)) c.in-Some.is) ∙ c.renewal_of.ensures t c.args.registers
