-- `checker::passing::pass_facts` meets its contract: opcode by opcode; a node named is one that a set can hold. Assumes nothing.
use Rattle.spec.specs.Script.{instruction_of, names_allowed}
use Rattle.spec.specs.Facts.{pass}
use Rattle.rule.specs.Nodes.{table_in}
use Rattle.facts.specs.FactSets.{facts_of}
use Rattle.checker.proofs.PassLaws.{named_small, work_small, names_by, dropped, halted}
use Rattle.checker.proofs.passing.pass_facts.Goals as goal

pub pass_set-requires : goal.pass_set-requires
unfolding instruction_of names_allowed
pass_set-requires c = let a = c.args in work_small a.rule.now _ c.requires.0 (names_by (table_in a.rule.now) a.i.r a.i.c a.i.target _ _ c.in-SetWork.is c.requires.1)

pub learn_kept-requires : goal.learn_kept-requires
unfolding instruction_of names_allowed
learn_kept-requires c = let a = c.args in named_small a.rule.now _ c.requires.0 (names_by (table_in a.rule.now) a.i.r a.i.c a.i.target _ _ c.in-IfKept.is c.requires.1)

pub learn_work-requires : goal.learn_work-requires
unfolding instruction_of names_allowed
learn_work-requires c = let a = c.args in work_small a.rule.now _ c.requires.0 (names_by (table_in a.rule.now) a.i.r a.i.c a.i.target _ _ c.in-IfWork.is c.requires.1)

pub pass_keep-requires : goal.pass_keep-requires
unfolding instruction_of names_allowed
pass_keep-requires c = let a = c.args in named_small a.rule.now _ c.requires.0 (names_by (table_in a.rule.now) a.i.r a.i.c a.i.target _ _ c.in-Keep.is c.requires.1)

pub returns-in-Set : goal.returns-in-Set
returns-in-Set c = let a = c.args in
    dropped (table_in a.rule.now) a.i.r a.i.c a.i.target a.taken (facts_of a.x) _ _ c.in-Set.is c.drop_values.ensures

pub returns-in-IfEqual : goal.returns-in-IfEqual
unfolding instruction_of pass
returns-in-IfEqual c = rw c.in-IfEqual.is c.learn_test.ensures

pub returns-in-IfBelow : goal.returns-in-IfBelow
unfolding instruction_of pass
returns-in-IfBelow c = rw c.in-IfBelow.is c.learn_test-in-IfBelow.ensures

pub returns-in-IfEqualRegisters : goal.returns-in-IfEqualRegisters
unfolding instruction_of pass
returns-in-IfEqualRegisters c = rw c.in-IfEqualRegisters.is c.learn_test-in-IfEqualRegisters.ensures

pub returns-in-IfKept : goal.returns-in-IfKept
unfolding instruction_of pass
returns-in-IfKept c = rw c.in-IfKept.is (c.learn_kept.ensures (table_in c.args.rule.now))

pub returns-in-IfWork : goal.returns-in-IfWork
unfolding instruction_of pass
returns-in-IfWork c = rw c.in-IfWork.is c.learn_work.ensures

pub returns-in-Goto : goal.returns-in-Goto
unfolding instruction_of pass
returns-in-Goto c = rw c.in-Goto.is

pub returns-in-Present : goal.returns-in-Present
unfolding instruction_of pass
returns-in-Present c = rw c.in-Present.is c.pass_present.ensures

pub returns-in-SetWork : goal.returns-in-SetWork
unfolding instruction_of pass
returns-in-SetWork c = rw c.in-SetWork.is c.pass_set.ensures

pub returns-in-Keep : goal.returns-in-Keep
unfolding instruction_of pass
returns-in-Keep c = rw c.in-Keep.is (c.pass_keep.ensures (table_in c.args.rule.now))

pub returns-in-Halt : goal.returns-in-Halt
returns-in-Halt c = let a = c.args in
    halted (table_in a.rule.now) a.i.r a.i.c a.i.target a.taken (facts_of a.x) _ _ c.in-Halt.is c.no_facts.ensures
