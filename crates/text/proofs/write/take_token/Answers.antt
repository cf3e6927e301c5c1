-- `text::write::take_token` meets its contract, token by token. Assumes nothing.
use Rattle.text.proofs.ProgressLaws.{ready_as, took, with_progress, taken_space, taken_open, taken_close, taken_register, taken_equal, taken_below, constant_room, taken_constant, number_room, taken_number, prefix_room, taken_prefix, operator_room, taken_operator}
use Rattle.text.proofs.write.take_token.Goals as goal

pub put_constant-requires : goal.put_constant-requires
put_constant-requires c = constant_room _ _ _ 0 _ (ready_as c.in-Constant.is c.requires)

pub wait-h-requires : goal.wait-h-requires
wait-h-requires c =
    prefix_room _ _ _ 0 _ c.prefix_word.result c.prefix_word.ensures (ready_as c.in-Prefix.is
    c.requires)

pub join-h-requires : goal.join-h-requires
join-h-requires c =
    operator_room _ _ _ 0 _ c.operator_word.result c.operator_level.result c.operator_word.ensures
    c.operator_level.ensures (ready_as c.in-Operator.is
    c.requires)

pub put_test-requires : goal.put_test-requires
put_test-requires c = number_room _ _ _ 0 _ (ready_as c.in-Number.is c.requires)

pub returns-in-Space : goal.returns-in-Space
returns-in-Space c = took c.in-Space.is (taken_space _ _ _ _ c.requires.fits)

pub returns-in-Constant : goal.returns-in-Constant
returns-in-Constant c =
    let told = c.in-Constant.is in
    took told (with_progress c.at_height.ensures (taken_constant _ _ _ _ _ _ _ (ready_as told
    c.requires) c.put_constant.ensures))

pub returns-in-Prefix : goal.returns-in-Prefix
returns-in-Prefix c =
    let told = c.in-Prefix.is in
    took told (with_progress c.at_height-in-Prefix.ensures (taken_prefix _ _ _ _ _ c.prefix_word.result c.prefix_word.ensures (ready_as told
    c.requires) _ _ _ _ c.wait-h.ensures))

pub returns-in-Operator : goal.returns-in-Operator
returns-in-Operator c =
    let told = c.in-Operator.is in
    took told (with_progress c.at_height-in-Operator.ensures (taken_operator _ _ _ _ _ c.operator_word.result c.operator_level.result
    c.operator_word.ensures c.operator_level.ensures (ready_as told
    c.requires) _ _ _ _ c.join-h.ensures))

pub returns-in-Register : goal.returns-in-Register
returns-in-Register c =
    took c.in-Register.is (with_progress c.with_atom.ensures (taken_register _ _ _ _ _
    c.requires.fits))

pub returns-in-Number : goal.returns-in-Number
returns-in-Number c =
    let told = c.in-Number.is in
    took told (with_progress c.at_height-in-Number.ensures (taken_number _ _ _ _ _ _ _ (ready_as told
    c.requires) c.put_test.ensures))

pub returns-in-Open : goal.returns-in-Open
returns-in-Open c = took c.in-Open.is (taken_open _ _ _ _ c.requires.fits)

pub returns-in-Close : goal.returns-in-Close
returns-in-Close c = took c.in-Close.is (taken_close _ _ _ _ c.requires.fits)

pub returns-in-Equal : goal.returns-in-Equal
returns-in-Equal c = took c.in-Equal.is (with_progress c.with_atom-in-Equal.ensures (taken_equal _ _ _ _ c.requires.fits))

pub returns-in-Below : goal.returns-in-Below
returns-in-Below c = took c.in-Below.is (with_progress c.with_atom-in-Below.ensures (taken_below _ _ _ _ c.requires.fits))
