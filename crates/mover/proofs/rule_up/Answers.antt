-- `mover::rule_up` meets its contract: question by question, then the words (`MoverLaws`). Assumes nothing.
use mathlib.Core.Path.{refl, sym, ap, ◌∙◌}
use mathlib.Core.List.{◌++◌}
use lib.Dec.{leb}
use lib.ListN.{length, drop, length-map}
use Rattle.spec.specs.Questions.{passed, ask_once}
use Rattle.spec.specs.Rule.{form32, check_rule}
use Rattle.moves.specs.Moves.{widen_node, widen_rule, move_rule, rule_up, rule_up_output}
use Rattle.rule.proofs.AnswerLaws.{handed_on}
use Rattle.mover.proofs.MoverLaws.{refuses, goes, room_in}
use Rattle.mover.proofs.rule_up.Goals as goal

pub returns-in_err-check_rule : goal.returns-in_err-check_rule
unfolding rule_up rule_up_output
returns-in_err-check_rule c =
    let rule = c.args.rule.now in let out = c.args.out.now in
    let both = refuses (check_rule form32 rule) (move_rule rule out) (widen_rule rule) out _ _ _
    (handed_on (λ n. n) c.from_residual.result c.in_err-check_rule.field-0.0 c.from_residual.ensures.1) (sym c.in_err-check_rule.ensures) in
    record { answer = both.0; output = both.1 }

pub returns-in_err-ask_room : goal.returns-in_err-ask_room
unfolding rule_up rule_up_output move_rule
returns-in_err-ask_room c =
    let rule = c.args.rule.now in let out = c.args.out.now in
    let room = ask_once 13 (leb (length rule) (length out)) in
    let no = refuses room (passed (length rule)) (widen_rule rule) out _ _ _
    (handed_on (λ n. n) c.from_residual-in_err-ask_room.result c.in_err-ask_room.field-0.0 c.from_residual-in_err-ask_room.ensures.1) (sym c.in_err-ask_room.ensures) in
    let both = goes (check_rule form32 rule) (move_rule rule out) (widen_rule rule) out (sym c.in_ok-check_rule.ensures) _ _ no.0 no.1 in
    record { answer = both.0; output = both.1 }

pub widen_rule-requires : goal.widen_rule-requires
widen_rule-requires c = room_in _ _ c.in_ok-ask_room.ensures

pub returns : goal.returns
unfolding rule_up rule_up_output move_rule
returns c =
    let rule = c.args.rule.now in let out = c.args.out.now in
    let room = ask_once 13 (leb (length rule) (length out)) in
    let yes = goes room (passed (length rule)) (widen_rule rule) out (sym c.in_ok-ask_room.ensures) _ _ refl
    (c.widen_rule.ensures ∙ ap (λ n. widen_rule rule ++ drop n out) (sym (length-map rule widen_node))) in
    let both = goes (check_rule form32 rule) (move_rule rule out) (widen_rule rule) out (sym c.in_ok-check_rule.ensures) _ _ yes.0 yes.1 in
    record { answer = both.0; output = both.1 }
