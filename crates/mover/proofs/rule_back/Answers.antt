-- `mover::rule_back` meets its contract: question by question, then the words (`MoverLaws`). Assumes nothing.
use mathlib.Core.Path.{refl, sym, ap, ◌∙◌}
use mathlib.Core.List.{◌++◌}
use lib.Dec.{leb}
use lib.ListN.{length, drop, length-map}
use Rattle.spec.specs.Questions.{passed, ask_once}
use Rattle.spec.specs.Rule.{form64}
use Rattle.moves.specs.Moves.{narrow_node, narrow_rule, check_back, move_rule, rule_back, rule_back_output}
use Rattle.moves.proofs.AnswerLaws.{back_out}
use Rattle.moves.proofs.NodeMoveLaws.{narrowable}
use Rattle.rule.proofs.AnswerLaws.{handed_on}
use Rattle.mover.proofs.MoverLaws.{refuses, goes, room_in}
use Rattle.mover.proofs.rule_back.Goals as goal

pub returns-in_err-check_back : goal.returns-in_err-check_back
unfolding rule_back rule_back_output
returns-in_err-check_back c =
    let rule = c.args.rule.now in let out = c.args.out.now in
    let both = refuses (check_back rule) (move_rule rule out) (narrow_rule rule) out _ _ _
    (handed_on (λ n. n) c.from_residual.result c.in_err-check_back.field-0.0 c.from_residual.ensures.1) (sym c.in_err-check_back.ensures) in
    record { answer = both.0; output = both.1 }

pub returns-in_err-ask_room : goal.returns-in_err-ask_room
unfolding rule_back rule_back_output move_rule
returns-in_err-ask_room c =
    let rule = c.args.rule.now in let out = c.args.out.now in
    let room = ask_once 13 (leb (length rule) (length out)) in
    let no = refuses room (passed (length rule)) (narrow_rule rule) out _ _ _
    (handed_on (λ n. n) c.from_residual-in_err-ask_room.result c.in_err-ask_room.field-0.0 c.from_residual-in_err-ask_room.ensures.1) (sym c.in_err-ask_room.ensures) in
    let both = goes (check_back rule) (move_rule rule out) (narrow_rule rule) out (sym c.in_ok-check_back.ensures) _ _ no.0 no.1 in
    record { answer = both.0; output = both.1 }

pub narrow_rule-requires : goal.narrow_rule-requires
unfolding form64
narrow_rule-requires c =
    let (passes, few) = back_out c.args.rule.now (sym c.in_ok-check_back.ensures) in
    (room_in _ _ c.in_ok-ask_room.ensures, narrowable c.args.rule.now passes few)

pub returns : goal.returns
unfolding rule_back rule_back_output move_rule
returns c =
    let rule = c.args.rule.now in let out = c.args.out.now in
    let room = ask_once 13 (leb (length rule) (length out)) in
    let yes = goes room (passed (length rule)) (narrow_rule rule) out (sym c.in_ok-ask_room.ensures) _ _ refl
    (c.narrow_rule.ensures ∙ ap (λ n. narrow_rule rule ++ drop n out) (sym (length-map rule narrow_node))) in
    let both = goes (check_back rule) (move_rule rule out) (narrow_rule rule) out (sym c.in_ok-check_back.ensures) _ _ yes.0 yes.1 in
    record { answer = both.0; output = both.1 }
