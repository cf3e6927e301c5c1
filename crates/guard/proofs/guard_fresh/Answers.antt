-- `guard::guard_fresh` meets its contract. Assumes nothing.
use mathlib.Core.Path.{ap, ◌∙◌}
use mathlib.Core.List.{[], ◌++◌}
use lib.ListN.{drop}
use Rattle.rule.specs.Nodes.{form_by}
use Rattle.spec.specs.Ready.{MachineState, fresh_state_of}
use Rattle.numbers.specs.States.{state_words}
use Rattle.numbers.proofs.NoteLaws.{room, no_room, words_room, words_no_room}
use Rattle.guard.proofs.guard_fresh.Goals as goal

pub returns-then-state-lt25 : goal.returns-then-state-lt25
returns-then-state-lt25 g c =
    let s = c.args.state.now in
    record { result = no_room 25 s c.if-state-lt25.true 0 99; words = words_no_room 25 s c.if-state-lt25.true (state_words (fresh_state_of (form_by g.W.Word.IS_WIDE) (g.W.Word.numbers c.args.rule.now) [])) }

pub returns : goal.returns
returns g c =
    let s = c.args.state.now in
    let h = c.if-state-lt25.false in record {
      result = room 25 s h 0 99;
      words = c.put_machine.ensures [] ∙ ap (λ (x : MachineState). state_words x ++ drop 25 s) (c.fresh.ensures [])
          ∙ words_room 25 s h (state_words (fresh_state_of (form_by g.W.Word.IS_WIDE) (g.W.Word.numbers c.args.rule.now) []));
    }
