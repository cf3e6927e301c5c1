-- `numbers::states::put_machine` meets its contract. Assumes nothing.
use mathlib.Core.Path.{sym, ap, ◌∙◌}
use mathlib.Core.List.{List, [], ◌∷◌, ◌++◌}
use Prim.Native.Nat.{ℕ}
use native.Mathlib.Omega.{arith}
use lib.ListN.{drop}
use Rattle.numbers.proofs.NoteLaws.{then_registers}
use Rattle.numbers.proofs.StateLaws.{words_of, put_words}
use Rattle.machine.specs.Machines.{readiness_of}
use Rattle.numbers.specs.States.{readiness_words}
use Rattle.numbers.proofs.states.put_machine.Goals as goal

pub returns : goal.returns
returns c = λ h.
    let a = c.args in
    let s = a.state.now in
    let m = a.m in
    let n = c.put_readiness.auto.state in
    let vs = m.line ∷ m.presentations ∷ m.reads ∷ m.kept ∷ m.work ∷ [] in
    c.note_registers.ensures ∙ then_registers vs m.registers c.put_readiness.new.state (omega arith)
    ∙ ap (λ (l : List ℕ). vs ++ m.registers ++ drop 21 l) c.put_readiness.ensures
    ∙ put_words (vs ++ m.registers) _ s (omega arith)
    ∙ ap (λ (l : List ℕ). l ++ readiness_words (readiness_of m.readiness) ++ drop 25 s) (sym (words_of m h (omega arith) (omega arith)))
