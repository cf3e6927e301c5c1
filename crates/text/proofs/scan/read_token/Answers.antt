-- `text::scan::read_token` meets its contract. Assumes nothing.
use mathlib.Core.Path.{sym, subst}
use Rattle.grammar.specs.Place.{at}
use Rattle.text.specs.Places.{want_of, Reads}
use Rattle.text.proofs.OverLaws.{space_over}
use Rattle.text.proofs.scan.read_token.Goals as goal

pub returns-then-text-at-eq32 : goal.returns-then-text-at-eq32
returns-then-text-at-eq32 c =
    let known = c.args in
    subst (Reads known.text.now known.at known.s.want known.s.depth known.s.touching) (sym c.one_byte.ensures) (space_over
    known.text.now known.at c.requires known.s.touching (at (want_of known.s.want) known.s.depth) c.if-text-at-eq32.true)

pub returns-in-Operand : goal.returns-in-Operand
returns-in-Operand c =
    let known = c.args in
    subst (λ w. Reads known.text.now known.at w known.s.depth known.s.touching c.read_operand.result) (sym
    c.in-Operand.is) c.read_operand.ensures

pub returns-in-Comparison : goal.returns-in-Comparison
returns-in-Comparison c =
    let known = c.args in
    subst (λ w. Reads known.text.now known.at w known.s.depth known.s.touching c.read_comparison.result) (sym
    c.in-Comparison.is) c.read_comparison.ensures

pub returns-in-Number : goal.returns-in-Number
returns-in-Number c =
    let known = c.args in
    subst (λ w. Reads known.text.now known.at w known.s.depth known.s.touching c.read_number.result) (sym
    c.in-Number.is) c.read_number.ensures

pub returns-in-Operator : goal.returns-in-Operator
returns-in-Operator c =
    let known = c.args in
    subst (λ w. Reads known.text.now known.at w known.s.depth known.s.touching c.read_operator.result) (sym
    c.in-Operator.is) c.read_operator.ensures
