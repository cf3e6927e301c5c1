-- `text::scan::read_operator` meets its contract. Assumes nothing.
use mathlib.Core.Path.{refl, sym, subst}
use lib.ListN.{get_or}
use Rattle.grammar.specs.Scan.{words_for}
use Rattle.grammar.specs.Place.{at, operand}
use Rattle.grammar.specs.Grammar.{operator_word}
use Rattle.grammar.specs.Typed.{since_word, and_word, or_word, implies_word}
use Rattle.grammar.specs.Place as spec
use Rattle.text.specs.Places.{Reads}
use Rattle.text.specs.declared.scan.Want.TheVariants as want
use Rattle.text.specs.declared.token.Operator.TheVariants as operator
use Rattle.text.specs.declared.token.Token.TheVariants as token
use Rattle.text.proofs.OverLaws.{starts_none, stuck_here, word_reads, close_reads, operator_none}
use Rattle.text.proofs.scan.read_operator.Goals as goal

pub returns-in-41 : goal.returns-in-41
returns-in-41 c =
    let known = c.args in
    subst (Reads known.text.now known.at want.Operator known.depth known.touching) (sym c.read_close.ensures) (close_reads
    known.text.now known.at c.requires.0 known.touching known.depth c.in-41.is)

pub returns-in-115 : goal.returns-in-115
returns-in-115 c =
    let known = c.args in
    word_reads known.text.now known.at c.requires.0 (operator_word since_word) want.Operator known.depth (token.Operator operator.Since)
    (at operand known.depth) c.in-115.is refl refl refl known.touching c.read_infix.result c.read_infix.ensures

pub returns-in-97 : goal.returns-in-97
returns-in-97 c =
    let known = c.args in
    word_reads known.text.now known.at c.requires.0 (operator_word and_word) want.Operator known.depth (token.Operator operator.And)
    (at operand known.depth) c.in-97.is refl refl refl known.touching c.read_infix-in-97.result c.read_infix-in-97.ensures

pub returns-in-111 : goal.returns-in-111
returns-in-111 c =
    let known = c.args in
    word_reads known.text.now known.at c.requires.0 (operator_word or_word) want.Operator known.depth (token.Operator operator.Or) (at operand
    known.depth) c.in-111.is refl refl refl known.touching c.read_infix-in-111.result c.read_infix-in-111.ensures

pub returns-in-105 : goal.returns-in-105
returns-in-105 c =
    let known = c.args in
    word_reads known.text.now known.at c.requires.0 (operator_word implies_word) want.Operator known.depth (token.Operator operator.Implies)
    (at operand known.depth) c.in-105.is refl refl refl known.touching c.read_infix-in-105.result c.read_infix-in-105.ensures

pub returns-in_default : goal.returns-in_default
returns-in_default c =
    let known = c.args in
    let b = get_or known.text.now known.at 0 in
    stuck_here known.text.now known.at c.requires.0 known.touching (at spec.operator known.depth) (operator_none known.touching
    known.depth b c.requires.1 c.in_default.in_default-own.rest.0.0.0.0.1 (starts_none (words_for spec.operator) b (
      c.in_default.in_default-own.rest.0.0.0.1,
      (c.in_default.in_default-own.rest.0.0.1, (c.in_default.in_default-own.rest.0.1, (c.in_default.in_default-own.rest.1, tt))),
    )))
