-- `text::scan::read_operand` meets its contract. Assumes nothing.
use mathlib.Core.Bool.{true, false}
use mathlib.Core.Path.{refl, sym, subst}
use Prim.Native.Nat.{suc}
use lib.ListN.{get_or}
use Rattle.grammar.specs.Scan.{words_for}
use Rattle.grammar.specs.Typed.{not, wprev, prev, once, sofar}
use Rattle.grammar.specs.Place.{at, operand, operator}
use Rattle.grammar.specs.Grammar.{constant_word, prefix_word, open_sign}
use Rattle.text.specs.Places.{Reads}
use Rattle.text.specs.declared.token.Prefix.TheVariants as prefix
use Rattle.text.specs.declared.scan.Want.TheVariants as want
use Rattle.text.specs.declared.token.Token.TheVariants as token
use Rattle.text.proofs.OverLaws.{starts_none, stuck_here, operand_none, sign_over, word_reads}
use Rattle.text.proofs.scan.read_operand.Goals as goal

pub returns-in-40 : goal.returns-in-40
returns-in-40 c =
    let known = c.args in
    subst (Reads known.text.now known.at want.Operand known.depth known.touching) (sym c.one_byte.ensures) (sign_over
    known.text.now known.at c.requires.0 known.touching (at operand known.depth) (at operand (suc known.depth)) open_sign token.Open
    c.in-40.is refl refl)

pub returns-in-116 : goal.returns-in-116
returns-in-116 c =
    let known = c.args in
    word_reads known.text.now known.at c.requires.0 (constant_word true) want.Operand known.depth (token.Constant true) (at operator
    known.depth) c.in-116.is refl refl refl known.touching c.read_constant.result c.read_constant.ensures

pub returns-in-102 : goal.returns-in-102
returns-in-102 c =
    let known = c.args in
    word_reads known.text.now known.at c.requires.0 (constant_word false) want.Operand known.depth (token.Constant false) (at operator
    known.depth) c.in-102.is refl refl refl known.touching c.read_constant-in-102.result c.read_constant-in-102.ensures

pub returns-in-110 : goal.returns-in-110
returns-in-110 c =
    let known = c.args in
    word_reads known.text.now known.at c.requires.0 (prefix_word not) want.Operand known.depth (token.Prefix prefix.Not) (at operand
    known.depth) c.in-110.is refl refl refl known.touching c.read_prefix.result c.read_prefix.ensures

pub returns-in-119 : goal.returns-in-119
returns-in-119 c =
    let known = c.args in
    word_reads known.text.now known.at c.requires.0 (prefix_word wprev) want.Operand known.depth (token.Prefix prefix.Wprev) (at operand
    known.depth) c.in-119.is refl refl refl known.touching c.read_prefix-in-119.result c.read_prefix-in-119.ensures

pub returns-in-112 : goal.returns-in-112
returns-in-112 c =
    let known = c.args in
    word_reads known.text.now known.at c.requires.0 (prefix_word prev) want.Operand known.depth (token.Prefix prefix.Prev) (at operand
    known.depth) c.in-112.is refl refl refl known.touching c.read_prefix-in-112.result c.read_prefix-in-112.ensures

pub returns-in-111 : goal.returns-in-111
returns-in-111 c =
    let known = c.args in
    word_reads known.text.now known.at c.requires.0 (prefix_word once) want.Operand known.depth (token.Prefix prefix.Once) (at operand
    known.depth) c.in-111.is refl refl refl known.touching c.read_prefix-in-111.result c.read_prefix-in-111.ensures

pub returns-in-115 : goal.returns-in-115
returns-in-115 c =
    let known = c.args in
    word_reads known.text.now known.at c.requires.0 (prefix_word sofar) want.Operand known.depth (token.Prefix prefix.Sofar) (at operand
    known.depth) c.in-115.is refl refl refl known.touching c.read_prefix-in-115.result c.read_prefix-in-115.ensures

pub returns-in_default : goal.returns-in_default
returns-in_default c =
    let known = c.args in
    let b = get_or known.text.now known.at 0 in
    stuck_here known.text.now known.at c.requires.0 known.touching (at operand known.depth) (operand_none known.touching
    known.depth b c.requires.1 c.in_default.in_default-own.rest.0.0.0.0.0.0.0.0.1 c.in_default.in_default-own.rest.0.0.0.0.0.0.0.1 (starts_none
    (words_for operand) b (
      c.in_default.in_default-own.rest.0.0.0.0.0.0.1,
      (
        c.in_default.in_default-own.rest.0.0.0.0.0.1,
        (
          c.in_default.in_default-own.rest.0.0.0.0.1,
          (c.in_default.in_default-own.rest.0.0.0.1, (c.in_default.in_default-own.rest.0.0.1, (c.in_default.in_default-own.rest.0.1, (c.in_default.in_default-own.rest.1, tt)))),
        ),
      ),
    )))
