-- `text::scan::after_token` meets its contract. Assumes nothing.
use mathlib.Core.Bool.{false}
use mathlib.Core.Path.{sym, ap, ◌∙◌}
use native.Mathlib.Numerals.{add-one}
use Rattle.grammar.specs.Scan.{between}
use Rattle.grammar.specs.Place.{at, operand, operator}
use Rattle.text.specs.Places.{scan_after}
use Rattle.text.proofs.scan.after_token.Goals as goal

pub returns-in-Space : goal.returns-in-Space
returns-in-Space c =
    c.wanting.ensures ∙ ap (scan_after c.args.s.want c.args.s.depth) (sym c.in-Space.is)

pub returns-in-Constant : goal.returns-in-Constant
returns-in-Constant c =
    c.wanting-in-Constant.ensures ∙ ap (scan_after c.args.s.want c.args.s.depth) (sym c.in-Constant.is)

pub returns-in-Prefix : goal.returns-in-Prefix
returns-in-Prefix c =
    c.wanting-in-Prefix.ensures ∙ ap (scan_after c.args.s.want c.args.s.depth) (sym c.in-Prefix.is)

pub returns-in-Operator : goal.returns-in-Operator
returns-in-Operator c =
    c.wanting-in-Operator.ensures ∙ ap (scan_after c.args.s.want c.args.s.depth) (sym c.in-Operator.is)

pub returns-in-Register : goal.returns-in-Register
returns-in-Register c =
    c.wanting-in-Register.ensures ∙ ap (scan_after c.args.s.want c.args.s.depth) (sym c.in-Register.is)

pub returns-in-Number : goal.returns-in-Number
returns-in-Number c =
    c.wanting-in-Number.ensures ∙ ap (scan_after c.args.s.want c.args.s.depth) (sym c.in-Number.is)

pub returns-in-Open : goal.returns-in-Open
returns-in-Open c =
    c.wanting-in-Open.ensures ∙ ap (λ n. between false (at operand n)) (add-one c.args.s.depth) ∙ ap (scan_after c.args.s.want
    c.args.s.depth) (sym c.in-Open.is)

pub returns-in-Close : goal.returns-in-Close
returns-in-Close c =
    c.wanting-in-Close.ensures ∙ ap (λ n. between false (at operator n)) c.saturating_sub.ensures ∙ ap (scan_after c.args.s.want
    c.args.s.depth) (sym c.in-Close.is)

pub returns-in-Equal : goal.returns-in-Equal
returns-in-Equal c =
    c.wanting-in-Equal.ensures ∙ ap (scan_after c.args.s.want c.args.s.depth) (sym c.in-Equal.is)

pub returns-in-Below : goal.returns-in-Below
returns-in-Below c =
    c.wanting-in-Below.ensures ∙ ap (scan_after c.args.s.want c.args.s.depth) (sym c.in-Below.is)
