-- `render::listing::list_woven` meets its contract: what the weaver answers, as text (`ListingLaws`). Assumes nothing.
use mathlib.Core.Path.{ap, ◌∙◌}
use native.Mathlib.Omega.{arith}
use borrow.Author.Rules.{rules}
use Rattle.print.specs.Decimal.{refused_text}
use Rattle.print.proofs.AddedLaws.{at_start}
use Rattle.render.proofs.ListingLaws.{woven_short, refused_text_lem, lines_text_lem}
use Rattle.render.proofs.listing.list_woven.Goals as goal

pub put_lines-requires : goal.put_lines-requires
put_lines-requires c =
    let args = c.args in
    let few = woven_short args.rule.now args.bare.now _ (omega arith) c.in-Ok.n c.in-Ok.ensures.answer in
    let kept = c.weave.auto.out in
    (few, omega arith, search rules)

pub returns-in-Err : goal.returns-in-Err
returns-in-Err c =
    let args = c.args in
    let no = c.in-Err.no in
    let text = ap (λ q. refused_text q no.place) c.from.ensures ∙ refused_text_lem args.rule.now args.bare.now _ (omega arith) _ no.place c.in-Err.ensures.answer in
    at_start _ _ _ _ _ text c.add_refused.ensures.added

pub returns-in-Ok : goal.returns-in-Ok
returns-in-Ok c =
    let args = c.args in
    let text = lines_text_lem args.rule.now args.bare.now _ (omega arith) c.in-Ok.n c.in-Ok.ensures.answer _ c.weave.ensures.output in
    at_start _ _ _ _ _ text c.put_lines.ensures
