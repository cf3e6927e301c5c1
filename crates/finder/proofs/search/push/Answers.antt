-- `finder::search::push` meets its contract: what the line passes on (`SearchLaws.leads`), both ways (`RowLaws.spread_by`). Assumes nothing.
use Rattle.script.specs.Lines.{instruction_in}
use Rattle.spec.specs.Script.{target_of, goes_on, instruction_of, instruction_read}
use mathlib.Core.Path.{◌≡◌, sym, ap, ◌∙◌, refl}
use native.Mathlib.Omega.{arith}
use lib.ListN.{get_or}
use Rattle.finder.proofs.RowLaws.{spread_by, way_where, way_has}
use Rattle.finder.proofs.SearchLaws.{room_line, rule_passed, facts_closed, names_at, target_in, next_in, leads, push_done}
use Rattle.finder.proofs.search.push.Goals as goal

pub push_to-a-requires : goal.push_to-a-requires
unfolding instruction_read
push_to-a-requires c =
    let a = c.args in
    let p = c.requires in
    let ws = a.code.now in
    let e : instruction_in c.decode-i.result ≡ instruction_read (get_or ws a.l 0) = ap instruction_of c.decode-i.ensures.fields in
    let to = c.has_target.ensures in (
      rule_passed _ _ p.0,
      names_at _ _ p.0 _ p.2,
      facts_closed _ _ p.0 _ _ p.3 _ p.2 _ c.load-x.ensures,
      way_has _ _ _ _ c.then_some-target.ensures (λ on.
          let h = room_line _ _ _ _ (target_in _ ws p.0 _ c.decode-i.result.target p.2 (ap target_of (sym e) ∙ sym to ∙ rw on)) p.1 in
          record { words = h.words; flag = omega (arith, h.flag, c.lower.ensures.size) }),
    )

pub push_to-b-requires : goal.push_to-b-requires
unfolding instruction_read
push_to-b-requires c =
    let a = c.args in
    let p = c.requires in
    let ws = a.code.now in
    let e : instruction_in c.decode-i.result ≡ instruction_read (get_or ws a.l 0) = ap instruction_of c.decode-i.ensures.fields in
    let on = c.goes_on.ensures in
    let w = c.push_to-a.ensures.lessens in (
      rule_passed _ _ p.0,
      names_at _ _ p.0 _ p.2,
      facts_closed _ _ p.0 _ _ p.3 _ p.2 _ c.load-x.ensures,
      way_has _ _ _ _ c.then_some-next.ensures (λ d.
          let h = room_line _ _ _ _ (next_in _ ws p.0 _ p.2 (ap goes_on (sym e) ∙ sym on ∙ d)) p.1 in
          record { words = omega (arith, h.words, w.notes_size); flag = omega (arith, h.flag, w.flags_size, c.lower.ensures.size) }),
    )

pub returns : goal.returns
unfolding instruction_read
returns c =
    let a = c.args in
    let p = c.requires in
    let ws = a.code.now in
    let e : instruction_in c.decode-i.result ≡ instruction_read (get_or ws a.l 0) = ap instruction_of c.decode-i.ensures.fields in
    push_done a.rule.now ws a.notes.now a.flags.now a.l _ _ _ _ _ _ _ _ p.0 p.3 c.load-x.ensures
    (rw (way_where _ _ _ c.then_some-target.ensures, way_where _ _ _ c.then_some-next.ensures) (leads a.rule.now ws a.l _ _ c.has_target.result c.goes_on.result _ p.2 refl
    (c.has_target.ensures ∙ ap target_of e) (c.goes_on.ensures ∙ ap goes_on e)))
    (spread_by _ _ _ _ _ _ _ _ _ _ _ _ _ _ c.lower.ensures c.push_to-a.ensures c.push_to-b.ensures)
