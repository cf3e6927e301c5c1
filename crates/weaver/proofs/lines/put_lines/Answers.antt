-- `weaver::lines::put_lines` meets its contract: the loop keeps: the lines of the first l bare lines are written
-- (`SeriesLaws.Filled`); the next go into the rest of the output (`PutLaws.back_at`). Assumes nothing.
use mathlib.Core.Path.{sym, ap, ◌∙◌}
use Prim.Native.Nat.{◌*◌, ◌-◌, ◌≤◌}
use lib.ListN.{length}
use Rattle.spec.specs.Check.{words_of}
use Rattle.spec.specs.Weaver.{weave_line}
use Rattle.spec.specs.Script.{bare_code, instruction_at}
use Rattle.layout.proofs.StartLaws.{length_bare}
use Rattle.rule.specs.Nodes.{table_in, form_by, over_at}
use Rattle.rule.proofs.EachLaws.{length_each}
use Rattle.rule.proofs.PutLaws.{back_at}
use Rattle.facts.proofs.OverLaws.{written_as}
use Rattle.weaver.proofs.LinesLaws.{part_size, part_each, back_each, weave_up_to, weaving_series, up_to_all, order, all_room, woven_few, woven_start, woven_room, woven_more, woven_size}
use Rattle.weaver.proofs.SeriesLaws.{filled_start, filled_next, filled_end}
use native.Mathlib.Omega.{arith}
use borrow.Author.Rules.{rules}
use Rattle.weaver.proofs.lines.put_lines.Goals as goal

pub loop-l-init : goal.loop-l-init
loop-l-init g c = let a = c.args in filled_start (weaving_series (table_in a.rule.now.nodes.now) (bare_code a.bare.now)) g.W.Word.IS_WIDE 0 (g.W.Word.numbers a.out.now)

pub words_of-start-requires : goal.words_of-start-requires
words_of-start-requires g c =
    (woven_few c.requires.0 g.W.Word.IS_WIDE (g.W.Word.numbers c.args.out.now) c.loop-l.invariant c.loop-l.auto.l-end c.requires.1).0

pub offset_bounds-out-start : goal.offset_bounds-out-start
offset_bounds-out-start g c =
    let few = woven_few c.requires.0 g.W.Word.IS_WIDE (g.W.Word.numbers c.args.out.now) c.loop-l.invariant c.loop-l.auto.l-end c.requires.1 in
    let there : c.words_of-start.result ≤ length c.loop-l.out = omega (arith, few.1, c.words_of-start.ensures, length_each g.met.W.Word.each c.loop-l.out) in
    let same : c.words_of-start.result ≤ length c.args.out.now = omega (arith, there, c.loop-l.auto.out) in
    search rules

pub slice_bounds-put_woven-count : goal.slice_bounds-put_woven-count
slice_bounds-put_woven-count g c =
    let few = woven_few c.requires.0 g.W.Word.IS_WIDE (g.W.Word.numbers c.args.out.now) c.loop-l.invariant c.loop-l.auto.l-end c.requires.1 in
    omega (arith, few.1, c.words_of-start.ensures, length_each g.met.W.Word.each c.loop-l.out)

pub slice_bounds-put_woven-start : goal.slice_bounds-put_woven-start
slice_bounds-put_woven-start g c =
    let few = woven_few c.requires.0 g.W.Word.IS_WIDE (g.W.Word.numbers c.args.out.now) c.loop-l.invariant c.loop-l.auto.l-end c.requires.1 in
    omega (arith, few.1, c.words_of-start.ensures, length_each g.met.W.Word.each c.loop-l.out)

pub put_woven-n-requires : goal.put_woven-n-requires
put_woven-n-requires g c =
    let wide = g.W.Word.IS_WIDE in
    let out = g.W.Word.numbers c.args.out.now in (
      c.requires.0,
      c.loop-l-test.true,
      woven_start c.requires.0 wide out c.loop-l.invariant c.loop-l.auto.l-end c.requires.1,
      woven_room c.requires.0 wide out c.loop-l.invariant c.loop-l.auto.l-end c.requires.1 c.loop-l-test.true _
          (part_size g.met.W.Word.each c.words_of-start.result c.loop-l.out
          ∙ ap (λ s. length (g.W.Word.numbers c.loop-l.out) - s) c.words_of-start.ensures),
    )

pub overflow_add-n : goal.overflow_add-n
overflow_add-n g c =
    let more = woven_more c.requires.0 g.W.Word.IS_WIDE (g.W.Word.numbers c.args.out.now) c.loop-l.invariant c.loop-l.auto.l-end c.requires.1 c.loop-l-test.true in
    omega (arith, more, c.put_woven-n.ensures.0)

pub loop-l-preserved : goal.loop-l-preserved
loop-l-preserved g c =
    let a = c.args in
    let wide = g.W.Word.IS_WIDE in
    let out = g.W.Word.numbers a.out.now in
    let now = g.W.Word.numbers c.loop-l.out in
    let t = table_in a.rule.now.nodes.now in
    let code = bare_code a.bare.now in
    let h = c.loop-l-test.true in
    let n = c.loop-l.n in
    let start = c.words_of-start.result in
    let room = c.requires.1 in
    let lines = weave_line t code n (instruction_at code c.loop-l.l) in
    filled_next (weaving_series t code) wide 0 out now n c.loop-l.l (length a.bare.now) c.loop-l.invariant c.loop-l.auto.l-end
    (all_room c.requires.0 wide out c.loop-l.invariant c.loop-l.auto.l-end room) h c.put_woven-n.result n _
    (woven_size c.requires.0 wide out c.loop-l.invariant c.loop-l.auto.l-end room h c.put_woven-n.result c.put_woven-n.ensures.0) (omega arith)
    (written_as wide n lines _ now _ (ap (λ p. weave_line t code p (instruction_at code c.loop-l.l)) (woven_start c.requires.0 wide out c.loop-l.invariant c.loop-l.auto.l-end room))
    (back_each g.met.W.Word.each start c.loop-l.out c.put_woven-n.new.out
    ∙ back_at start now 0 (8 * n) (words_of (form_by wide) lines) _ (omega (arith, c.words_of-start.ensures))
    (c.put_woven-n.ensures.1 ∙ ap (over_at 0 (words_of (form_by wide) lines)) (part_each g.met.W.Word.each start c.loop-l.out))))

pub returns : goal.returns
returns g c =
    let a = c.args in
    let wide = g.W.Word.IS_WIDE in
    let out = g.W.Word.numbers a.out.now in
    let t = table_in a.rule.now.nodes.now in
    let code = bare_code a.bare.now in
    let all = (filled_end (weaving_series t code) wide 0 out (g.W.Word.numbers c.loop-l.out) c.loop-l.n c.loop-l.l (length a.bare.now) c.loop-l.invariant c.loop-l.auto.l-end c.loop-l-test.false).1 in
    written_as wide 0 _ _ out _ (ap (weave_up_to t code) (sym (length_bare a.bare.now)) ∙ up_to_all t (order c.requires.0) code) all
