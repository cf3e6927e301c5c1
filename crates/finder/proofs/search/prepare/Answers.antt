-- `finder::search::prepare` meets its contract. The loop keeps: the first l lines have all that belongs, and a flag (`SearchLaws.Prepared`). Assumes nothing.
use mathlib.Core.Path.{◌≡◌, ◌∙◌}
use native.Mathlib.Omega.{arith}
use lib.ListN.{length}
use Rattle.finder.proofs.SearchLaws.{few_nodes, some_line, room_line, prepared_next, prepared_end}
use Rattle.finder.proofs.search.prepare.Goals as goal

pub belonging-most-requires : goal.belonging-most-requires
belonging-most-requires c = few_nodes _ _ c.requires.0

pub loop-l-preserved : goal.loop-l-preserved
loop-l-preserved c =
    prepared_next _ _ _ _ _ _ _ _ c.loop-l.invariant c.put.ensures c.raise.ensures

pub first_facts-requires : goal.first_facts-requires
first_facts-requires c = few_nodes _ _ c.requires.0

pub put-requires-2 : goal.put-requires-2
put-requires-2 c =
    omega (arith, c.loop-l.invariant.notes_size, (room_line _ _ _ _ (some_line _ _ c.requires.0) c.requires.1).words)

pub returns : goal.returns
returns c =
    let i = c.loop-l.invariant in
    let e : c.loop-l.l ≡ length c.args.code.now = omega arith in (
      c.put-2.ensures.size ∙ i.notes_size,
      i.flags_size,
      prepared_end _ _ _ _ _ _ _ c.requires.0 _ _ c.belonging-most.ensures c.first_facts.ensures
          (rw e at i) c.put-2.ensures,
    )
