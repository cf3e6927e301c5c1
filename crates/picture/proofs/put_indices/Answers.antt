-- `picture::put_indices` meets its contract (`FileLaws`, `PictureLaws`). Assumes nothing.
use native.Mathlib.Omega.{arith}
use Rattle.print.proofs.AddedLaws.{added_as}
use Rattle.picture.proofs.FileLaws.{whole_out}
use Rattle.picture.proofs.PictureLaws.{loaded_text}
use Rattle.picture.proofs.put_indices.Goals as goal

pub load_limits-requires : goal.load_limits-requires
load_limits-requires c = let a = c.args in let whole = whole_out a.bytes.now a.at c.requires.1 in let most = whole.0 in let there = whole.1 in let small = c.requires.0 in let room = c.requires.2 in let e = c.word_at-count.ensures in (omega arith, omega arith, omega arith, omega arith, omega arith)

pub load_limits-requires-2 : goal.load_limits-requires-2
load_limits-requires-2 c = let a = c.args in let whole = whole_out a.bytes.now a.at c.requires.1 in let most = whole.0 in let there = whole.1 in let small = c.requires.0 in let room = c.requires.2 in let e = c.word_at-count.ensures in (omega arith, omega arith, omega arith, omega arith, omega arith)

pub returns : goal.returns
returns c = let a = c.args in added_as _ _ 0 _ _ _ (loaded_text a.rule.now a.bytes.now _ _ _ _ a.at _ c.word_at-count.ensures c.load_limits.ensures c.load_limits-2.ensures) c.put_limits.ensures
