-- `picture::judge_file` meets its contract (`PictureLaws`). Assumes nothing.
use Rattle.print.proofs.AddedLaws.{at_start}
use Rattle.picture.proofs.PictureLaws.{picture_is}
use Rattle.picture.proofs.judge_file.Goals as goal

pub returns : goal.returns
returns c = at_start _ _ _ _ _ (picture_is c.args.bytes.now _ _ _ c.load_counted-nodes.ensures) c.put_file.ensures
