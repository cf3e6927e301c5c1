-- `station_requests::load_part` is safe and ends: 80 of the words are the rule's. Assumes nothing.
use native.Mathlib.Omega.{arith}
use lib.Seq.{length-take-le}
use Rattle.station_requests.proofs.load_part.Goals as goal

pub slice_bounds-load_words-end-2 : goal.slice_bounds-load_words-end-2
slice_bounds-load_words-end-2 g c = omega (arith, length-take-le 80 c.args.words.now (omega (arith, c.requires)))
