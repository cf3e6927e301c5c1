-- `input::read_full` meets its contract: what a read takes is put after what was taken before it. Assumes nothing.
use Rattle.std.proofs.Common.{◌≡◌, sym, ◌∙◌, ◌≤◌, ◌+◌, ◌-◌, ap, subst, ℕ, List, ◌++◌, length, take, rules, length-take-le}
use Rattle.std.proofs.Math.Seq.{take-append-add}
use Rattle.std.proofs.lemmas.List.{take-append-le}
use Rattle.std.proofs.KnownBytes.{Consumes-trans}
use Rattle.std.specs.Io.KnownBytes.{Consumes}
use borrow.Rule.Slice.PartMut.{put_mid, post_of}
use Rattle.input.proofs.read_full.Goals as goal

-- the front of a buffer whose part from n on was read into
front : (n got k : ℕ) (xs ys : List ℕ) → n ≤ length xs → got ≤ length ys → take (n + got) (put_mid n k xs ys) ≡ take n xs ++ take got ys
front n got k xs ys h g =
    ap (λ m. take (m + got) (put_mid n k xs ys)) (sym (length-take-le n xs h)) ∙ take-append-add (take n xs) (ys ++ post_of n k xs) got
    ∙ ap (λ l. take n xs ++ l) (take-append-le got ys (post_of n k xs) g)

pub loop-n-preserved : goal.loop-n-preserved
loop-n-preserved g c =
    let room = length c.loop-n.bytes - c.loop-n.n in
    record {
      within = search rules;
      taken = subst (Consumes _ _) (sym (front c.loop-n.n c.in_ok-got.got room c.loop-n.bytes c.read.new.buf c.loop-n.invariant.within c.in_ok-got.ensures.bound.0))
          (Consumes-trans _ _ _ _ _ c.loop-n.invariant.taken c.in_ok-got.ensures.bytes.0);
    }
