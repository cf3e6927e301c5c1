-- A loop over a text's tokens (`specs/Places.antt`).
--     Turning, turning_start, turning_next      the scan has come to this place, between two tokens
--     turning_stuck, turning_ends, turning_short      where it stops, and at the end
-- Assumes nothing.
use mathlib.Core.Path.{◌≡◌, sym, ap, ◌∙◌}
use mathlib.Core.Bool.{true, false, cond}
use mathlib.Core.Option.{none, some}
use mathlib.Core.List.{List}
use Prim.Native.Nat.{ℕ, suc, ◌≤◌}
use native.Mathlib.Omega.{arith}
use lib.ListN.{length, drop, drop_of_length-le}
use Rattle.spec.specs.Questions.{passed, refused, no_at}
use Rattle.grammar.specs.Scan.{Scan, between, within, after_r, digits, may_end, start, stuck_from, question16}
use Rattle.grammar.proofs.JumpLaws.{stuck_end}
use Rattle.text.specs.Places.{scan_of, scan_after, Over}
use Rattle.text.specs.declared.token.Token.{Token}
use Rattle.text.specs.declared.token.Token.TheVariants as token
use Rattle.text.specs.declared.scan.Want.{Want}
use Rattle.text.specs.declared.scan.Between.{Between}

abbrev pub depth_of : Scan → ℕ
depth_of (between t p) = p.depth
depth_of (within x more w q) = q.depth
depth_of (after_r d) = d
depth_of (digits r n d) = d

depth_after_lem : (w : Want) (d : ℕ) (x : Token) → depth_of (scan_after w d x) ≤ suc d
depth_after_lem w d token.Space = omega arith
depth_after_lem w d (token.Constant v) = omega arith
depth_after_lem w d (token.Prefix p) = omega arith
depth_after_lem w d (token.Operator o) = omega arith
depth_after_lem w d (token.Register n) = omega arith
depth_after_lem w d (token.Number n) = omega arith
depth_after_lem w d token.Open = omega arith
depth_after_lem w d token.Close = omega arith
depth_after_lem w d token.Equal = omega arith
depth_after_lem w d token.Below = omega arith

pub record Turning (text : List ℕ) (s : Between) (at : ℕ) : Type 0 where
  pub same : stuck_from at (scan_of s) (drop at text) ≡ stuck_from 0 start text
  pub inside : at ≤ length text
  -- each open bracket is a byte
  pub shallow : s.depth ≤ at

pub turning_start : (text : List ℕ) (s : Between) → scan_of s ≡ start → Turning text s 0
turning_start text s e = record { same = ap (λ x. stuck_from 0 x text) e; inside = omega arith; shallow = let z = ap depth_of e in omega arith }

module _ (text : List ℕ) (s : Between) (at : ℕ) (x : Turning text s at) where
  pub turning_next : (q : Between) (t : Token) (next : ℕ) → Over text at (scan_of s) t next (scan_after s.want s.depth t)
      → scan_of q ≡ scan_after s.want s.depth t → Turning text q next
  turning_next q t next o e = record {
    same = ap (λ y. stuck_from next y (drop next text)) e ∙ sym o.stuck ∙ x.same;
    inside = o.inside;
    shallow = let d = depth_after_lem s.want s.depth t in let z = ap depth_of e in let f = o.further in let h = x.shallow in omega arith;
  }

  pub turning_stuck : (place : ℕ) → stuck_from at (scan_of s) (drop at text) ≡ some place → refused 16 place ≡ question16 text
  unfolding question16
  turning_stuck place e = ap (no_at 16) (sym e ∙ x.same)

  module _ (h : length text ≤ at) where
    at_end_lem : cond (may_end (scan_of s)) none (some at) ≡ stuck_from 0 start text
    at_end_lem = sym (stuck_end at (scan_of s)) ∙ ap (stuck_from at (scan_of s)) (sym (drop_of_length-le text h)) ∙ x.same

    pub turning_ends : may_end (scan_of s) ≡ true → passed tt ≡ question16 text
    unfolding question16
    turning_ends e = ap (λ b. no_at 16 (cond b none (some at))) (sym e) ∙ ap (no_at 16) at_end_lem

    pub turning_short : may_end (scan_of s) ≡ false → refused 16 at ≡ question16 text
    unfolding question16
    turning_short e = ap (λ b. no_at 16 (cond b none (some at))) (sym e) ∙ ap (no_at 16) at_end_lem
