-- The laws of `specs/Listing.antt`, and of weaving into an output that is large enough.
--     lines_agree                       the text of lines is that of their first words
--     weaving_roomy                     an output of 8,192 words leaves question 13 out
--     woven_short                       at most 1,024 lines
--     refused_text_lem, lines_text_lem          a weaver's answer, as text
--     text_as                           a text as another
--     loaded_few, listing_is            what was loaded is the rule and the script of the input
-- Assumes nothing.
use mathlib.Core.Path.{◌≡◌, refl, sym, ap, ap₂, ◌∙◌}
use mathlib.Core.List.{List, ◌++◌}
use Prim.Native.Nat.{ℕ, ◌+◌, ◌*◌, ◌≤◌, ◌<◌}
use native.Mathlib.Omega.{arith}
use lib.ListN.{length, get_or, take, drop, get_or-append}
use borrow.Author.Tests.{le-leb, leb-true}
use Rattle.spec.specs.Ascii.{ascii}
use Rattle.spec.specs.Questions.{Answer, passed, refused, Checked, ◌then◌}
use Rattle.spec.specs.Rule.{form32}
use Rattle.spec.specs.Script.{check_bare}
use Rattle.spec.specs.Check.{line_length}
use Rattle.spec.specs.Weaver.{woven, woven_lines, question12, question13, check_weaving, weaving, output_for, output_after}
use Rattle.spec.proofs.QuestionLaws.{then_passed, then_refused, both_passed, once_in, once_out}
use Rattle.spec.proofs.RuleLaws.{rule_out}
use Rattle.spec.proofs.WeaverLaws.{length_woven}
use Rattle.print.specs.Decimal.{newline, number, refused_text}
use Rattle.render.specs.Text.{line_text, lines_text, answer_text}
use Rattle.print.specs.Written.{Added}
use Rattle.print.proofs.AddedLaws.{loaded, front_is, each_same}
use Rattle.words.specs.Counted.{counted}
use Rattle.render.specs.Listing.{woven_text, listing_of}
use Rattle.words.proofs.CountedLaws.{length_counted}

pub lines_agree : (vs ws : List ℕ) (n : ℕ) → ((l : ℕ) → l < n → get_or vs (8 * l) 0 ≡ get_or ws (8 * l) 0)
    → lines_text vs n ≡ lines_text ws n
unfolding lines_text
lines_agree vs ws n h = each_same _ _ n (λ l k. ap (line_text l) (h l k))

-- the script that is woven
module _ (rule bare out : List ℕ) (roomy : 8192 ≤ length out) where
  abbrev lines : ℕ
  lines = woven_lines form32 rule bare

  abbrev checked : Checked
  checked = check_weaving form32 rule bare

  few : checked ≡ passed tt → lines ≤ 1024
  unfolding check_weaving question12
  few e = leb-true lines 1024 (once_out 12 _ (both_passed _ _ tt e).1)

  space : checked ≡ passed tt → question13 form32 rule bare out ≡ passed tt
  unfolding question13
  space e = let f = few e in once_in 13 _ (le-leb (line_length * lines) (length out) (omega arith))

  pub weaving_roomy : weaving form32 rule bare out ≡ (checked then passed lines)
  unfolding weaving
  weaving_roomy = by checked refl
    where
      by : (a : Checked) → checked ≡ a
          → (checked then question13 form32 rule bare out then passed lines) ≡ (checked then passed lines)
      by (passed u) e =
          then_passed checked (question13 form32 rule bare out then passed lines) e
          ∙ then_passed (question13 form32 rule bare out) (passed lines) (space e)
          ∙ sym (then_passed checked (passed lines) e)
      by (refused q i) e =
          then_refused checked (question13 form32 rule bare out then passed lines) q i e ∙ sym (then_refused checked (passed lines) q i e)

  pub refused_text_lem : (q i : ℕ) → refused q i ≡ weaving form32 rule bare out → refused_text q i ≡ woven_text rule bare
  unfolding woven_text answer_text
  refused_text_lem q i e = ap (λ a. answer_text (woven form32 rule bare) a) (e ∙ weaving_roomy)

  module _ (n : ℕ) (e : passed n ≡ weaving form32 rule bare out) where
    both : (checked ≡ passed tt) × (◌≡◌ {A = Answer ℕ} (passed lines) (passed n))
    both = both_passed checked (passed lines) n (sym (e ∙ weaving_roomy))

    count : lines ≡ n
    count = let b = both.1 in cc

    pub woven_short : n ≤ 1024
    woven_short = let f = few both.0 in let c = count in omega arith

    woven_length : length (woven form32 rule bare) ≡ 8 * n
    unfolding check_weaving check_bare
    woven_length =
        let bare-ok = (both_passed _ _ tt both.0).0 in
        let rule-ok = (both_passed _ _ tt bare-ok).0 in
        length_woven form32 rule bare (rule_out form32 rule rule-ok).ordered ∙ ap (λ m. 8 * m) count

    module _ (words : List ℕ) (o : words ≡ output_after form32 rule bare out) where
      words_are : words ≡ woven form32 rule bare ++ drop (length (woven form32 rule bare)) out
      unfolding output_after
      words_are = o ∙ ap (λ a. output_for (woven form32 rule bare) a out) (sym e)

      first_word : (l : ℕ) → l < n → get_or words (8 * l) 0 ≡ get_or (woven form32 rule bare) (8 * l) 0
      first_word l h =
          let w = woven_length in
          let below : 8 * l < length (woven form32 rule bare) = omega arith in
          ap (λ ws. get_or ws (8 * l) 0) words_are
          ∙ get_or-append (woven form32 rule bare) (drop (length (woven form32 rule bare)) out) 0 (8 * l) below

      pub lines_text_lem : answer_text words (passed n) ≡ woven_text rule bare
      unfolding woven_text answer_text
      lines_text_lem =
          ap (λ t. ascii "lines " ++ number n newline ++ t) (lines_agree words (woven form32 rule bare) n first_word)
          ∙ ap (λ a. answer_text (woven form32 rule bare) a) (e ∙ weaving_roomy)

-- a text as another
pub text_as : (a b : List ℕ) (end : ℕ) (o o1 : List ℕ) → a ≡ b → (end ≡ length a) × (o1 ≡ a ++ drop end o)
    → (end ≡ length b) × (o1 ≡ b ++ drop end o)
text_as a b end o o1 e x = (x.0 ∙ ap length e, x.1 ∙ ap (λ t. t ++ drop end o) e)

pub loaded_few : (most : ℕ) (bytes : List ℕ) (at n : ℕ) (o o1 : List ℕ) → Added (counted most bytes at) 0 n o o1 → n ≤ most
loaded_few most bytes at n o o1 x =
    let l = loaded (counted most bytes at) n o o1 x in
    let c = length_counted most bytes at in
    omega arith

-- the listing is that of the rule and the script that were loaded
pub listing_is : (bytes : List ℕ) (n m : ℕ) (r r1 b b1 : List ℕ) → Added (counted 32 bytes 0) 0 n r r1
    → Added (counted 1024 bytes (n + 1)) 0 m b b1 → woven_text (take n r1) (take m b1) ≡ listing_of bytes
unfolding listing_of form32
listing_is bytes n m r r1 b b1 x y =
    ap₂ woven_text (front_is (counted 32 bytes 0) n r r1 x)
    (front_is (counted 1024 bytes (n + 1)) m b b1 y ∙ ap (λ k. counted 1024 bytes (k + 1)) (loaded (counted 32 bytes 0) n r r1 x))
