-- The tokens of a text in turn: what may come next, and where a text may end. `proofs/SpellLaws.antt` shows that the tokens which fit are
-- those that spell a formula.
use Rattle.std.specs.Prelude.{Bool, false, List, [], ◌∷◌, ℕ, zero, suc, eqb}
use Rattle.std.proofs.Math.Option.{Option, none, some}
use Rattle.grammar.specs.Grammar.{Word, constant_word, prefix_word, operator_word, Sign, open_sign, close_sign, equal_sign, below_sign, Token, word, register, number, sign}

-- what is wanted: an operand (with its prefix words and opening brackets), the sign of an atom, its number, or a word between two formulas
-- (or a closing bracket, or the end)
pub data Want : Type 0 where
  operand comparison constant_number operator : Want

-- with so many brackets open
pub record Place : Type 0 where
  pub want : Want
  pub depth : ℕ

abbrev pub at : Want → ℕ → Place
at w d = record { want = w; depth = d }

-- the place after a token, if it may stand here
abbrev pub after_word : Want → ℕ → Word → Option Place
after_word operand d (constant_word c) = some (at operator d)
after_word operand d (prefix_word p) = some (at operand d)
after_word operand d (operator_word o) = none
after_word comparison d w = none
after_word constant_number d w = none
after_word operator d (constant_word c) = none
after_word operator d (prefix_word p) = none
after_word operator d (operator_word o) = some (at operand d)

abbrev pub after_register : Want → ℕ → Option Place
after_register operand d = some (at comparison d)
after_register comparison d = none
after_register constant_number d = none
after_register operator d = none

abbrev pub after_number : Want → ℕ → Option Place
after_number operand d = none
after_number comparison d = none
after_number constant_number d = some (at operator d)
after_number operator d = none

abbrev pub after_close : ℕ → Option Place
after_close zero = none
after_close (suc d) = some (at operator d)

abbrev pub after_sign : Want → ℕ → Sign → Option Place
after_sign operand d open_sign = some (at operand (suc d))
after_sign operand d close_sign = none
after_sign operand d equal_sign = none
after_sign operand d below_sign = none
after_sign comparison d open_sign = none
after_sign comparison d close_sign = none
after_sign comparison d equal_sign = some (at constant_number d)
after_sign comparison d below_sign = some (at constant_number d)
after_sign constant_number d s = none
after_sign operator d open_sign = none
after_sign operator d close_sign = after_close d
after_sign operator d equal_sign = none
after_sign operator d below_sign = none

abbrev pub after_token : Place → Token → Option Place
after_token p (word w) = after_word p.want p.depth w
after_token p (register n) = after_register p.want p.depth
after_token p (number n) = after_number p.want p.depth
after_token p (sign s) = after_sign p.want p.depth s

-- the text may end here
abbrev pub may_end_at : Want → ℕ → Bool
may_end_at operand d = false
may_end_at comparison d = false
may_end_at constant_number d = false
may_end_at operator d = eqb d 0

-- the tokens may stand here, and the text may end after them
unfoldable pub fits : Place → List Token → Bool
fits p [] = may_end_at p.want p.depth
fits p (t ∷ ts) = elim (after_token p t) [ none ↦ false | some q ↦ fits q ts ]
