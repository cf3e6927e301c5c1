-- `cases_run::pairs::united` meets its contract. Assumes nothing.
use mathlib.Core.Path.{sym, ap}
use mathlib.Core.Bool.{cond}
use lib.Bits.{bit_or}
use borrow.Author.Tests.{eq-eqb, ne_eqb}
use Rattle.cases_run.proofs.pairs.united.Goals as goal

pub returns-then-i-eq0 : goal.returns-then-i-eq0
returns-then-i-eq0 c = let a = c.args in ap (λ b. cond b a.word (bit_or a.word a.other)) (sym (eq-eqb _ 0 c.if-i-eq0.true))

pub returns-else-i-eq0 : goal.returns-else-i-eq0
returns-else-i-eq0 c = let a = c.args in ap (λ b. cond b a.word (bit_or a.word a.other)) (sym (ne_eqb _ 0 c.if-i-eq0.false))
