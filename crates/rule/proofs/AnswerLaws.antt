-- Answers handed on by `?`.
--     handed_on                    an error is handed on as it is
-- Assumes nothing.
use mathlib.Core.Path.{◌≡◌, ap, ◌∙◌}
use Rattle.std.specs.Prelude.{Result, Err}
use Rattle.std.specs.Result.{IsErrAnd}
use Rattle.std.proofs.lemmas.Result.{err_from_is_err_and}
use Rattle.spec.specs.Questions.{refused}
use Rattle.rule.specs.declared.answer.Refusal.{Refusal}
use Rattle.rule.specs.Answers.{number_of, asked_of}

pub handed_on : {T A : Type 0} (f : T → A) (r : Result T Refusal) (e : Refusal) → IsErrAnd r (λ x. x ≡ e) → asked_of f r ≡ refused (number_of e.question) e.place
handed_on f r e h = let (x, is, same) = err_from_is_err_and r h in ap (asked_of f) (is ∙ ap Err same)
